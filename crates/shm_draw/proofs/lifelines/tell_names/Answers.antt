use Rattle.std.proofs.Common.{arith, string_bytes}
use Rattle.shm_debug.proofs.TellingLemmas.{told_more}
use Rattle.shm_draw.specs.Svg.{name_text}
use Rattle.shm_draw.proofs.lifelines.tell_names.Goals as goal

pub sites-preserved : goal.sites-preserved
sites-preserved g c =
    told_more name_text 0 c.sites.site (string_bytes c.args.out.now) (string_bytes c.sites.out) (string_bytes c.tell_name.new.out)
    (omega arith) c.sites.invariant c.in_ok-tell_name.ensures
