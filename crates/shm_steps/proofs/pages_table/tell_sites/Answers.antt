use Rattle.std.proofs.Common.{arith, string_bytes}
use Rattle.shm_debug.proofs.TellingLemmas.{told_more}
use Rattle.shm_steps.specs.Section.{site_cell}
use Rattle.shm_steps.proofs.pages_table.tell_sites.Goals as goal

pub sites-preserved : goal.sites-preserved
sites-preserved g c =
    told_more site_cell 0 c.sites.site (string_bytes c.args.out.now) (string_bytes c.sites.out) (string_bytes c.tell_site.new.out)
    (omega arith) c.sites.invariant c.in_ok-tell_site.ensures
