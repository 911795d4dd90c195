use Rattle.std.proofs.Common.{string_bytes}
use Rattle.shm_debug.proofs.TellingLemmas.{ToldUpTo}
use Rattle.shm_draw.specs.Svg.{name_text}
use Rattle.shm_draw.proofs.lifelines.tell_names.Given as goal

abbrev pub invariant-sites : goal.invariant-sites
invariant-sites g l = ToldUpTo name_text 0 l.site (string_bytes l.initial.out) (string_bytes l.out)
