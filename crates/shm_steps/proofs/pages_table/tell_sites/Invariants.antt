use Rattle.std.proofs.Common.{string_bytes}
use Rattle.shm_debug.proofs.TellingLemmas.{ToldUpTo}
use Rattle.shm_steps.specs.Section.{site_cell}
use Rattle.shm_steps.proofs.pages_table.tell_sites.Given as goal

abbrev pub invariant-sites : goal.invariant-sites
invariant-sites g l = ToldUpTo site_cell 0 l.site (string_bytes l.initial.out) (string_bytes l.out)
