use Rattle.std.proofs.Common.{◌≡◌}
use Rattle.std.specs.Prelude.{map}
use Rattle.shm_state.specs.PartOf.{part_in}
use Rattle.shm_state.specs.Told.{told_all, told_nothing}
use Rattle.shm_state.specs.ToldOf.{Tells}
use Rattle.shm_journal.specs.Shortened.{AreTold}
use Rattle.shm_journal.proofs.journal_shortening.take_parts.Given as goal

-- the parts so far are told
abbrev pub invariant-parts : goal.invariant-parts
invariant-parts g l = record {
  seat : (l.told.sites ≡ l.fn.sites) × (l.told.me ≡ l.fn.me);
  tells : Tells l.told (told_all (map part_in l.yielded) told_nothing);
  told : AreTold l.fn.sites l.fn.me (map part_in l.yielded);
}
