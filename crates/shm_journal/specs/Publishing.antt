-- How what a desk holds may fail to be kept and told, and how bytes may fail to be taken.
use Rattle.std.specs.Prelude.{⊤, ◌≡◌, ◌≢◌, ℕ, List, [], ◌∷◌, ◌++◌, Some, take}
use Rattle.shm_process.specs.Desk.{Desk, on_bytes}
use Rattle.shm_journal.specs.Acts.{Append, Around, Did, Tell, keeping}
use Rattle.shm_journal.specs.declared.process_error.ProcessFault.{ProcessFault}
use Rattle.shm_journal.specs.declared.process_error.ProcessFault.TheVariants.{JournalFault, OutOfMemory, ReadFault, TooOld, WriteFault}

-- a front of what was recorded is appended, and no more is done; or all is kept, and a front of what was to be told is
abbrev pub FailsToPublish : Desk → Around → Around → ProcessFault → Type 0
FailsToPublish desk old new JournalFault = (desk.recorded ≢ []) × ((n : ℕ) × Did old new (Append (take n desk.recorded) ∷ []))
FailsToPublish desk old new WriteFault = (desk.told ≢ []) × ((n : ℕ) × Did old new (keeping desk.recorded ++ Tell (take n desk.told) ∷ []))
FailsToPublish desk old new OutOfMemory = ⊥
FailsToPublish desk old new ReadFault = ⊥
FailsToPublish desk old new (TooOld clock) = ⊥

-- memory is missing; or the desk then knows of a step of its site that it doesn't have
abbrev pub FailsToTake : Desk → List ℕ → ProcessFault → Type 0
FailsToTake desk bytes OutOfMemory = ⊤
FailsToTake desk bytes (TooOld clock) = (on_bytes desk bytes).later ≡ Some clock
FailsToTake desk bytes JournalFault = ⊥
FailsToTake desk bytes ReadFault = ⊥
FailsToTake desk bytes WriteFault = ⊥
