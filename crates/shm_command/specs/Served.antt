-- What a site's process did, by how it ended.
use Rattle.std.specs.Prelude.{⊤, ◌≡◌, ◌⊎◌, ℕ, Bool, [], Option, Result, Ok, Err}
use Rattle.std.specs.Io.KnownBytes.{IsAtEnd}
use Rattle.shm_journal.specs.Acts.{Around, Did}
use Rattle.shm_journal.specs.Stretches.{ServedOn, StoppedBetween}
use Rattle.shm_journal.specs.Lines.{Header}
use Rattle.shm_seal.specs.Seal.{Seal}
use Rattle.shm_journal.specs.declared.process_error.ProcessFault.{ProcessFault}
use Rattle.shm_journal.specs.declared.process_error.ProcessFault.TheVariants.{JournalFault, OutOfMemory, ReadFault, TooOld, WriteFault}
use Rattle.shm_journal.specs.declared.recovery_error.RecoveryFault.{RecoveryFault}
use Rattle.shm_journal.specs.declared.recovery_error.RecoveryFault.TheVariants as recovery
use Rattle.shm_process.specs.Desk.{Desk}
use Rattle.shm_journal.specs.declared.service_stop.Stop.TheVariants.{Ended as InputEnded}
use Rattle.shm_command.specs.Begun.{BeginsWith}
use Rattle.shm_command.specs.declared.site_error.SiteFault.{SiteFault}
use Rattle.shm_command.specs.declared.site_error.SiteFault.TheVariants as fault

-- it had begun, and then memory for its restart was refused, or the folder of its shorter journal couldn't be made durable
abbrev pub IsBetween : SiteFault → Type 0
IsBetween fault.OutOfMemory = ⊤
IsBetween fault.Unlisted = ⊤
IsBetween _ = ⊥

-- from this desk on, in stretches; where it ends well, all of its input was taken
abbrev pub ServesFrom : Desk → Result (Unit {0}) SiteFault → Around → Around → Type 0
ServesFrom desk (Ok end) old new = ServedOn desk old new (Ok InputEnded) × IsAtEnd new.remaining
ServesFrom desk (Err (fault.Ended why)) old new = ServedOn desk old new (Err why)
ServesFrom desk (Err (fault.Loose durable)) old new = ServedOn desk old new (Err JournalFault)
ServesFrom desk (Err fault.OutOfMemory) old new = StoppedBetween desk old new
ServesFrom desk (Err fault.Unopened) old new = ⊥
ServesFrom desk (Err fault.Missing) old new = ⊥
ServesFrom desk (Err fault.NoFile) old new = ⊥
ServesFrom desk (Err fault.Existing) old new = ⊥
ServesFrom desk (Err fault.Blank) old new = ⊥
ServesFrom desk (Err (fault.Damaged bytes)) old new = ⊥
ServesFrom desk (Err fault.Unmarked) old new = ⊥
ServesFrom desk (Err fault.Taken) old new = ⊥
ServesFrom desk (Err fault.Uncut) old new = ⊥
ServesFrom desk (Err fault.Unlisted) old new = StoppedBetween desk old new
ServesFrom desk (Err (fault.Unrecovered why)) old new = ⊥
ServesFrom desk (Err (fault.Unopenable why)) old new = ⊥

-- it couldn't begin, and nothing was read and nothing told; or it had begun, and stopped between two stretches
abbrev pub IsBroken : Option Bool → Seal → Header → Around → Around → Type 0
IsBroken kept seal header old new = Did old new [] ⊎ ((desk : Desk) × BeginsWith kept seal header desk × StoppedBetween desk old new)

-- from the desk that it begins with; or it couldn't begin, and nothing was read and nothing told
abbrev pub IsServed : Option Bool → Seal → Header → Result (Unit {0}) SiteFault → Around → Around → Type 0
IsServed kept seal header (Ok end) old new = (desk : Desk) × BeginsWith kept seal header desk × ServedOn desk old new (Ok InputEnded) × IsAtEnd new.remaining
IsServed kept seal header (Err (fault.Ended why)) old new = (desk : Desk) × BeginsWith kept seal header desk × ServedOn desk old new (Err why)
IsServed kept seal header (Err (fault.Loose durable)) old new = (desk : Desk) × BeginsWith kept seal header desk × ServedOn desk old new (Err JournalFault)
IsServed kept seal header (Err fault.OutOfMemory) old new = IsBroken kept seal header old new
IsServed kept seal header (Err fault.Unopened) old new = Did old new []
IsServed kept seal header (Err fault.Missing) old new = Did old new []
IsServed kept seal header (Err fault.NoFile) old new = Did old new []
IsServed kept seal header (Err fault.Existing) old new = Did old new []
IsServed kept seal header (Err fault.Blank) old new = Did old new []
IsServed kept seal header (Err (fault.Damaged bytes)) old new = Did old new []
IsServed kept seal header (Err fault.Unmarked) old new = Did old new []
IsServed kept seal header (Err fault.Taken) old new = Did old new []
IsServed kept seal header (Err fault.Uncut) old new = Did old new []
IsServed kept seal header (Err fault.Unlisted) old new = IsBroken kept seal header old new
IsServed kept seal header (Err (fault.Unrecovered why)) old new = Did old new []
IsServed kept seal header (Err (fault.Unopenable why)) old new = Did old new []

-- it ended before it read and told anything
abbrev pub IsUnbegun : SiteFault → Type 0
IsUnbegun (fault.Ended why) = ⊥
IsUnbegun (fault.Loose durable) = ⊥
IsUnbegun _ = ⊤

abbrev pub recovery_status : RecoveryFault → ℕ
recovery_status recovery.OutOfMemory = 3
recovery_status recovery.ReadFault = 3
recovery_status recovery.Foreign = 1
recovery_status (recovery.BadLine number) = 1
recovery_status recovery.UnendedState = 1

-- the journal is too old; or something failed
abbrev pub process_status : ProcessFault → ℕ
process_status OutOfMemory = 3
process_status ReadFault = 3
process_status WriteFault = 3
process_status JournalFault = 3
process_status (TooOld clock) = 1

-- the journal isn't as it was asked for, or is none of this site's, or too old; or something failed
abbrev pub site_status : Result (Unit {0}) SiteFault → ℕ
site_status (Ok end) = 0
site_status (Err (fault.Unrecovered why)) = recovery_status why
site_status (Err (fault.Ended why)) = process_status why
site_status (Err fault.OutOfMemory) = 3
site_status (Err fault.Unopened) = 3
site_status (Err fault.Missing) = 1
site_status (Err fault.NoFile) = 1
site_status (Err fault.Existing) = 1
site_status (Err fault.Blank) = 1
site_status (Err (fault.Damaged bytes)) = 1
site_status (Err fault.Unmarked) = 1
site_status (Err fault.Taken) = 3
site_status (Err fault.Uncut) = 3
site_status (Err fault.Unlisted) = 3
site_status (Err (fault.Unopenable why)) = 3
site_status (Err (fault.Loose durable)) = 3

-- the site ended with this status, and did what such an end does
abbrev pub IsSite : Option Bool → Seal → Header → ℕ → Around → Around → Type 0
IsSite kept seal header status old new = (end : Result (Unit {0}) SiteFault) × (status ≡ site_status end) × IsServed kept seal header end old new
