-- What a journal's file says, and what is read of it.
use Rattle.std.specs.Prelude.{◌≡◌, ◌⊎◌, ℕ, Bool, true, false, List, IfSome, None, Some, Option, Result, Ok, Err, if◌then◌else◌, length, take}
use Rattle.std.specs.Str.{bytes_eq}
use Rattle.std.specs.Io.KnownBytes.{Consumes, IsAtEnd}
use Rattle.shm_process.specs.NodeOf.{node_of}
use Rattle.shm_journal.specs.Found.{Sound, Foreign, Bad, Partial, bytes_of_lines, found, is_empty, lines_of, reached, rest_found}
use Rattle.shm_journal.specs.Lines.{Header, read_header}
use Rattle.shm_journal.specs.ReadUpTo.{BreaksAt, EndsInState, LacksLine, ReadsToLine, StopsAt}
use Rattle.shm_journal.specs.Stages.{Stage}
use Rattle.shm_journal.specs.declared.journal_error.JournalFault.{JournalFault}
use Rattle.shm_journal.specs.declared.journal_error.JournalFault.TheVariants as journal
use Rattle.shm_journal.specs.declared.recovery_error.RecoveryFault.{RecoveryFault}
use Rattle.shm_journal.specs.declared.recovery_error.RecoveryFault.TheVariants as fault
use Rattle.shm_journal.specs.declared.recovered_site.Recovered.{Recovered}

-- what the site of this header finds in this file is what the fault says; where memory is missing or reading fails, nothing is said
abbrev pub IsFaultOf : Header → List ℕ → RecoveryFault → Type 0
IsFaultOf header file fault.OutOfMemory = Unit {0}
IsFaultOf header file fault.ReadFault = Unit {0}
IsFaultOf header file fault.Foreign = found header file ≡ Foreign
IsFaultOf header file (fault.BadLine number) = found header file ≡ Bad number
IsFaultOf header file fault.UnendedState = found header file ≡ Partial

-- and it is what the result says
abbrev pub Says : {A : Type 0} → Header → List ℕ → Result (Recovered A) RecoveryFault → Type 0
Says header file (Ok recovered) =
    (found header file ≡ Sound (node_of recovered.node))
    × (recovered.whole ≡ bytes_of_lines (lines_of file).whole)
    × (recovered.is_new ≡ is_empty (lines_of file).whole)
Says header file (Err fault) = IsFaultOf header file fault

-- there is a file of which the result says what is found: what was left to be read, where the reader tells its bytes
abbrev pub Recovers : {A : Type 0} → Header → Option (List ℕ) → Result (Recovered A) RecoveryFault → Type 0
Recovers header remaining result = (file : List ℕ) × IfSome remaining (λ known. file ≡ known) × Says header file result

-- ---- what was read

-- all that there was
abbrev pub ReadsAll : Option (List ℕ) → Option (List ℕ) → Type 0
ReadsAll old new = (bytes : List ℕ) × Consumes old new bytes × IsAtEnd new

-- Where memory is missing or the reader fails, lines that lead on, and what may be the front of one; else the line that is wrong is the last
-- that was taken, or the header is missing, or all was read and ends within a state.
abbrev pub ReadsUpTo : Header → Option (List ℕ) → Option (List ℕ) → RecoveryFault → Type 0
ReadsUpTo header old new fault.OutOfMemory = BreaksAt (reached header) old new
ReadsUpTo header old new fault.ReadFault = BreaksAt (reached header) old new
ReadsUpTo header old new fault.Foreign = StopsAt (reached header) old new Foreign
ReadsUpTo header old new (fault.BadLine number) = StopsAt (reached header) old new (Bad number) ⊎ LacksLine (reached header) old new (Bad number)
ReadsUpTo header old new fault.UnendedState = EndsInState (reached header) old new

-- so behind the first line, from this stage on
abbrev pub EntriesReadUpTo : Stage → Option (List ℕ) → Option (List ℕ) → JournalFault → Type 0
EntriesReadUpTo stage old new journal.UnendedState = EndsInState (rest_found stage) old new
EntriesReadUpTo stage old new why = ReadsToLine (rest_found stage) old new why

-- a fault of any journal, as one of a start; that it begins with a state is one of an audit alone
abbrev pub as_recovery : JournalFault → RecoveryFault
as_recovery journal.OutOfMemory = fault.OutOfMemory
as_recovery journal.ReadFault = fault.ReadFault
as_recovery (journal.BadLine number) = fault.BadLine number
as_recovery journal.UnendedState = fault.UnendedState
as_recovery journal.BeginsWithState = fault.BadLine 2

-- ---- the first line

abbrev pub other_header : Option Header → Result Bool RecoveryFault
other_header None = Err (fault.BadLine 1)
other_header (Some header) = Err fault.Foreign

-- it is this one, or why it may not be
abbrev pub header_checked : List ℕ → List ℕ → Result Bool RecoveryFault
header_checked own line = if bytes_eq line own then Ok true else other_header (read_header line)

-- there is no whole one, and it is a front of this one
abbrev pub front_checked : List ℕ → List ℕ → Result Bool RecoveryFault
front_checked own torn = if bytes_eq torn (take (length torn) own) then Ok false else Err (fault.BadLine 1)
