-- What a crash leaves of a journal's file in batches: all that are durable, and behind them any bytes.
use Rattle.std.specs.List.{concat}
use Rattle.std.specs.Prelude.{◌≡◌, ℕ, List, [], ◌∷◌, ◌++◌, take}
use Rattle.shm_batches.specs.Chain.{chain_after, file_text, unmarked}
use Rattle.shm_batches.specs.Whole.{whole_batches, whole_on, whole_text}
use Rattle.shm_journal.specs.Acts.{Act, Append, Read, Sync, Tell}
use Rattle.shm_journal.specs.Crash as journal

-- the batches that are durable, and those that were appended since
pub record Disk : Type 0 where
  pub durable : List (List ℕ)
  pub loose : List (List ℕ)

-- those with which a life begins
abbrev pub begun : List (List ℕ) → Disk
begun texts = record { durable = texts; loose = [] }

-- what is appended at once is a batch
abbrev pub after_act : Disk → Act → Disk
after_act disk (Read bytes) = disk
after_act disk (Append text) = record disk { loose = disk.loose ++ text ∷ [] }
after_act disk Sync = record { durable = disk.durable ++ disk.loose; loose = [] }
after_act disk (Tell text) = disk

unfoldable pub after_acts : Disk → List Act → Disk
after_acts disk [] = disk
after_acts disk (act ∷ acts) = after_acts (after_act disk act) acts

-- the lines of all batches, as of a journal without marks
abbrev pub in_lines : Disk → journal.Disk
in_lines disk = record { durable = concat disk.durable; loose = concat disk.loose }

-- The batches that a reader finds behind those that are durable were appended there: no bytes that nobody wrote form a next batch with its digest.
-- It is what is taken for granted of a crash.
pub record Unforged (disk : Disk) (tail : List ℕ) : Type 0 where
  pub count : ℕ
  pub appended : whole_on (chain_after unmarked disk.durable) [] tail ≡ take count disk.loose

-- a crash at this moment may leave this file
pub record MayLeaveFile (disk : Disk) (file : List ℕ) : Type 0 where
  pub tail : List ℕ
  pub unforged : Unforged disk tail
  pub bytes : file ≡ file_text unmarked disk.durable ++ tail

-- It leaves the durable batches, and the first of those that were appended since; their lines are what a crash may leave of a journal without
-- marks.
pub record LeavesBatches (disk : Disk) (file : List ℕ) : Type 0 where
  pub count : ℕ
  pub whole : whole_batches file ≡ disk.durable ++ take count disk.loose
  pub lines : journal.MayLeave (in_lines disk) (whole_text file)
