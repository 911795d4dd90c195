-- What a crash leaves of a journal. What is durable it leaves; of what was appended since, a front.
use Rattle.std.specs.Prelude.{◌≡◌, ℕ, List, [], ◌∷◌, ◌++◌, None, take}
use Rattle.shm_process.specs.Desk.{Desk, on_bytes}
use Rattle.shm_journal.specs.Acts.{Act, Append, Read, Sync, Tell, run, told_in}

pub record Disk : Type 0 where
  pub durable : List ℕ
  pub loose : List ℕ

-- a file all of which is durable, as a site finds it
abbrev pub disk_of : List ℕ → Disk
disk_of file = record { durable = file; loose = [] }

abbrev pub after_act : Disk → Act → Disk
after_act disk (Read bytes) = disk
after_act disk (Append text) = record disk { loose = disk.loose ++ text }
after_act disk Sync = record { durable = disk.durable ++ disk.loose; loose = [] }
after_act disk (Tell text) = disk

unfoldable pub after_acts : Disk → List Act → Disk
after_acts disk [] = disk
after_acts disk (act ∷ acts) = after_acts (after_act disk act) acts

-- a crash at this moment may leave this file
abbrev pub MayLeave : Disk → List ℕ → Type 0
MayLeave disk file = (n : ℕ) × (file ≡ disk.durable ++ take n disk.loose)

-- All that was told so far is told of what a desk took whose entries are all durable, behind the file that the process began with. No step waits for
-- its entry in a row, unless one did at the beginning.
pub record IsKept (first : Desk) (file : List ℕ) (told : List ℕ) (disk : Disk) : Type 0 where
  pub bytes : List ℕ
  pub told_of : told ≡ (on_bytes first bytes).told
  pub durable : disk.durable ≡ file ++ (on_bytes first bytes).recorded
  pub settled : disk.loose ≡ []
  pub closed : first.row ≡ None → (on_bytes first bytes).row ≡ None

-- whenever a run tells something, it is kept
abbrev pub KeepsBeforeTelling : Desk → List (List ℕ) → List ℕ → Type 0
KeepsBeforeTelling first reads file =
    (before after : List Act) (text : List ℕ) → run first reads ≡ before ++ Tell text ∷ after
    → IsKept first file (told_in before ++ text) (after_acts (disk_of file) before)
