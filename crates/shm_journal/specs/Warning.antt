-- How a process warns of another site that was begun with other numbers: by one line.
use Rattle.std.specs.Prelude.{◌≡◌, ℕ, Bool, List, [], ◌∷◌, ◌++◌, Option, None, Some, codes, if◌then◌else◌, take, OnOk, Result}
use Rattle.std.specs.Io.KnownBytes.{Appends}
use Rattle.shm_process.specs.Desk.{Desk, disagreement_in}
use Rattle.shm_process.specs.Hello.{disagreement_text}
use Rattle.shm_process.specs.declared.site_opening.Disagreement.{Disagreement}
use Rattle.shm_journal.specs.declared.process_error.ProcessFault.{ProcessFault}
use Rattle.shm_journal.specs.declared.service_stop.Stop.{Stop}

abbrev pub warning : Option Disagreement → List ℕ
warning None = []
warning (Some d) = codes "shmdbg: " ++ (disagreement_text d ++ 10 ∷ [])

-- it was written, or a front of it where the writer fails
abbrev pub Warns : Option (List ℕ) → Option (List ℕ) → Option Disagreement → Type 0
Warns old new d = (n : ℕ) × Appends old new (take n (warning d))

-- nothing more is warned of where that was done
abbrev pub warned_if : Bool → Option Disagreement → Option Disagreement
warned_if warned d = if warned then None else d

-- of one site at most; where nothing fails, of the one that the desk has noted then
abbrev pub WarnsOnce : Option (List ℕ) → Option (List ℕ) → Desk → Result Stop ProcessFault → Type 0
WarnsOnce old new desk result = (d : Option Disagreement) × Warns old new d × OnOk result (d ≡ disagreement_in desk)
