-- What a crash leaves of a site's journal in batches, in each life of the site.
use Rattle.std.specs.List.{concat}
use Rattle.std.specs.Prelude.{◌≡◌, ◌⊎◌, ℕ, List, [], ◌++◌, true, false, Result}
use Rattle.shm_process.specs.Recorded.{Event}
use Rattle.shm_process.specs.declared.process_counts.Start.{Start}
use Rattle.shm_seal.specs.Seal.{Seal}
use Rattle.shm_journal.specs.Acts.{Act, IsRun}
use Rattle.shm_journal.specs.DeskFrom.{desk_from}
use Rattle.shm_journal.specs.Found.{opened}
use Rattle.shm_journal.specs.Lines.{Header}
use Rattle.shm_journal.specs.Lives.{LeavesFront, LeavesLife, after_lives}
use Rattle.shm_journal.specs.declared.process_error.ProcessFault.{ProcessFault}
use Rattle.shm_journal.specs.declared.service_stop.Stop.{Stop}
use Rattle.shm_batches.specs.BatchCrash.{LeavesBatches, MayLeaveFile, after_acts, begun}
use Rattle.shm_batches.specs.Whole.{whole_text}

-- whatever a process does in this life, which began with these batches, at each moment of it, and whatever a crash leaves then
abbrev pub LeavesWhole : Header → List (List Event) → List (List ℕ) → Type 0
LeavesWhole header lives texts =
    (seal : Seal) (start : Start) (result : Result Stop ProcessFault) (acts before after : List Act) (file : List ℕ)
    → IsRun (desk_from header seal false (after_lives (opened header) lives) start) result acts → acts ≡ before ++ after
    → MayLeaveFile (after_acts (begun texts) before) file
    → LeavesBatches (after_acts (begun texts) before) file
    × LeavesLife header lives (concat (after_acts (begun texts) before).durable) (whole_text file)

-- a journal that is begun
abbrev pub LeavesNewWhole : Header → List (List ℕ) → Type 0
LeavesNewWhole header texts =
    (seal : Seal) (start : Start) (result : Result Stop ProcessFault) (acts before after : List Act) (file : List ℕ)
    → IsRun (desk_from header seal true (opened header) start) result acts → acts ≡ before ++ after
    → MayLeaveFile (after_acts (begun texts) before) file
    → LeavesBatches (after_acts (begun texts) before) file
    × (LeavesFront header (concat (after_acts (begun texts) before).durable) (whole_text file)
    ⊎ LeavesLife header [] (concat (after_acts (begun texts) before).durable) (whole_text file))
