-- What is told of an audited run.
use Rattle.std.specs.Prelude.{◌≡◌, ℕ, Bool, true, false, List, ◌++◌, Option}
use Rattle.shm_logs.specs.Auditing.Audit.{IsAudited}
use Rattle.shm_logs.specs.Auditing.Callers.{callers_of}
use Rattle.shm_logs.specs.Auditing.Complete.{AllTold}
use Rattle.shm_logs.specs.Auditing.Logs.{logs_of, AreLogsOf}
use Rattle.shm_model.specs.World.{Preset}
use Rattle.shm_report.specs.Callers.{AllServed}
use Rattle.shm_report.specs.Counts.{counts_of, summary_text}
use Rattle.shm_report.specs.Report.{whole_of, IsReportOf}
use Rattle.shm_report.specs.declared.audited_run.Audited.{Audited}
use Rattle.shm_report.specs.declared.run_counts.Counts.{Counts}

-- An audit accepted what the sites logged and what their callers were told: all of what they were told, a receipt for each line.
pub record IsAccepted (run : Audited) : Type 0 where
  pub logs : AreLogsOf run.sites run.workload.pages run.ran.logs.items
  pub served : AllServed run.sites run.workload.accesses.items run.ran.callers.items
  pub accepted : IsAudited (Preset run.sites run.workload.pages) (logs_of run.ran.logs.items) (callers_of run.ran.callers.items) run.events.items
  pub complete : AllTold (logs_of run.ran.logs.items) (callers_of run.ran.callers.items)

-- the lines are the report of the run, which an audit accepted
abbrev pub IsReportOfRun : Audited → List ℕ → Type 0
IsReportOfRun run lines =
    IsAccepted run → IsReportOf run.sites (whole_of run.workload) (logs_of run.ran.logs.items) run.ran.callers.items run.events.items lines

abbrev pub counts_of_run : Audited → Counts
counts_of_run run = counts_of (logs_of run.ran.logs.items) run.events.items

-- its report, with a summary of it or without
abbrev pub TellsRun : Bool → Audited → List ℕ → Type 0
TellsRun true run text = (lines : List ℕ) × (took : Option ℕ) × IsReportOfRun run lines × (text ≡ lines ++ summary_text (counts_of_run run) took)
TellsRun false run text = IsReportOfRun run text
