-- What is told of a workload that was simulated, and the status where nothing is.
use Rattle.std.specs.Prelude.{◌≡◌, ◌≢◌, ◌⊎◌, ℕ, List, [], false, Ok, Option, IfSome}
use Rattle.std.specs.Io.KnownBytes.{Appends}
use Rattle.shm_journal.specs.Acts.{Around, Did}
use Rattle.shm_lines.specs.Workload.{Whole, workload_of}
use Rattle.shm_report.specs.Causes.{input_cause, is_after_reading, IsRight, IsWrongBy}
use Rattle.shm_report.specs.Report.{IsCutShort}
use Rattle.shm_report.specs.declared.report_error.ReportFault.{ReportFault}
use Rattle.shm_report.specs.declared.report_error.ReportFault.TheVariants as report
use Rattle.shm_simulate.specs.Tally.{IsTally}
use Rattle.shm_simulate.specs.Texts.{tally_text}
use Rattle.shm_simulate.specs.declared.simulate_runs.Tally.{Tally}
use Rattle.shm_command.specs.Status.{run_status}
use Rattle.shm_command.specs.declared.args.simulation_words.Simulation.{Simulation}

abbrev pub text_of : Tally → List ℕ
text_of tally = tally_text tally.seed tally.runs tally.outcomes.items tally.spreads.items

-- the text tells what came of the runs that are asked for, of this workload
pub record TellsRunsOf (asked : Simulation) (workload : Whole) (text : List ℕ) : Type 0 where
  pub tally : Tally
  pub is : IsTally asked.sites workload.size workload.accesses asked.odds asked.seed asked.runs tally
  pub told : text ≡ text_of tally

-- of the workload that these bytes have, where they are known
pub record TellsRuns (asked : Simulation) (bytes : Option (List ℕ)) (text : List ℕ) : Type 0 where
  pub workload : Whole
  pub read : IfSome bytes (λ bytes. workload_of asked.sites bytes ≡ Ok workload)
  pub runs : TellsRunsOf asked workload text

-- memory was refused, or a text or a script wasn't written
abbrev pub IsUnwritten : ReportFault → Type 0
IsUnwritten fault = (fault ≡ report.OutOfMemory) ⊎ (fault ≡ report.WriteFault)

-- so was written
abbrev pub Simulated : Simulation → Option (List ℕ) → Option (List ℕ) → Option (List ℕ) → Type 0
Simulated asked bytes old new = (text : List ℕ) × Appends old new text × TellsRuns asked bytes text

-- a front of such a text was written, where what was written is known
abbrev pub CutsRuns : Simulation → Option (List ℕ) → Option (List ℕ) → Option (List ℕ) → Type 0
CutsRuns asked bytes old new = (text : List ℕ) × IsCutShort old new text × TellsRuns asked bytes text

-- The simulation failed by a fault of this status: the workload is wrong as the fault says, or memory or the reader failed, and nothing was
-- written. Or writing failed, and nothing or a front of the text was.
pub record FailsRuns (asked : Simulation) (bytes : Option (List ℕ)) (status : ℕ) (old new : Option (List ℕ)) : Type 0 where
  pub fault : ReportFault
  pub told : status ≡ run_status fault
  pub input : IfSome (input_cause fault) (IsWrongBy asked.sites bytes)
  pub kind : (is_after_reading fault ≡ false) ⊎ (fault ≡ report.WriteFault)
  pub right : fault ≡ report.WriteFault → IsRight asked.sites bytes
  pub quiet : fault ≢ report.WriteFault → new ≡ old
  pub cut : fault ≡ report.WriteFault → (new ≡ old) ⊎ CutsRuns asked bytes old new

-- The simulation failed; or the scripts that are to be kept have no folder, and nothing was done.
abbrev pub IsUnsimulated : Simulation → ℕ → Around → Around → Type 0
IsUnsimulated asked status old new = FailsRuns asked old.remaining status old.contents new.contents ⊎ ((status ≡ 3) × Did old new [])

-- the workload on the input was simulated as is asked, and what came of it was written; or it failed
pub record Simulates (asked : Simulation) (status : ℕ) (old new : Around) : Type 0 where
  pub told : status ≡ 0 → Simulated asked old.remaining old.contents new.contents
  pub failed : status ≢ 0 → IsUnsimulated asked status old new
