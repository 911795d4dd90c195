-- Exit statuses, and what each tells of the script on standard input and of the text on standard output.
use Rattle.std.specs.Prelude.{◌≡◌, ◌≢◌, ◌⊎◌, ℕ, Bool, false, true, List, [], codes, IfSome, Option, Some, Result, Ok, Err}
use Rattle.std.specs.Io.KnownBytes.{Appends}
use Rattle.clap.specs.Words.{Text}
use Rattle.shm_debug.specs.Script.{Script, script_of}
use Rattle.shm_debug.specs.Replay.{Ends}
use Rattle.shm_debug.specs.declared.script_summary_and_error.Summary.{Summary}
use Rattle.shm_draw.specs.Captions.{Beside, captions_in}
use Rattle.shm_draw.specs.Drawn.{Draws}
use Rattle.shm_draw.specs.declared.caption.CaptionFault.{CaptionFault}
use Rattle.shm_draw.specs.declared.caption.CaptionFault.TheVariants as captions
use Rattle.shm_place.specs.declared.page_id.PageId.{PageId}
use Rattle.shm_debug.specs.declared.script_summary_and_error.DebugFault.{DebugFault}
use Rattle.shm_debug.specs.declared.script_summary_and_error.DebugFault.TheVariants.{OutOfMemory, BadLine, LineTooLong, TooManyLines, ReadFault, WriteFault}
use Rattle.shm_steps.specs.Stepped.{TellsSteps}
use Rattle.shm_report.specs.Audited.{TellsRun}
use Rattle.shm_report.specs.declared.audited_run.Audited.{Audited}
use Rattle.shm_report.specs.Causes.{audit_cause, input_cause, is_after_reading, IsFound, IsRight, IsWrongBy}
use Rattle.shm_report.specs.Report.{IsCutShort, IsToldReport}
use Rattle.shm_report.specs.declared.report_error.ReportFault.{ReportFault}
use Rattle.shm_report.specs.declared.report_error.ReportFault.TheVariants as report
use Rattle.shm_command.specs.Words.{asked_for, fault_in}

-- the script is wrong, or something else failed
abbrev pub fault_status : DebugFault → ℕ
fault_status (BadLine number) = 1
fault_status (LineTooLong number) = 1
fault_status TooManyLines = 1
fault_status OutOfMemory = 3
fault_status ReadFault = 3
fault_status WriteFault = 3

-- the workload is wrong; the run was not what an audit accepts, or gave up; or something else failed
abbrev pub run_status : ReportFault → ℕ
run_status (report.BadLine number) = 1
run_status (report.LineTooLong number) = 1
run_status report.TooManyLines = 1
run_status (report.GaveUp number) = 4
run_status report.Logs = 4
run_status (report.Audit cause) = 4
run_status report.OutOfMemory = 3
run_status report.ReadFault = 3
run_status report.WriteFault = 3
run_status report.NoThread = 3
run_status report.ClockEnd = 3

abbrev pub status_of : Result Summary DebugFault → ℕ
status_of (Ok summary) = 0
status_of (Err fault) = fault_status fault

-- the program takes the words: clap does, each number is spelled plainly, and the site that is named is one of those that there are
abbrev pub Takes : List Text → Type 0
Takes words = fault_in words ≡ []

-- and they ask for the subcommand of this name
abbrev pub Asks : Text → List Text → Type 0
Asks name words = Takes words × (asked_for words ≡ Some name)

-- for one of those whose end an audit judges
abbrev pub AsksForAudit : List Text → Type 0
AsksForAudit words = Asks (codes "run") words ⊎ Asks (codes "audit") words

-- the script was replayed to an end of this status, and what was then written is what such an end writes
abbrev pub Replays : Script → ℕ → Option (List ℕ) → Option (List ℕ) → Type 0
Replays script status old new =
    (end : Result Summary DebugFault) × (text : List ℕ) × (status ≡ status_of end) × Appends old new text × Ends script end text

-- so a script that lies in a file; or there was none to be read, and nothing was written
abbrev pub ReplaysFile : ℕ → Option (List ℕ) → Option (List ℕ) → Type 0
ReplaysFile status old new = ((bytes : List ℕ) × Replays (script_of bytes) status old new) ⊎ ((status ≡ 3) × (new ≡ old))

abbrev pub drawn_status : Result (Unit {0}) DebugFault → ℕ
drawn_status (Ok _) = 0
drawn_status (Err fault) = fault_status fault

-- the script's picture, or its steps, with these captions, to this end
abbrev pub DrawsAs : Bool → Option PageId → List Beside → Script → Result (Unit {0}) DebugFault → List ℕ → Type 0
DrawsAs false page besides = Draws page besides
DrawsAs true page besides = TellsSteps page besides

-- what the script leaves was drawn to an end of this status, and what was then written is what such an end writes
abbrev pub Pictures : Bool → Option PageId → List Beside → Script → ℕ → Option (List ℕ) → Option (List ℕ) → Type 0
Pictures steps page besides script status old new =
    (end : Result (Unit {0}) DebugFault) × (text : List ℕ) × (status ≡ drawn_status end) × Appends old new text × DrawsAs steps page besides script end text

-- so a script that lies in a file; or there was none to be read, and nothing was written
abbrev pub PicturesFile : Bool → Option PageId → List Beside → ℕ → Option (List ℕ) → Option (List ℕ) → Type 0
PicturesFile steps page besides status old new = ((bytes : List ℕ) × Pictures steps page besides (script_of bytes) status old new) ⊎ ((status ≡ 3) × (new ≡ old))

-- the notes are wrong, or memory was refused
abbrev pub caption_status : CaptionFault → ℕ
caption_status (captions.BadNote number) = 1
caption_status captions.OutOfMemory = 3

-- notes that lie in a file have a fault; or they couldn't be read
abbrev pub HasNoCaptions : ℕ → Type 0
HasNoCaptions status = ((bytes : List ℕ) × (number : ℕ) × (captions_in bytes ≡ Err number) × (status ≡ 1)) ⊎ (status ≡ 3)

-- a workload was run over so many sites, and what was then written is the report of it, with a summary or without
abbrev pub Reports : ℕ → Bool → Option (List ℕ) → Option (List ℕ) → Option (List ℕ) → Type 0
Reports sites summed workload old new = (text : List ℕ) × Appends old new text × IsToldReport summed sites workload text

-- a front of what is told of a run was written, where what was written is known
abbrev pub CutsRun : Bool → Audited → Option (List ℕ) → Option (List ℕ) → Type 0
CutsRun summed run old new = (text : List ℕ) × IsCutShort old new text × TellsRun summed run text

-- a front of a report of this workload
abbrev pub CutsReport : Bool → ℕ → Option (List ℕ) → Option (List ℕ) → Option (List ℕ) → Type 0
CutsReport summed sites workload old new = (text : List ℕ) × IsCutShort old new text × IsToldReport summed sites workload text

-- A run of a workload failed by a fault of this status. What the fault says of the workload, or of what the sites logged, is so over so many
-- sites. Nothing was written; or writing failed, and a front of a report was.
pub record Fails (sites : ℕ) (summed : Bool) (workload : Option (List ℕ)) (status : ℕ) (old new : Option (List ℕ)) : Type 0 where
  pub fault : ReportFault
  pub told : status ≡ run_status fault
  pub input : IfSome (input_cause fault) (IsWrongBy sites workload)
  pub right : is_after_reading fault ≡ true → IsRight sites workload
  pub audit : IfSome (audit_cause fault) (IsFound sites workload)
  pub quiet : fault ≢ report.WriteFault → new ≡ old
  pub cut : fault ≡ report.WriteFault → (new ≡ old) ⊎ CutsReport summed sites workload old new
