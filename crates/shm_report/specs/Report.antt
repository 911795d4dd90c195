-- The report of a workload that was run and audited: what its lines were answered, and that the audit found nothing.
use Rattle.std.specs.Prelude.{◌≡◌, ◌≤◌, ◌⊎◌, ℕ, ◌+◌, Bool, true, false, List, [], ◌∷◌, ◌++◌, codes, length, take, IfSome, Ok, Option, Some, Vec, slice_get}
use Rattle.std.specs.Io.KnownBytes.{Appends}
use Rattle.std.specs.declared.alloc.Global.{Global}
use Rattle.shm_logs.specs.Auditing.Audit.{IsAudited}
use Rattle.shm_logs.specs.Auditing.Callers.{callers_of}
use Rattle.shm_logs.specs.Auditing.Complete.{AllTold}
use Rattle.shm_logs.specs.Boxes.Receipt.{receipt_of}
use Rattle.shm_logs.specs.declared.site_boxes.receipt.Receipt.{Receipt}
use Rattle.shm_place.specs.Limits.{max_sites}
use Rattle.shm_model.specs.declared.event.Event.{Event}
use Rattle.shm_model.specs.Log.{Logged}
use Rattle.shm_model.specs.World.{Preset}
use Rattle.shm_report.specs.Callers.{AllServed, Serves, lines_of}
use Rattle.shm_report.specs.Counts.{counts_of, summary_text}
use Rattle.shm_text.specs.Text.{answer_text, line_text}
use Rattle.shm_lines.specs.Workload.{Whole, workload_of}
use Rattle.shm_lines.specs.declared.workload_access.WorkloadAccess.{WorkloadAccess}
use Rattle.shm_lines.specs.declared.workload.Workload.{Workload}

-- how many of the accesses before this place are the site's
abbrev pub earlier : ℕ → List WorkloadAccess → ℕ → ℕ
earlier site accesses place = length (lines_of site (take place accesses))

-- the caller of this site has this receipt at this place
pub record HasReceipt {A : Type 0} (callers : List (Vec Receipt A)) (site place : ℕ) (receipt : Receipt) : Type 0 where
  pub caller : Vec Receipt A
  pub own : slice_get callers site ≡ Some caller
  pub there : slice_get caller.items place ≡ Some receipt

-- The receipt of the access at this place of the workload: its site's caller has it, behind the receipts of the site's earlier accesses.
-- It tells of this very access.
pub record IsReceiptOf {A : Type 0} (accesses : List WorkloadAccess) (callers : List (Vec Receipt A)) (place : ℕ) (receipt : Receipt) : Type 0 where
  pub access : WorkloadAccess
  pub made : slice_get accesses place ≡ Some access
  pub told : HasReceipt callers access.site (earlier access.site accesses place) receipt
  pub serves : Serves access receipt

-- for each access its receipt, in the order of the lines
pub record AreReceiptsOf {A : Type 0} (accesses : List WorkloadAccess) (callers : List (Vec Receipt A)) (receipts : List Receipt) : Type 0 where
  pub count : length receipts ≡ length accesses
  pub each : (place : ℕ) (receipt : Receipt) → slice_get receipts place ≡ Some receipt → IsReceiptOf accesses callers place receipt

-- the caller of this site has no receipt at this place, or there is no such site anywhere
abbrev pub LacksReceipt : {A : Type 0} → List (Vec Receipt A) → ℕ → ℕ → Type 0
LacksReceipt callers site place = ((receipt : Receipt) → ¬ HasReceipt callers site place receipt) ⊎ (max_sites ≤ site)

-- what the receipts answer, a line each, from this number on
abbrev pub answers_text : ℕ → List Receipt → List ℕ
answers_text number [] = []
answers_text number (receipt ∷ receipts) = line_text number (answer_text (receipt_of receipt).answer) ++ answers_text (number + 1) receipts

-- one more line tells what this receipt of the site's caller answers
abbrev pub TellsReceipt : {A : Type 0} → List (Vec Receipt A) → ℕ → ℕ → ℕ → List ℕ → List ℕ → Type 0
TellsReceipt callers site place number old new =
    (receipt : Receipt) × HasReceipt callers site place receipt × (new ≡ old ++ line_text number (answer_text (receipt_of receipt).answer))

-- line 1 made the sites ready
abbrev pub lines_text : List Receipt → List ℕ
lines_text receipts = line_text 1 (codes "ready") ++ answers_text 2 receipts

-- the text tells each line the answer of the line's own receipt
abbrev pub TellsLines : {A : Type 0} → List WorkloadAccess → List (Vec Receipt A) → List ℕ → Type 0
TellsLines accesses callers text = (receipts : List Receipt) × AreReceiptsOf accesses callers receipts × (text ≡ lines_text receipts)

-- the last line
abbrev pub audit_yes : List ℕ
audit_yes = codes "audit yes\n"

abbrev pub report_text : List Receipt → List ℕ
report_text receipts = lines_text receipts ++ audit_yes

abbrev pub whole_of : {A : Type 0} → Workload A → Whole
whole_of workload = record { size = workload.pages; accesses = workload.accesses.items }

-- The text reports what came of a workload that was run over so many sites: an audit accepted what the sites logged and what their callers
-- were told, each caller was told a receipt for each of its site's lines, and each line of the text tells its own receipt's answer. Every
-- byte that any site loaded or stored is named by the receipt of a line, so the accesses that were made are exactly the lines'.
pub record IsReportOf (sites : ℕ) (workload : Whole) (logs : List (List Logged)) (callers : List (Vec Receipt Global))
    (events : List Event) (text : List ℕ) : Type 0 where
  pub a_log_each : length logs ≡ sites
  pub audited : IsAudited (Preset sites workload.size) logs (callers_of callers) events
  pub complete : AllTold logs (callers_of callers)
  pub served : AllServed sites workload.accesses callers
  pub receipts : List Receipt
  pub answered : AreReceiptsOf workload.accesses callers receipts
  pub told : text ≡ report_text receipts

-- so it reports the workload that these bytes have, where they are known
pub record IsReport (sites : ℕ) (bytes : Option (List ℕ)) (text : List ℕ) : Type 0 where
  pub workload : Whole
  pub read : IfSome bytes (λ bytes. workload_of sites bytes ≡ Ok workload)
  pub logs : List (List Logged)
  pub callers : List (Vec Receipt Global)
  pub events : List Event
  pub reported : IsReportOf sites workload logs callers events text

-- So it is, and behind the report stands how much was done in the very run that is reported. What is said of the time isn't said here.
pub record IsSummedReport (sites : ℕ) (bytes : Option (List ℕ)) (text : List ℕ) : Type 0 where
  pub workload : Whole
  pub read : IfSome bytes (λ bytes. workload_of sites bytes ≡ Ok workload)
  pub logs : List (List Logged)
  pub callers : List (Vec Receipt Global)
  pub events : List Event
  pub lines : List ℕ
  pub reported : IsReportOf sites workload logs callers events lines
  pub took : Option ℕ
  pub told : text ≡ lines ++ summary_text (counts_of logs events) took

-- with a summary, or without
abbrev pub IsToldReport : Bool → ℕ → Option (List ℕ) → List ℕ → Type 0
IsToldReport true sites bytes text = IsSummedReport sites bytes text
IsToldReport false sites bytes text = IsReport sites bytes text

-- a front of this text was written, where what was written is known
pub record IsCutShort (old new : Option (List ℕ)) (text : List ℕ) : Type 0 where
  pub front : List ℕ
  pub rest : List ℕ
  pub parts : text ≡ front ++ rest
  pub written : Appends old new front
