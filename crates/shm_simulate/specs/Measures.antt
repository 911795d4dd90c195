-- What is measured of a run: a function of what it left.
use Rattle.std.specs.Prelude.{ℕ, zero, suc, ◌+◌, ◌-◌, ◌/◌, ◌^◌, ◌==◌, ◌&&◌, Bool, true, false, List, [], ◌∷◌, ◌++◌, Option, Some, None, count_by, fold, if◌then◌else◌, min, slice_get}
use Rattle.shm_place.specs.Limits.{page_bytes}
use Rattle.shm_model.specs.declared.asked_access.Asked.{Asked}
use Rattle.shm_model.specs.declared.asked_access.Asked.TheVariants as asked
use Rattle.shm_model.specs.declared.event.Event.{Event}
use Rattle.shm_model.specs.declared.event.Event.TheVariants as event
use Rattle.shm_lines.specs.declared.workload_access.WorkloadAccess.{WorkloadAccess}
use Rattle.shm_simulate.specs.Lines.{counted}
use Rattle.shm_simulate.specs.declared.page_message.PageMessage.{PageMessage}
use Rattle.shm_simulate.specs.declared.page_message.MessageKind.{MessageKind}
use Rattle.shm_simulate.specs.declared.page_message.MessageKind.TheVariants as kind
use Rattle.shm_simulate.specs.declared.line_state.LineState.{LineState}
use Rattle.shm_simulate.specs.declared.measure.Measure.{Measure}
use Rattle.shm_simulate.specs.declared.measure.Measure.TheVariants as measure

abbrev pub faults_in : Option LineState → ℕ
faults_in None = 0
faults_in (Some line) = line.faults

abbrev pub rounds_in : Option LineState → ℕ
rounds_in None = 0
rounds_in (Some line) = line.rounds

-- of the line of this number, of which the first access is line 2
abbrev pub faults_of : List LineState → ℕ → ℕ
faults_of lines line = faults_in (slice_get lines (line - 2))

abbrev pub rounds_of : List LineState → ℕ → ℕ
rounds_of lines line = rounds_in (slice_get lines (line - 2))

abbrev pub kind_number : MessageKind → ℕ
kind_number kind.Ask = 0
kind_number kind.Clear = 1
kind_number kind.Cleared = 2
kind_number kind.Hand = 3
kind_number kind.Page = 4
kind_number kind.Confirm = 5

abbrev pub same_kind : MessageKind → MessageKind → Bool
same_kind a b = kind_number a == kind_number b

-- the page comes to a site
abbrev pub is_move_of : ℕ → PageMessage → Bool
is_move_of page message = same_kind message.kind kind.Page && (message.page.index == page)

-- the index of the page of an access
abbrev pub index_of : Asked → ℕ
index_of (asked.Load at offset) = offset / page_bytes
index_of (asked.Store at offset byte) = offset / page_bytes

abbrev pub with_faults : ℕ → ℕ → LineState → ℕ
with_faults page total line = if index_of line.access.asked == page then min (total + line.faults) (2 ^ 64 - 1) else total

abbrev pub page_faults_of : List LineState → ℕ → ℕ
page_faults_of lines page = fold (with_faults page) 0 lines

abbrev pub is_tick : Event → Bool
is_tick (event.Tick _) = true
is_tick _ = false

-- the value of a measure, where a run of these events left these lines, and these messages about pages were handed over
abbrev pub value_in : Measure → List LineState → List PageMessage → List Event → ℕ
value_in (measure.Faults line) lines messages events = faults_of lines line
value_in (measure.Rounds line) lines messages events = rounds_of lines line
value_in (measure.Messages kind) lines messages events = count_by (λ (message : PageMessage). same_kind message.kind kind) messages
value_in (measure.PageMessages page) lines messages events = count_by (λ (message : PageMessage). message.page.index == page) messages
value_in (measure.Moves page) lines messages events = count_by (is_move_of page) messages
value_in (measure.PageFaults page) lines messages events = page_faults_of lines page
value_in measure.Ticks lines messages events = count_by is_tick events

-- ---- all that is measured of a workload

-- of the lines from this number on
abbrev pub line_measures : ℕ → List WorkloadAccess → List Measure
line_measures line [] = []
line_measures line (access ∷ accesses) = measure.Faults line ∷ measure.Rounds line ∷ line_measures (counted line) accesses

abbrev pub kind_measures : List Measure
kind_measures =
    measure.Messages kind.Ask ∷ measure.Messages kind.Clear ∷ measure.Messages kind.Cleared
    ∷ measure.Messages kind.Hand ∷ measure.Messages kind.Page ∷ measure.Messages kind.Confirm ∷ []

-- of so many pages
abbrev pub page_measures : ℕ → List Measure
page_measures zero = []
page_measures (suc page) = page_measures page ++ measure.PageMessages page ∷ measure.Moves page ∷ measure.PageFaults page ∷ []

abbrev pub measures_of : ℕ → List WorkloadAccess → List Measure
measures_of pages accesses = line_measures 2 accesses ++ (kind_measures ++ (page_measures pages ++ measure.Ticks ∷ []))
