-- The step that a site's journal lacks, where an audit finds that what another site received was never sent.
use Rattle.std.specs.Prelude.{ℕ, Bool, List, ◌++◌, ◌==◌, codes, None, Option, Some, if◌then◌else◌, option_and_then, slice_get}
use Rattle.std.specs.Fmt.{decimal}
use Rattle.std.specs.List.{list_any}
use Rattle.shm_model.specs.Log.{Logged, log_of}
use Rattle.shm_model.specs.Message.{Deliver, Input}
use Rattle.shm_logs.specs.declared.log_audit.audit_error.AuditFault.{AuditFault}
use Rattle.shm_logs.specs.declared.log_audit.audit_error.AuditFault.TheVariants as fault
use Rattle.shm_audit.specs.declared.find_missing_step.MissingStep.{MissingStep}

-- a step of the log has this clock
abbrev pub has_clock : List Logged → ℕ → Bool
has_clock log clock = list_any (λ l. l.stamp == clock) log

-- the step of this clock, where its site's log has none
abbrev pub missing_from : List (List Logged) → ℕ → ℕ → Option MissingStep
missing_from logs site clock = if has_clock (log_of logs site) clock then None else Some (record { site = site; clock = clock })

-- the step that sent what was received
abbrev pub missing_for : List (List Logged) → ℕ → Input → Option MissingStep
missing_for logs clock (Deliver e) = missing_from logs e.from clock
missing_for logs clock _ = None

abbrev pub missing_at : List (List Logged) → ℕ → ℕ → Option MissingStep
missing_at logs s i = option_and_then (λ l. missing_for logs l.source.at l.input) (slice_get (log_of logs s) i)

-- where the step of this cause received what was never sent
abbrev pub missing_step : List (List Logged) → AuditFault → Option MissingStep
missing_step logs (fault.Unsent s i) = missing_at logs s i
missing_step logs _ = None

abbrev pub missing_text : MissingStep → List ℕ
missing_text step =
    codes "site " ++ (decimal step.site ++ (codes " lacks the step at clock " ++ (decimal step.clock ++ codes ": its journal may be an older copy")))
