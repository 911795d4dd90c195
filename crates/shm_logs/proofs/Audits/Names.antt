-- A name names a step of a log that is there.
use Rattle.std.proofs.Common.{◌≡◌, ◌∙◌, ℕ, ◌<◌, List, [], length, arith, get_or, map, ap, refl, subst, sym, Some, slice_get}
use Rattle.std.proofs.lemmas.List.{get_or-map, length-map}
use Rattle.std.specs.Prelude.{option_map}
use Rattle.std.proofs.lemmas.Option.{slice_get-map, slice_get_read}
use Rattle.shm_model.specs.Log.{Logged, log_of}
use Rattle.shm_logs.specs.Boxes.Logged.{logged_of}
use Rattle.shm_logs.specs.Boxes.SiteLog.{steps_of}
use Rattle.shm_logs.specs.declared.site_boxes.site_log.SiteLog.{SiteLog}
use Rattle.shm_logs.specs.declared.site_boxes.logged_step.Step.{Step}
use Rattle.shm_laws.proofs.Log.Run.{has-log}
use Rattle.shm_logs.specs.Auditing.Logs.{logs_of}
use Rattle.shm_logs.specs.Auditing.Order.{AllName, Names}
use Rattle.shm_logs.specs.declared.log_audit.step_id.StepName.{StepName}

pub site-there : {A : Type 0} (logs : List (SiteLog A)) (s i : ℕ) → i < length (log_of (logs_of logs) s) → s < length logs
site-there logs s i below = omega (arith, has-log (logs_of logs) s (omega arith), length-map logs steps_of)

pub log-there : {A : Type 0} (logs : List (SiteLog A)) (s : ℕ) (log : SiteLog A) → s < length logs → log ≡ get_or logs s log → log_of (logs_of logs) s ≡ steps_of log
log-there logs s log below read = get_or-map steps_of logs s log [] below ∙ ap steps_of (sym read)

pub named-at : (logs : List (List Logged)) (names : List StepName) (i : ℕ) (name : StepName) → AllName logs names → i < length names → name ≡ get_or names i name → Names logs name
named-at logs names i name all below read = subst (Names logs) (sym read) (all i name below)

-- these are the steps of the log in which the name is looked up, and it is there
pub record IsWithin {A : Type 0} (logs : List (SiteLog A)) (s i : ℕ) (steps : List (Step A)) : Type 0 where
  pub log : map logged_of steps ≡ log_of (logs_of logs) s
  pub below : i < length steps

pub name-there : {A : Type 0} (logs : List (SiteLog A)) (s i : ℕ) (log : SiteLog A) (steps : List (Step A)) → i < length (log_of (logs_of logs) s)
    → log ≡ get_or logs s log → map logged_of steps ≡ steps_of log → IsWithin logs s i steps
name-there logs s i log steps named read is =
    let same : map logged_of steps ≡ log_of (logs_of logs) s = is ∙ sym (log-there logs s log (site-there logs s i named) read) in
    record { log = same; below = omega (arith, ap length same, length-map steps logged_of) }

pub step-there : {A : Type 0} (logs : List (SiteLog A)) (s i : ℕ) (steps : List (Step A)) (step : Step A) (default : Logged) → IsWithin logs s i steps
    → step ≡ get_or steps i step → get_or (log_of (logs_of logs) s) i default ≡ logged_of step
step-there logs s i steps step default within read =
    ap (λ ls. get_or ls i default) (sym within.log) ∙ get_or-map logged_of steps i step default within.below ∙ ap logged_of (sym read)

pub step-read : {A : Type 0} (steps : List (Step A)) (log : List Logged) (i : ℕ) (step : Step A) → map logged_of steps ≡ log → i < length steps → step ≡ get_or steps i step
    → slice_get log i ≡ Some (logged_of step)
step-read steps log i step same below read =
    ap (λ ls. slice_get ls i) (sym same) ∙ slice_get-map logged_of steps i ∙ ap (option_map logged_of) (slice_get_read steps (length steps) i step refl below read)
