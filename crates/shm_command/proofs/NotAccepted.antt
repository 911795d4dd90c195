-- Why journals weren't accepted.
use Rattle.std.proofs.Common.{ℕ, Ok, Err, IfErr}
use Rattle.std.specs.Prelude.{Result}
use Rattle.shm_command.specs.Audited.{IsCauseOf, IsUnread}
use Rattle.shm_command.specs.declared.audit_failure.Unaudited.{Unaudited}
use Rattle.shm_command.specs.declared.audit_failure.Unaudited.TheVariants as cause

-- a fault that isn't the logs' says nothing of them
pub unread_cause : (journals sites : ℕ) (fault : Unaudited) → IsUnread fault → IsCauseOf journals sites fault
unread_cause journals sites (cause.Unaccepted fault) unread = absurd unread
unread_cause journals sites cause.OutOfMemory unread = tt
unread_cause journals sites cause.WriteFault unread = tt
unread_cause journals sites (cause.Unopened at) unread = tt
unread_cause journals sites (cause.Unread at fault) unread = tt
unread_cause journals sites (cause.Damaged at bytes) unread = tt
unread_cause journals sites (cause.Unmarked at) unread = tt
unread_cause journals sites (cause.OtherState at) unread = tt
unread_cause journals sites (cause.OtherCluster at) unread = tt

pub unread_causes : {X : Type 0} (r : Result X Unaudited) (journals sites : ℕ) → IfErr r IsUnread → IfErr r (IsCauseOf journals sites)
unread_causes (Ok x) journals sites unread = tt
unread_causes (Err fault) journals sites unread = unread_cause journals sites fault unread
