-- Receipts that claim to be all: each access that a site completed is named by one of them.
use Rattle.std.specs.Prelude.{◌≡◌, ℕ, ◌<◌, Bool, true, false, List, Option, Some, None, IsTrue, slice_get}
use Rattle.shm_model.specs.declared.answer.Answer.{Answer}
use Rattle.shm_model.specs.declared.answer.Answer.TheVariants.{Byte, Stored}
use Rattle.shm_model.specs.Log.{Logged, log_of}
use Rattle.shm_model.specs.Receipt.{of_all, Receipt, ReceiptsHold}
use Rattle.shm_logs.specs.Auditing.Cause.{AllSound, IsFirstCause}
use Rattle.shm_logs.specs.Auditing.Marks.{has_receipt}
use Rattle.shm_logs.specs.declared.log_audit.audit_error.AuditFault.{AuditFault}
use Rattle.shm_logs.specs.declared.log_audit.audit_error.AuditFault.TheVariants as fault

-- an access that is answered so is completed: the byte was loaded, or stored
abbrev pub completes : Answer → Bool
completes (Byte _) = true
completes Stored = true
completes _ = false

-- there is a step, and it completed an access
abbrev pub needs_receipt : Option Logged → Bool
needs_receipt None = false
needs_receipt (Some l) = completes l.answer

-- the step of this index at this site is one of those told of, or needs no receipt
abbrev pub IsToldAt : List (List Logged) → (ℕ → ℕ → Bool) → ℕ → ℕ → Type 0
IsToldAt logs told s i = IsTrue (needs_receipt (slice_get (log_of logs s) i)) → IsTrue (told s i)

-- the step of this index at this site needs a receipt, and isn't one of those told of
pub record IsUntoldAt (logs : List (List Logged)) (told : ℕ → ℕ → Bool) (s i : ℕ) : Type 0 where
  pub needs : IsTrue (needs_receipt (slice_get (log_of logs s) i))
  pub untold : told s i ≡ false

-- the first such step, by site and index
pub record IsFirstUntoldOf (logs : List (List Logged)) (told : ℕ → ℕ → Bool) (s i : ℕ) : Type 0 where
  pub sites_before : (t j : ℕ) → t < s → IsToldAt logs told t j
  pub steps_before : (j : ℕ) → j < i → IsToldAt logs told s j
  pub this : IsUntoldAt logs told s i

abbrev pub IsUntold : List (List Logged) → (ℕ → ℕ → Bool) → AuditFault → Type 0
IsUntold logs told (fault.Untold s i) = IsFirstUntoldOf logs told s i
IsUntold logs told _ = ⊥

-- some caller has a receipt that names the step of this index at this site
abbrev pub told_by : List (List Receipt) → ℕ → ℕ → Bool
told_by callers s i = has_receipt (of_all callers) s i

-- callers have a receipt of each step that completed an access
abbrev pub AllTold : List (List Logged) → List (List Receipt) → Type 0
AllTold logs callers = (s i : ℕ) → IsToldAt logs (told_by callers) s i

-- the first step, by site and index, that completed an access and of which no caller has a receipt
abbrev pub IsFirstUntold : List (List Logged) → List (List Receipt) → ℕ → ℕ → Type 0
IsFirstUntold logs callers s i = IsFirstUntoldOf logs (told_by callers) s i

-- The first cause why logs and receipts, if these are all, can't be those of sites that ran: one that stands whether they are all or not,
-- or else the first completed access that is untold.
abbrev pub IsFirstCauseOfAll : List (List Logged) → List (List Receipt) → AuditFault → Type 0
IsFirstCauseOfAll logs callers (fault.Untold s i) = AllSound logs × ReceiptsHold logs callers × IsFirstUntold logs callers s i
IsFirstCauseOfAll logs callers (fault.Unsent s i) = IsFirstCause logs callers (fault.Unsent s i)
IsFirstCauseOfAll logs callers (fault.StampOrder s i) = IsFirstCause logs callers (fault.StampOrder s i)
IsFirstCauseOfAll logs callers (fault.Forged s i) = IsFirstCause logs callers (fault.Forged s i)
IsFirstCauseOfAll logs callers fault.OutOfMemory = IsFirstCause logs callers fault.OutOfMemory
