-- Receipts that are all: from marks to the receipts that name their steps, and at most one first cause.
use Rattle.std.proofs.Common.{◌≡◌, ℕ, ◌<◌, ◌⊎◌, Bool, true, false, inl, inr, List, Option, Some, None, Result, Ok, Err, IfErr, IsTrue, length, refl, sym, ◌∙◌, subst, slice_get}
use Rattle.std.proofs.lemmas.Option.{slice_get_within}
use Rattle.shm_model.specs.declared.event.Event.{Event}
use Rattle.shm_model.specs.Log.{Logged, log_of}
use Rattle.shm_model.specs.Receipt.{of_all, Receipt, ReceiptsHold}
use Rattle.shm_model.specs.World.{Opening}
use Rattle.shm_logs.specs.Auditing.Audit.{IsAudited}
use Rattle.shm_logs.specs.Auditing.Cause.{AllSound, IsFirstCause}
use Rattle.shm_logs.specs.Auditing.Complete.{needs_receipt, told_by, AllTold, IsFirstCauseOfAll, IsFirstUntold, IsFirstUntoldOf, IsToldAt, IsUntold, IsUntoldAt}
use Rattle.shm_logs.specs.Auditing.Marks.{mark_at, MarksName}
use Rattle.shm_logs.specs.declared.log_audit.audit_error.AuditFault.{AuditFault}
use Rattle.shm_logs.specs.declared.log_audit.audit_error.AuditFault.TheVariants as fault
use Rattle.shm_logs.proofs.Audits.CauseLemmas.{held-no-cause, in-order, one-cause}
use Rattle.shm_logs.proofs.Audits.Lookups.{site-below}

needs-some : (o : Option Logged) → IsTrue (needs_receipt o) → (l : Logged) × (o ≡ Some l)
needs-some None h = cc
needs-some (Some l) h = (l, refl)

-- a step that needs a receipt is a step of a site
pub needs-below : (logs : List (List Logged)) (s i : ℕ) → IsTrue (needs_receipt (slice_get (log_of logs s) i)) → s < length logs
needs-below logs s i h = let step = needs-some (slice_get (log_of logs s) i) h in site-below logs s i step.0 step.1

pub needs-within : (logs : List (List Logged)) (s i : ℕ) → IsTrue (needs_receipt (slice_get (log_of logs s) i)) → i < length (log_of logs s)
needs-within logs s i h = let step = needs-some (slice_get (log_of logs s) i) h in slice_get_within (log_of logs s) i step.0 step.1

module _ (logs : List (List Logged)) (callers : List (List Receipt)) (marks : List (List Bool)) (names : MarksName logs marks (of_all callers)) where
  pub told-named : ((s i : ℕ) → IsToldAt logs (mark_at marks) s i) → AllTold logs callers
  told-named told s i needs = sym (names.named s i) ∙ told s i needs

  untold-named : (s i : ℕ) → IsFirstUntoldOf logs (mark_at marks) s i → IsFirstUntold logs callers s i
  untold-named s i h = record {
    sites_before = λ t j b needs. sym (names.named t j) ∙ h.sites_before t j b needs;
    steps_before = λ j b needs. sym (names.named s j) ∙ h.steps_before j b needs;
    this = record { needs = h.this.needs; untold = sym (names.named s i) ∙ h.this.untold };
  }

  untold-first : (f : AuditFault) → AllSound logs → ReceiptsHold logs callers → IsUntold logs (mark_at marks) f → IsFirstCauseOfAll logs callers f
  untold-first (fault.Unsent s i) sound held h = absurd h
  untold-first (fault.StampOrder s i) sound held h = absurd h
  untold-first (fault.Forged s i) sound held h = absurd h
  untold-first (fault.Untold s i) sound held h = (sound, held, untold-named s i h)
  untold-first fault.OutOfMemory sound held h = absurd h

cause-of-all : (logs : List (List Logged)) (callers : List (List Receipt)) (f : AuditFault) → IsFirstCause logs callers f → IsFirstCauseOfAll logs callers f
cause-of-all logs callers (fault.Unsent s i) h = h
cause-of-all logs callers (fault.StampOrder s i) h = h
cause-of-all logs callers (fault.Forged s i) h = h
cause-of-all logs callers (fault.Untold s i) h = absurd h
cause-of-all logs callers fault.OutOfMemory h = h

pub either-of-all : (logs : List (List Logged)) (callers : List (List Receipt)) (f : AuditFault) → ((f ≡ fault.OutOfMemory) ⊎ IsFirstCause logs callers f)
    → ((f ≡ fault.OutOfMemory) ⊎ IsFirstCauseOfAll logs callers f)
either-of-all logs callers f h = elim h [ inl e ↦ inl e | inr c ↦ inr (cause-of-all logs callers f c) ]

pub untold-if : {X : Type 0} (logs : List (List Logged)) (callers : List (List Receipt)) (marks : List (List Bool)) (r : Result X AuditFault) → MarksName logs marks (of_all callers)
    → AllSound logs → ReceiptsHold logs callers → IfErr r (IsUntold logs (mark_at marks)) → IfErr r (λ f. (f ≡ fault.OutOfMemory) ⊎ IsFirstCauseOfAll logs callers f)
untold-if logs callers marks (Ok x) names sound held h = tt
untold-if logs callers marks (Err f) names sound held h = inr (untold-first logs callers marks names f sound held h)

told-and-not : (logs : List (List Logged)) (told : ℕ → ℕ → Bool) (s i : ℕ) → IsUntoldAt logs told s i → IsToldAt logs told s i → ⊥
told-and-not logs told s i u h = let yes : told s i ≡ true = h u.needs in let no : told s i ≡ false = u.untold in cc

same-index : (logs : List (List Logged)) (told : ℕ → ℕ → Bool) (s i j : ℕ) → IsFirstUntoldOf logs told s i → IsFirstUntoldOf logs told s j → i ≡ j
same-index logs told s i j h k = elim (in-order i j) [
  | inl b ↦ absurd (told-and-not logs told s i h.this (k.steps_before i b))
  | inr r ↦ elim r [
    | inl e ↦ e
    | inr b ↦ absurd (told-and-not logs told s j k.this (h.steps_before j b))
  ]
]

untold-one : (logs : List (List Logged)) (told : ℕ → ℕ → Bool) (s i t j : ℕ) → IsFirstUntoldOf logs told s i → IsFirstUntoldOf logs told t j → (s ≡ t) × (i ≡ j)
untold-one logs told s i t j h k = elim (in-order s t) [
  | inl b ↦ absurd (told-and-not logs told s i h.this (k.sites_before s i b))
  | inr r ↦ elim r [
    | inl e ↦ (e, same-index logs told s i j h (subst (λ u. IsFirstUntoldOf logs told u j) (sym e) k))
    | inr b ↦ absurd (told-and-not logs told t j k.this (h.sites_before t j b))
  ]
]

after-first : (logs : List (List Logged)) (callers : List (List Receipt)) (one other : AuditFault) → IsFirstCause logs callers one → IsFirstCauseOfAll logs callers other → one ≡ other
after-first logs callers one (fault.Unsent t j) h k = one-cause logs callers one (fault.Unsent t j) h k
after-first logs callers one (fault.StampOrder t j) h k = one-cause logs callers one (fault.StampOrder t j) h k
after-first logs callers one (fault.Forged t j) h k = one-cause logs callers one (fault.Forged t j) h k
after-first logs callers one (fault.Untold t j) h k = absurd (held-no-cause logs callers one k.0 k.1 h)
after-first logs callers one fault.OutOfMemory h k = one-cause logs callers one fault.OutOfMemory h k

pub one-of-all : (logs : List (List Logged)) (callers : List (List Receipt)) (one other : AuditFault) → IsFirstCauseOfAll logs callers one → IsFirstCauseOfAll logs callers other → one ≡ other
one-of-all logs callers (fault.Unsent s i) other h k = after-first logs callers (fault.Unsent s i) other h k
one-of-all logs callers (fault.StampOrder s i) other h k = after-first logs callers (fault.StampOrder s i) other h k
one-of-all logs callers (fault.Forged s i) other h k = after-first logs callers (fault.Forged s i) other h k
one-of-all logs callers (fault.Untold s i) (fault.Unsent t j) h k = sym (after-first logs callers (fault.Unsent t j) (fault.Untold s i) k h)
one-of-all logs callers (fault.Untold s i) (fault.StampOrder t j) h k = sym (after-first logs callers (fault.StampOrder t j) (fault.Untold s i) k h)
one-of-all logs callers (fault.Untold s i) (fault.Forged t j) h k = sym (after-first logs callers (fault.Forged t j) (fault.Untold s i) k h)
one-of-all logs callers (fault.Untold s i) (fault.Untold t j) h k = let same = untold-one logs (told_by callers) s i t j h.2 k.2 in let a = same.0 in let b = same.1 in cc
one-of-all logs callers (fault.Untold s i) fault.OutOfMemory h k = absurd k
one-of-all logs callers fault.OutOfMemory other h k = absurd h

pub none-of-all : (o : Opening) (logs : List (List Logged)) (callers : List (List Receipt)) (events : List Event) (f : AuditFault) → IsAudited o logs callers events → AllTold logs callers
    → IsFirstCauseOfAll logs callers f → ⊥
none-of-all o logs callers events (fault.Unsent s i) a told h = held-no-cause logs callers (fault.Unsent s i) a.sound a.receipts h
none-of-all o logs callers events (fault.StampOrder s i) a told h = held-no-cause logs callers (fault.StampOrder s i) a.sound a.receipts h
none-of-all o logs callers events (fault.Forged s i) a told h = held-no-cause logs callers (fault.Forged s i) a.sound a.receipts h
none-of-all o logs callers events (fault.Untold s i) a told h = told-and-not logs (told_by callers) s i h.2.this (told s i)
none-of-all o logs callers events fault.OutOfMemory a told h = h
