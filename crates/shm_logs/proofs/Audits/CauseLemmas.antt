-- Logs and receipts have at most one first cause, and none where an audit found none.
use Rattle.std.proofs.Common.{◌≡◌, ℕ, zero, suc, ◌+◌, ◌<◌, ◌≤◌, ◌⊎◌, inl, inr, false, List, [], ◌∷◌, ◌++◌, Some, drop, length, refl, sym, ap, ◌∙◌, subst, arith, slice_get, slice_index_or, take}
use Rattle.std.specs.List.{All, AllPairs}
use Rattle.std.proofs.lemmas.Bool.Decides.{leb_tells}
use Rattle.std.proofs.lemmas.Grind.{flat_map-append}
use Rattle.std.proofs.lemmas.List.{append_assoc, take_more, take-append-drop}
use Rattle.std.proofs.lemmas.List.Elements.{All-push}
use Rattle.std.proofs.lemmas.Option.{same_Some}
use Rattle.shm_model.specs.declared.event.Event.{Event}
use Rattle.shm_model.specs.Log.{Logged}
use Rattle.shm_model.specs.Receipt.{of_all, same_step, IsTrueOf, Receipt, ReceiptsHold}
use Rattle.shm_model.specs.World.{Opening}
use Rattle.shm_logs.specs.Auditing.Audit.{IsAudited}
use Rattle.shm_logs.specs.Auditing.Cause.{receipts_to, AllSound, IsFirstCause, IsFirstReceipt, IsFirstStep, IsMisordered, IsSound, IsUnsent, IsWrong, IsWrongAt, SoundAt}
use Rattle.shm_logs.specs.declared.log_audit.audit_error.AuditFault.{AuditFault}
use Rattle.shm_logs.specs.declared.log_audit.audit_error.AuditFault.TheVariants as fault
use Rattle.shm_logs.proofs.Audits.AllLemmas.{all-front, all-last, pairs-front}
use Rattle.shm_logs.proofs.Audits.Lookups.{site-below}
use Rattle.shm_logs.proofs.Audits.ReceiptLemmas.{of-all-own}

not-sound : (logs : List (List Logged)) (s i : ℕ) (l : Logged) (f : AuditFault) → IsWrong logs s i l f → IsSound logs s i l → ⊥
not-sound logs s i l (fault.Unsent t j) w h = w.2.never h.sent
not-sound logs s i l (fault.StampOrder t j) w h = elim (w.2) [ inl n ↦ n h.rises | inr b ↦ b.below h.above ]
not-sound logs s i l (fault.Forged t j) w h = w
not-sound logs s i l (fault.Untold t j) w h = w
not-sound logs s i l fault.OutOfMemory w h = w

not-both : (logs : List (List Logged)) (s i : ℕ) (l : Logged) → IsUnsent logs s i l → IsMisordered logs s i l → ⊥
not-both logs s i l u m = elim m [ inl n ↦ n u.rises | inr b ↦ u.never b.sent ]

wrong-one : (logs : List (List Logged)) (s i : ℕ) (l : Logged) (f g : AuditFault) → IsWrong logs s i l f → IsWrong logs s i l g → f ≡ g
wrong-one logs s i l (fault.Unsent t j) (fault.Unsent u k) w v = let a = w.0 in let b = w.1 in let c = v.0 in let d = v.1 in cc
wrong-one logs s i l (fault.Unsent t j) (fault.StampOrder u k) w v = absurd (not-both logs s i l w.2 v.2)
wrong-one logs s i l (fault.Unsent t j) (fault.Forged u k) w v = absurd v
wrong-one logs s i l (fault.Unsent t j) (fault.Untold u k) w v = absurd v
wrong-one logs s i l (fault.Unsent t j) fault.OutOfMemory w v = absurd v
wrong-one logs s i l (fault.StampOrder t j) (fault.Unsent u k) w v = absurd (not-both logs s i l v.2 w.2)
wrong-one logs s i l (fault.StampOrder t j) (fault.StampOrder u k) w v = let a = w.0 in let b = w.1 in let c = v.0 in let d = v.1 in cc
wrong-one logs s i l (fault.StampOrder t j) (fault.Forged u k) w v = absurd v
wrong-one logs s i l (fault.StampOrder t j) (fault.Untold u k) w v = absurd v
wrong-one logs s i l (fault.StampOrder t j) fault.OutOfMemory w v = absurd v
wrong-one logs s i l (fault.Forged t j) g w v = absurd w
wrong-one logs s i l (fault.Untold t j) g w v = absurd w
wrong-one logs s i l fault.OutOfMemory g w v = absurd w

pub in-order : (m n : ℕ) → (m < n) ⊎ ((m ≡ n) ⊎ (n < m))
in-order m n = elim (leb_tells (suc m) n) [
  | inl p ↦ inl p.1
  | inr q ↦ elim (leb_tells (suc n) m) [ inl p ↦ inr (inr p.1) | inr r ↦ inr (inl (omega arith)) ]
]

wrong-there : (logs : List (List Logged)) (s i : ℕ) (f : AuditFault) → IsWrongAt logs s i f → SoundAt logs s i → ⊥
wrong-there logs s i f w h = not-sound logs s i w.step f w.wrong (h w.step w.named)

wrong-here : (logs : List (List Logged)) (s i : ℕ) (f g : AuditFault) → IsWrongAt logs s i f → IsWrongAt logs s i g → f ≡ g
wrong-here logs s i f g w v =
    wrong-one logs s i w.step f g w.wrong (subst (λ l. IsWrong logs s i l g) (sym (same_Some w.step v.step (sym w.named ∙ v.named))) v.wrong)

same-site : (logs : List (List Logged)) (f g : AuditFault) (h : IsFirstStep logs f) (k : IsFirstStep logs g) → h.site ≡ k.site → f ≡ g
same-site logs f g h k e = elim (in-order h.index k.index) [
  | inl b ↦ absurd (wrong-there logs h.site h.index f h.this (subst (λ s. SoundAt logs s h.index) (sym e) (k.steps_before h.index b)))
  | inr r ↦ elim r [
    | inl i ↦ wrong-here logs h.site h.index f g h.this (subst (λ s. IsWrongAt logs s h.index g) (sym e) (subst (λ j. IsWrongAt logs k.site j g) (sym i) k.this))
    | inr b ↦ absurd (wrong-there logs k.site k.index g k.this (subst (λ s. SoundAt logs s k.index) e (h.steps_before k.index b)))
  ]
]

step-one : (logs : List (List Logged)) (f g : AuditFault) → IsFirstStep logs f → IsFirstStep logs g → f ≡ g
step-one logs f g h k = elim (in-order h.site k.site) [
  | inl b ↦ absurd (wrong-there logs h.site h.index f h.this (k.sites_before h.site h.index b))
  | inr r ↦ elim r [
    | inl e ↦ same-site logs f g h k e
    | inr b ↦ absurd (wrong-there logs k.site k.index g k.this (h.sites_before k.site k.index b))
  ]
]

step-not-sound : (logs : List (List Logged)) (f : AuditFault) → IsFirstStep logs f → AllSound logs → ⊥
step-not-sound logs f h sound = wrong-there logs h.site h.index f h.this (sound h.site h.index)

take-within : {X : Type 0} (a b : ℕ) (xs : List X) → a ≤ b → take a (take b xs) ≡ take a xs
take-within zero b xs h = refl
take-within (suc a) zero xs h = absurd (omega arith)
take-within (suc a) (suc b) [] h = refl
take-within (suc a) (suc b) (x ∷ xs) h = ap (λ ys. x ∷ ys) (take-within a b xs (omega arith))

take-prefix : {X : Type 0} (a b : ℕ) (xs : List X) → a ≤ b → take b xs ≡ take a xs ++ drop a (take b xs)
take-prefix a b xs h = sym (take-append-drop a (take b xs)) ∙ ap (λ ys. ys ++ drop a (take b xs)) (take-within a b xs h)

abbrev Rises : Receipt → Receipt → Type 0
Rises q r = q.site ≡ r.site → q.index < r.index

abbrev Apart : Receipt → Receipt → Type 0
Apart q r = same_step q r ≡ false

-- receipts that hold do so without the last callers, and without a caller's last receipts
holds-front : (logs : List (List Logged)) (front back : List (List Receipt)) → ReceiptsHold logs (front ++ back) → ReceiptsHold logs front
holds-front logs front back h =
    let split = flat_map-append (λ rs. rs) front back in
    record {
      tell = all-front (IsTrueOf logs) (of_all front) (of_all back) (subst (All (IsTrueOf logs)) split h.tell);
      once = pairs-front Apart (of_all front) (of_all back) (subst (AllPairs Apart) split h.once);
      rise = all-front (AllPairs Rises) front back h.rise;
    }

holds-own : (logs : List (List Logged)) (front : List (List Receipt)) (own more : List Receipt) → ReceiptsHold logs (front ++ (own ++ more) ∷ []) → ReceiptsHold logs (front ++ own ∷ [])
holds-own logs front own more h =
    let split : of_all (front ++ (own ++ more) ∷ []) ≡ of_all (front ++ own ∷ []) ++ more =
    of-all-own front (own ++ more) ∙ sym (append_assoc (of_all front) own more) ∙ ap (λ rs. rs ++ more) (sym (of-all-own front own)) in
    record {
      tell = all-front (IsTrueOf logs) (of_all (front ++ own ∷ [])) more (subst (All (IsTrueOf logs)) split h.tell);
      once = pairs-front Apart (of_all (front ++ own ∷ [])) more (subst (AllPairs Apart) split h.once);
      rise = All-push (AllPairs Rises) front own (all-front (AllPairs Rises) front ((own ++ more) ∷ []) h.rise)
          (pairs-front Rises own more (all-last (AllPairs Rises) front (own ++ more) h.rise));
    }

module _ (logs : List (List Logged)) (callers : List (List Receipt)) (c k : ℕ) (r : Receipt) (found : slice_get (slice_index_or callers c []) k ≡ Some r) where
  abbrev row : List Receipt
  row = slice_index_or callers c []

  below : c < length callers
  below = site-below callers c k r found

  -- up to a receipt, receipts hold that hold up to a later one of the same caller, or with the whole caller
  own-earlier : (n : ℕ) → k + 1 ≤ n → ReceiptsHold logs (receipts_to callers c n) → ReceiptsHold logs (receipts_to callers c (k + 1))
  own-earlier n h held =
      holds-own logs (take c callers) (take (k + 1) row) (drop (k + 1) (take n row))
      (subst (λ rs. ReceiptsHold logs (take c callers ++ rs ∷ [])) (take-prefix (k + 1) n row h) held)

  caller-earlier : (more : List (List Receipt)) → ReceiptsHold logs (take (c + 1) callers ++ more) → ReceiptsHold logs (receipts_to callers c (k + 1))
  caller-earlier more held =
      holds-own logs (take c callers) (take (k + 1) row) (drop (k + 1) row)
      (subst (λ rs. ReceiptsHold logs (take c callers ++ rs ∷ [])) (sym (take-append-drop (k + 1) row))
      (subst (ReceiptsHold logs) (take_more callers c [] below) (holds-front logs (take (c + 1) callers) more held)))

  callers-earlier : (d n : ℕ) → c < d → ReceiptsHold logs (receipts_to callers d n) → ReceiptsHold logs (receipts_to callers c (k + 1))
  callers-earlier d n h held =
      caller-earlier (drop (c + 1) (take d callers))
      (subst (ReceiptsHold logs) (take-prefix (c + 1) d callers (omega arith)) (holds-front logs (take d callers) (take n (slice_index_or callers d []) ∷ []) held))

  all-earlier : ReceiptsHold logs callers → ReceiptsHold logs (receipts_to callers c (k + 1))
  all-earlier held = caller-earlier (drop (c + 1) callers) (subst (ReceiptsHold logs) (sym (take-append-drop (c + 1) callers)) held)

same-caller : (logs : List (List Logged)) (callers : List (List Receipt)) (s i t j : ℕ) (h : IsFirstReceipt logs callers s i) (k : IsFirstReceipt logs callers t j)
    → h.caller ≡ k.caller → (s ≡ t) × (i ≡ j)
same-caller logs callers s i t j h k e = elim (in-order h.place k.place) [
  | inl b ↦ absurd (h.not_with (own-earlier logs callers h.caller h.place h.receipt h.found k.place (omega arith)
      (subst (λ c. ReceiptsHold logs (receipts_to callers c k.place)) (sym e) k.before)))
  | inr r ↦ elim r [
    | inl p ↦
        let there : slice_get (slice_index_or callers h.caller []) h.place ≡ Some k.receipt =
        subst (λ c. slice_get (slice_index_or callers c []) h.place ≡ Some k.receipt) (sym e)
        (subst (λ n. slice_get (slice_index_or callers k.caller []) n ≡ Some k.receipt) (sym p) k.found) in
        let same = same_Some h.receipt k.receipt (sym h.found ∙ there) in
        (sym h.site ∙ ap (λ q. q.site) same ∙ k.site, sym h.index ∙ ap (λ q. q.index) same ∙ k.index)
    | inr b ↦ absurd (k.not_with (own-earlier logs callers k.caller k.place k.receipt k.found h.place (omega arith)
        (subst (λ c. ReceiptsHold logs (receipts_to callers c h.place)) e h.before)))
  ]
]

receipt-one : (logs : List (List Logged)) (callers : List (List Receipt)) (s i t j : ℕ) → IsFirstReceipt logs callers s i → IsFirstReceipt logs callers t j → (s ≡ t) × (i ≡ j)
receipt-one logs callers s i t j h k = elim (in-order h.caller k.caller) [
  | inl b ↦ absurd (h.not_with (callers-earlier logs callers h.caller h.place h.receipt h.found k.caller k.place b k.before))
  | inr r ↦ elim r [
    | inl e ↦ same-caller logs callers s i t j h k e
    | inr b ↦ absurd (k.not_with (callers-earlier logs callers k.caller k.place k.receipt k.found h.caller h.place b h.before))
  ]
]

pub one-cause : (logs : List (List Logged)) (callers : List (List Receipt)) (one other : AuditFault) → IsFirstCause logs callers one → IsFirstCause logs callers other → one ≡ other
one-cause logs callers (fault.Unsent s i) (fault.Unsent t j) h k = step-one logs (fault.Unsent s i) (fault.Unsent t j) h k
one-cause logs callers (fault.Unsent s i) (fault.StampOrder t j) h k = step-one logs (fault.Unsent s i) (fault.StampOrder t j) h k
one-cause logs callers (fault.Unsent s i) (fault.Forged t j) h k = absurd (step-not-sound logs (fault.Unsent s i) h k.0)
one-cause logs callers (fault.Unsent s i) (fault.Untold t j) h k = absurd k
one-cause logs callers (fault.Unsent s i) fault.OutOfMemory h k = absurd k
one-cause logs callers (fault.StampOrder s i) (fault.Unsent t j) h k = step-one logs (fault.StampOrder s i) (fault.Unsent t j) h k
one-cause logs callers (fault.StampOrder s i) (fault.StampOrder t j) h k = step-one logs (fault.StampOrder s i) (fault.StampOrder t j) h k
one-cause logs callers (fault.StampOrder s i) (fault.Forged t j) h k = absurd (step-not-sound logs (fault.StampOrder s i) h k.0)
one-cause logs callers (fault.StampOrder s i) (fault.Untold t j) h k = absurd k
one-cause logs callers (fault.StampOrder s i) fault.OutOfMemory h k = absurd k
one-cause logs callers (fault.Forged s i) (fault.Unsent t j) h k = absurd (step-not-sound logs (fault.Unsent t j) k h.0)
one-cause logs callers (fault.Forged s i) (fault.StampOrder t j) h k = absurd (step-not-sound logs (fault.StampOrder t j) k h.0)
one-cause logs callers (fault.Forged s i) (fault.Forged t j) h k = let same = receipt-one logs callers s i t j h.1 k.1 in let a = same.0 in let b = same.1 in cc
one-cause logs callers (fault.Forged s i) (fault.Untold t j) h k = absurd k
one-cause logs callers (fault.Forged s i) fault.OutOfMemory h k = absurd k
one-cause logs callers (fault.Untold s i) other h k = absurd h
one-cause logs callers fault.OutOfMemory other h k = absurd h

-- where nothing is wrong with the steps and the receipts hold there is none
pub held-no-cause : (logs : List (List Logged)) (callers : List (List Receipt)) (f : AuditFault) → AllSound logs → ReceiptsHold logs callers → IsFirstCause logs callers f → ⊥
held-no-cause logs callers (fault.Unsent s i) sound held h = step-not-sound logs (fault.Unsent s i) h sound
held-no-cause logs callers (fault.StampOrder s i) sound held h = step-not-sound logs (fault.StampOrder s i) h sound
held-no-cause logs callers (fault.Forged s i) sound held h = h.1.not_with (all-earlier logs callers h.1.caller h.1.place h.1.receipt h.1.found held)
held-no-cause logs callers (fault.Untold s i) sound held h = h
held-no-cause logs callers fault.OutOfMemory sound held h = h

pub no-cause : (o : Opening) (logs : List (List Logged)) (callers : List (List Receipt)) (events : List Event) (f : AuditFault) → IsAudited o logs callers events → IsFirstCause logs callers f → ⊥
no-cause o logs callers events f a h = held-no-cause logs callers f a.sound a.receipts h
