-- The least of the steps that are left, from one site to the next.
use Rattle.std.proofs.Common.{◌≡◌, ◌∙◌, ℕ, ◌+◌, ◌<◌, ◌≤◌, ◌⊎◌, Bool, true, false, List, Option, Some, None, ap, refl, sym, subst, arith, inl, inr, below_more, nat_lt}
use Rattle.std.specs.Prelude.{slice_index, if◌then◌else◌, IfSome}
use Rattle.std.proofs.lemmas.Bool.{cases_lt}
use Rattle.std.proofs.lemmas.Bool.Decides.{nat_tests}
use Rattle.std.proofs.lemmas.Option.{none-some, same_Some}
use Rattle.shm_model.specs.Log.{Logged, log_of}
use Rattle.shm_logs.specs.declared.log_audit.merge_logs.Head.{Head}
use Rattle.shm_logs.specs.Auditing.Heads.{IsLeast, IsLeastIf, TellsStep, TellsStepIf, lesser, next}

-- the head comes before this step of the site s
abbrev Precedes : Head → ℕ → Logged → Type 0
Precedes head s l = (head.stamp < l.stamp) ⊎ ((head.stamp ≡ l.stamp) × (head.site ≤ s))

abbrev PrecedesNext : List (List Logged) → List ℕ → Head → ℕ → Type 0
PrecedesNext logs heads head s = (l : Logged) → next logs heads s ≡ Some l → Precedes head s l

own-place : (logs : List (List Logged)) (heads : List ℕ) (s : ℕ) (head : Head) → TellsStep (log_of logs s) s (slice_index heads s) head
    → TellsStep (log_of logs head.site) head.site (slice_index heads head.site) head
own-place logs heads s head tells = subst (λ t. TellsStep (log_of logs t) t (slice_index heads t) head) (sym tells.of_site) tells

same-stamp : (logs : List (List Logged)) (heads : List ℕ) (s : ℕ) (head : Head) → TellsStep (log_of logs s) s (slice_index heads s) head
    → (l : Logged) → next logs heads s ≡ Some l → head.stamp ≡ l.stamp
same-stamp logs heads s head tells l e = tells.stamped ∙ ap (λ (m : Logged). m.stamp) (same_Some tells.step l (sym tells.there ∙ e))

lower : (one other : Head) (s : ℕ) (l : Logged) → other.stamp < one.stamp → Precedes one s l → Precedes other s l
lower one other s l h p = inl (omega arith)

not-after : (one other : Head) (s : ℕ) (l : Logged) → one.stamp ≤ other.stamp → one.site ≤ s → other.stamp ≡ l.stamp → Precedes one s l
not-after one other s l h at e = elim (cases_lt one.stamp l.stamp) [ inl lt ↦ inl lt | inr ge ↦ inr (omega arith, at) ]

either : (logs : List (List Logged)) (heads : List ℕ) (count : ℕ) (one other : Head) (lower-stamp : Bool) → nat_lt other.stamp one.stamp ≡ lower-stamp
    → IsLeast logs heads count one → TellsStep (log_of logs count) count (slice_index heads count) other
    → IsLeastIf logs heads (count + 1) (if lower-stamp then Some other else Some one)
either logs heads count one other true test old found =
    let less : other.stamp < one.stamp = grind (arith, nat_tests) in
    let least : (s : ℕ) → s < count + 1 → PrecedesNext logs heads other s =
    below_more (PrecedesNext logs heads other) count
    (λ s b l e. lower one other s l less (old.least s l b e))
    (λ l e. inr (same-stamp logs heads count other found l e, omega (arith, found.of_site))) in
    record { below = omega (arith, found.of_site); left = own-place logs heads count other found; least = λ s l b e. least s b l e }
either logs heads count one other false test old found =
    let not-less : one.stamp ≤ other.stamp = grind (arith, nat_tests) in
    let least : (s : ℕ) → s < count + 1 → PrecedesNext logs heads one s =
    below_more (PrecedesNext logs heads one) count
    (λ s b l e. old.least s l b e)
    (λ l e. not-after one other count l not-less (omega (arith, old.below)) (same-stamp logs heads count other found l e)) in
    record { below = omega (arith, old.below); left = old.left; least = λ s l b e. least s b l e }

least-more : (logs : List (List Logged)) (heads : List ℕ) (count : ℕ) (old found : Option Head) → IsLeastIf logs heads count old
    → TellsStepIf (log_of logs count) count (slice_index heads count) found → IsLeastIf logs heads (count + 1) (lesser old found)
least-more logs heads count None None none here = below_more (λ s. next logs heads s ≡ None) count none here
least-more logs heads count None (Some head) none found =
    let least : (s : ℕ) → s < count + 1 → PrecedesNext logs heads head s =
    below_more (PrecedesNext logs heads head) count
    (λ s b l e. absurd (none-some l (sym (none s b) ∙ e)))
    (λ l e. inr (same-stamp logs heads count head found l e, omega (arith, found.of_site))) in
    record { below = omega (arith, found.of_site); left = own-place logs heads count head found; least = λ s l b e. least s b l e }
least-more logs heads count (Some one) None old none =
    let least : (s : ℕ) → s < count + 1 → PrecedesNext logs heads one s =
    below_more (PrecedesNext logs heads one) count
    (λ s b l e. old.least s l b e)
    (λ l e. absurd (none-some l (sym none ∙ e))) in
    record { below = omega (arith, old.below); left = old.left; least = λ s l b e. least s b l e }
least-more logs heads count (Some one) (Some other) old found = either logs heads count one other (nat_lt other.stamp one.stamp) refl old found

either-has : (P : Head → Type 0) (one other : Head) (test : Bool) → P one → P other → IfSome (if test then Some other else Some one) P
either-has P one other true a b = b
either-has P one other false a b = a

lesser-has : (P : Head → Type 0) (one other : Option Head) → IfSome one P → IfSome other P → IfSome (lesser one other) P
lesser-has P None other a b = b
lesser-has P (Some one) None a b = a
lesser-has P (Some one) (Some other) a b = either-has P one other (nat_lt other.stamp one.stamp) a b

-- the same, where the log was read and the lesser one was taken
pub least-with : (logs : List (List Logged)) (heads : List ℕ) (count : ℕ) (log : List Logged) (old found new : Option Head) → log_of logs count ≡ log
    → IsLeastIf logs heads count old → TellsStepIf log count (slice_index heads count) found → new ≡ lesser old found → IsLeastIf logs heads (count + 1) new
least-with logs heads count log old found new read least here taken =
    subst (IsLeastIf logs heads (count + 1)) (sym taken)
    (least-more logs heads count old found least (subst (λ ls. TellsStepIf ls count (slice_index heads count) found) (sym read) here))

pub has-lesser : (P : Head → Type 0) (one other new : Option Head) → new ≡ lesser one other → IfSome one P → IfSome other P → IfSome new P
has-lesser P one other new taken a b = subst (λ o. IfSome o P) (sym taken) (lesser-has P one other a b)
