-- How many envelopes deliveries send, where they leave nothing on its way: no more than there are deliveries, as each that was sent is gone.
use Rattle.std.proofs.Common.{◌≡◌, ◌≢◌, ℕ, ◌+◌, ◌<◌, ◌≤◌, ◌⊎◌, inl, inr, Bool, true, false, ◌==◌, if◌then◌else◌, Option, Some, None, List, [], ◌∷◌, ◌++◌, length, map, slice_get, get_or, arith, refl, sym, ◌∙◌, ap}
use Rattle.std.proofs.lemmas.Bool.{cases_eq, cond-false, cond_both}
use Rattle.std.proofs.lemmas.Bool.Decides.{nat_tests}
use Rattle.std.proofs.lemmas.Option.{slice_get-get_or}
use Rattle.shm_model.specs.Basics.{at}
use Rattle.shm_model.specs.declared.event.Event.TheVariants.{Deliver as DeliverEvent}
use Rattle.shm_model.specs.Message.{Deliver, Envelope}
use Rattle.shm_model.specs.Site.{Site}
use Rattle.shm_model.specs.Step.{step}
use Rattle.shm_model.specs.World.{Next, Run, World, deliver, extended, is_full, live, next, run_on, step_site, without}
use Rattle.shm_progress.specs.Deliveries.{IsAtRest}
use Rattle.shm_progress.proofs.OnTheWay.{Fresh, moved, moved-fresh, only-one}

abbrev one-if : Bool → ℕ
one-if b = if b then 1 else 0

-- how many of these envelopes are gone, the first of them being number k
abbrev count-gone : (ℕ → Bool) → ℕ → List Envelope → ℕ
count-gone gone k [] = 0
count-gone gone k (e ∷ es) = one-if (gone k) + count-gone gone (k + 1) es

one-small : (b : Bool) → one-if b ≤ 1
one-small true = omega arith
one-small false = omega arith

gone-few : (gone : ℕ → Bool) (k : ℕ) (es : List Envelope) → count-gone gone k es ≤ length es
gone-few gone k [] = omega arith
gone-few gone k (e ∷ es) = let head = one-small (gone k) in let rest = gone-few gone (k + 1) es in omega (arith, head, rest)

none-gone : (gone : ℕ → Bool) (k : ℕ) (es : List Envelope) → ((j : ℕ) → k ≤ j → gone j ≡ false) → count-gone gone k es ≡ 0
none-gone gone k [] none = refl
none-gone gone k (e ∷ es) none =
    let head : one-if (gone k) ≡ 0 = cond-false (gone k) 1 0 (none k (omega arith)) in
    let rest = none-gone gone (k + 1) es (λ j l. none j (omega (arith, l))) in
    omega (arith, head, rest)

-- what is sent anew isn't
gone-append : (gone : ℕ → Bool) (k : ℕ) (es new : List Envelope) → ((j : ℕ) → k + length es ≤ j → gone j ≡ false) → count-gone gone k (es ++ new) ≡ count-gone gone k es
gone-append gone k [] new none = none-gone gone k new (λ j l. none j (omega (arith, l)))
gone-append gone k (e ∷ es) new none = ap (λ n. one-if (gone k) + n) (gone-append gone (k + 1) es new (λ j l. none j (omega (arith, l))))

gone-past : (gone : ℕ → Bool) (n k : ℕ) (es : List Envelope) → n < k → count-gone (at gone n true) k es ≡ count-gone gone k es
gone-past gone n k [] l = refl
gone-past gone n k (e ∷ es) l =
    let head : one-if (at gone n true k) ≡ one-if (gone k) = ap one-if (cond-false (n == k) true (gone k) (grind (arith, nat_tests))) in
    let rest = gone-past gone n (k + 1) es (omega (arith, l)) in
    omega (arith, head, rest)

-- one that goes makes one more
one-gone : (gone : ℕ → Bool) (n k : ℕ) (es : List Envelope) → count-gone (at gone n true) k es ≤ count-gone gone k es + 1
one-gone gone n k [] = omega arith
one-gone gone n k (e ∷ es) = by-number (cases_eq n k) (one-gone gone n (k + 1) es)
  where
    by-number : (n ≡ k) ⊎ (n ≢ k) → count-gone (at gone n true) (k + 1) es ≤ count-gone gone (k + 1) es + 1 → count-gone (at gone n true) k (e ∷ es) ≤ count-gone gone k (e ∷ es) + 1
    by-number (inl here) rest =
        let past = gone-past gone n (k + 1) es (omega (arith, here)) in
        let head = one-small (at gone n true k) in
        omega (arith, past, head)
    by-number (inr other) rest =
        let head : one-if (at gone n true k) ≡ one-if (gone k) = ap one-if (cond-false (n == k) true (gone k) (grind (arith, nat_tests))) in
        omega (arith, head, rest)

all-gone : (gone : ℕ → Bool) (k : ℕ) (es : List Envelope) → ((j : ℕ) → j < length es → gone (k + j) ≡ true) → length es ≤ count-gone gone k es
all-gone gone k [] all = omega arith
all-gone gone k (e ∷ es) all =
    let first : k + 0 ≡ k = omega arith in
    let head : one-if (gone k) ≡ 1 = ap one-if (ap gone (sym first) ∙ all 0 (omega arith)) in
    let rest = all-gone gone (k + 1) es (λ j l. let next : (k + 1) + j ≡ k + (j + 1) = omega arith in ap gone next ∙ all (j + 1) (omega (arith, l))) in
    omega (arith, head, rest)

within-none : (es : List Envelope) (j : ℕ) → j < length es → slice_get es j ≡ None → ⊥
within-none [] j l none = omega (arith, l)
within-none (e ∷ es) j l none = let found = slice_get-get_or (e ∷ es) j e l in some-none (slice_get (e ∷ es) j) (get_or (e ∷ es) j e) found none
  where
    some-none : (found : Option Envelope) (f : Envelope) → found ≡ Some f → found ≡ None → ⊥
    some-none found f p q = cc

module _ (w : World) where
  abbrev gone-of : ℕ
  gone-of = count-gone w.gone 0 w.sent

  -- where nothing is on its way all that was sent is gone
  rest-gone : IsAtRest w → length w.sent ≤ gone-of
  rest-gone rest = all-gone w.gone 0 w.sent (λ j l. let same : 0 + j ≡ j = omega arith in ap w.gone same ∙ by-gone j l (w.gone j) refl (rest j))
    where
      by-gone : (j : ℕ) → j < length w.sent → (b : Bool) → w.gone j ≡ b → (if b then None else slice_get w.sent j) ≡ None → w.gone j ≡ true
      by-gone j l true is none = is
      by-gone j l false is none = absurd (within-none w.sent j l none)

-- a delivery lets at most one envelope go
goes-one : (w : World) → Fresh w → (k : ℕ) → gone-of (next w (DeliverEvent k)).world ≤ gone-of w + 1
goes-one w fresh k = by-live (live w k) refl
  where
    by-site : (e : Envelope) → live w k ≡ Some e → (found : Option Site) → gone-of (step_site found (without w k) e.to (Deliver e)).world ≤ gone-of w + 1
    by-site e here None = one-gone w.gone k 0 w.sent
    by-site e here (Some x) =
        let one = one-gone w.gone k 0 w.sent in
        cond_both (is_full (without w k)) _ _ (λ (n : Next). gone-of n.world ≤ gone-of w + 1) (λ full. one)
        (λ free. let more = gone-append (without w k).gone 0 w.sent (step w.count e.to x (Deliver e)).sent
        (λ j past. only-one w k e here j (omega (arith, past)) (fresh.fresh j (omega (arith, past)))) in omega (arith, one, more))

    by-live : (found : Option Envelope) → live w k ≡ found → gone-of (deliver found w k).world ≤ gone-of w + 1
    by-live None here = omega arith
    by-live (Some e) here = by-site e here (slice_get w.sites e.to)

gone-along : (r : Run) → Fresh r.world → (ks : List ℕ) → gone-of (run_on r (map DeliverEvent ks)).world ≤ gone-of r.world + length ks
gone-along r fresh [] = omega arith
gone-along r fresh (k ∷ ks) =
    let first = goes-one r.world fresh k in
    let rest = gone-along (extended r (next r.world (DeliverEvent k))) (moved-fresh r.world (DeliverEvent k) (next r.world (DeliverEvent k)).world (moved r.world (DeliverEvent k)) fresh) ks in
    omega (arith, first, rest)

-- so no more are sent than are handed over
pub sent-along : (r : Run) → Fresh r.world → (ks : List ℕ) → IsAtRest (run_on r (map DeliverEvent ks)).world → length (run_on r (map DeliverEvent ks)).world.sent ≤ length r.world.sent + length ks
sent-along r fresh ks rest =
    let all = rest-gone (run_on r (map DeliverEvent ks)).world rest in
    let along = gone-along r fresh ks in
    let first = gone-few r.world.gone 0 r.world.sent in
    omega (arith, all, along, first)
