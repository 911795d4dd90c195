-- Deliveries, the oldest first, by which nothing older comes up again.
use Rattle.std.proofs.Common.{◌≡◌, ℕ, ◌+◌, ◌<◌, ◌≤◌, ◌⊎◌, inl, inr, Bool, true, false, ◌==◌, IsTrue, is_some, Option, Some, None, List, [], ◌∷◌, ◌++◌, map, length, get_or, slice_get, append-nil, arith, refl, sym, ◌∙◌, ap, subst}
use Rattle.std.specs.Prelude.{IfSome, not}
use Rattle.std.proofs.lemmas.Bool.{cases_lt, cond-false, cond-true, cond_both}
use Rattle.std.proofs.lemmas.Bool.Decides.{nat_tests}
use Rattle.std.proofs.lemmas.List.{length-append}
use Rattle.std.proofs.lemmas.Option.{slice_get-get_or, slice_get_within}
use Rattle.shm_model.specs.Basics.{at}
use Rattle.shm_model.specs.Message.{Envelope, Deliver as DeliverInput}
use Rattle.shm_model.specs.Site.{Site}
use Rattle.shm_model.specs.Step.{step}
use Rattle.shm_model.specs.declared.answer.Answer.{Answer}
use Rattle.shm_model.specs.declared.event.Event.{Event}
use Rattle.shm_model.specs.declared.event.Event.TheVariants.{Deliver}
use Rattle.shm_model.specs.World as model
use Rattle.shm_progress.specs.Deliveries.{AreOnTheirWay, IsAtRest, deliveries_left}
use Rattle.shm_progress.proofs.Ending.Rests.{rests-at}
use Rattle.shm_progress.proofs.OnTheWay.{live-parts}
use Rattle.shm_progress.specs.Rest.Deliveries.{AreOldest, FirstFrom, HandedOver, HandedSome, NoneFrom}
use Rattle.shm_world.specs.Steps.{Went}
use Rattle.shm_world.specs.World.{StandsFor, after}
use Rattle.shm_world.specs.declared.world.World.{World}
use Rattle.shm_world.proofs.Runs.{run-then}

-- what a delivery leaves: this number is gone besides, and what was sent stays sent
record Delivered (w : model.World) (k : ℕ) (u : model.World) : Type 0 where
  pub more : List Envelope
  pub sent : u.sent ≡ w.sent ++ more
  pub gone : (j : ℕ) → u.gone j ≡ at w.gone k true j

handed-delivered : (w : model.World) (k : ℕ) (e : Envelope) (found : Option Site) → Delivered w k (model.step_site found (model.without w k) e.to (DeliverInput e)).world
handed-delivered w k e None = record { more = []; sent = sym (append-nil w.sent); gone = λ j. refl }
handed-delivered w k e (Some x) =
    cond_both (model.is_full (model.without w k)) _ _ (λ (n : model.Next). Delivered w k n.world) (λ full. record { more = []; sent = sym (append-nil w.sent); gone = λ j. refl })
    (λ free. record { more = (step w.count e.to x (DeliverInput e)).sent; sent = refl; gone = λ j. refl })

some-delivered : (w : model.World) (k : ℕ) (found : Option Envelope) → IsTrue (is_some found) → Delivered w k (model.deliver found w k).world
some-delivered w k None going = cc
some-delivered w k (Some e) going = handed-delivered w k e (slice_get w.sites e.to)

-- an older number that isn't on its way stays so
none-stays : (w u : model.World) (k j : ℕ) (e : Envelope) → Delivered w k u → model.live w k ≡ Some e → (j ≡ k) ⊎ ((j < k) × (model.live w j ≡ None)) → model.live u j ≡ None
none-stays w u k j e delivered going (inl same) = by-gone (u.gone j) refl
  where
    by-gone : (b : Bool) → u.gone j ≡ b → model.live u j ≡ None
    by-gone true h = cond-true (u.gone j) None (slice_get u.sent j) h
    by-gone false h =
        let here : at w.gone k true j ≡ true = cond-true (k == j) true (w.gone j) (grind (arith, nat_tests)) in
        let both : true ≡ false = sym here ∙ (sym (delivered.gone j) ∙ h) in
        cc
none-stays w u k j e delivered going (inr (below, none)) = by-gone (w.gone j) refl
  where
    other : at w.gone k true j ≡ w.gone j
    other = cond-false (k == j) true (w.gone j) (grind (arith, nat_tests))

    clash : (x : Envelope) (found : Option Envelope) → found ≡ Some x → found ≡ None → ⊥
    clash x found p q = cc

    by-gone : (b : Bool) → w.gone j ≡ b → model.live u j ≡ None
    by-gone true h = cond-true (u.gone j) None (slice_get u.sent j) (delivered.gone j ∙ (other ∙ h))
    by-gone false h =
        let within : k < length w.sent = slice_get_within w.sent k e (live-parts w k e going).1 in
        let found : model.live w j ≡ Some (get_or w.sent j e) = cond-false (w.gone j) None (slice_get w.sent j) h ∙ slice_get-get_or w.sent j e (omega (arith, within, below)) in
        absurd (clash (get_or w.sent j e) (model.live w j) found none)

none-goes : (found : Option Envelope) → found ≡ None → IsTrue (is_some found) → ⊥
none-goes None none going = cc
none-goes (Some e) none going = cc

pub passed-on : (w : model.World) (k : ℕ) (found : Option Envelope) → model.live w k ≡ found → FirstFrom w 0 k → (j : ℕ) → j < k + 1 → model.live (model.next w (Deliver k)).world j ≡ None
passed-on w k None h first j below = absurd (none-goes (model.live w k) h first.going)
passed-on w k (Some e) h first j below = by-order (cases_lt j k)
  where
    delivered : Delivered w k (model.next w (Deliver k)).world
    delivered = some-delivered w k (model.live w k) first.going

    by-order : (j < k) ⊎ (k ≤ j) → model.live (model.next w (Deliver k)).world j ≡ None
    by-order (inl low) = none-stays w (model.next w (Deliver k)).world k j e delivered h (inr (low, first.older j (omega arith) low))
    by-order (inr high) = none-stays w (model.next w (Deliver k)).world k j e delivered h (inl (omega arith))

-- one event more
pub after-append : (w : model.World) (earlier later : List Event) → after w (earlier ++ later) ≡ after (after w earlier) later
after-append w [] later = refl
after-append w (e ∷ es) later = after-append (model.next w e).world es later

after-last : (w : model.World) (ks : List ℕ) (k : ℕ) → after w (map Deliver (ks ++ k ∷ [])) ≡ (model.next (after w (map Deliver ks)) (Deliver k)).world
after-last w [] k = refl
after-last w (x ∷ ks) k = after-last (model.next w (Deliver x)).world ks k

oldest-last : (w : model.World) (ks : List ℕ) (k : ℕ) → AreOldest w ks → FirstFrom (after w (map Deliver ks)) 0 k → AreOldest w (ks ++ k ∷ [])
oldest-last w [] k oldest first = (first, tt)
oldest-last w (x ∷ ks) k oldest first = (oldest.0, oldest-last (model.next w (Deliver x)).world ks k oldest.1 first)

on-way : (w : model.World) (ks : List ℕ) → AreOldest w ks → AreOnTheirWay w ks
on-way w [] oldest = tt
on-way w (k ∷ ks) oldest = (oldest.0.going, on-way (model.next w (Deliver k)).world ks oldest.1)

-- so many envelopes were handed over, the oldest first, and what is on its way then has a number from here on
pub record Handing {A : Type 0} (new : World A) (w : model.World) (deliveries from : ℕ) : Type 0 where
  pub envelopes : List ℕ
  pub oldest : AreOldest w envelopes
  pub counted : length envelopes ≡ deliveries
  pub stands : StandsFor new (after w (map Deliver envelopes))
  pub passed : (k : ℕ) → k < from → model.live (after w (map Deliver envelopes)) k ≡ None

pub handing-none : {A : Type 0} (world : World A) (w : model.World) → StandsFor world w → Handing world w 0 0
handing-none world w stands = record { envelopes = []; oldest = tt; counted = refl; stands = stands; passed = λ k below. absurd (omega arith) }

first-of-all : (w : model.World) (from k : ℕ) → ((j : ℕ) → j < from → model.live w j ≡ None) → FirstFrom w from k → FirstFrom w 0 k
first-of-all w from k passed first = record { past = omega arith; going = first.going; older = λ j least below. by-order j below (cases_lt j from) }
  where
    by-order : (j : ℕ) → j < k → (j < from) ⊎ (from ≤ j) → model.live w j ≡ None
    by-order j below (inl low) = passed j low
    by-order j below (inr high) = first.older j high below

pub handing-more : {A : Type 0} (old new : World A) (w : model.World) (n from k : ℕ) (answer : Answer) (handing : Handing old w n from) → FirstFrom (after w (map Deliver handing.envelopes)) from k
    → Went new (model.next (after w (map Deliver handing.envelopes)) (Deliver k)) answer → Handing new w (n + 1) (k + 1)
handing-more {A} old new w n from k answer handing first went =
    let v : model.World = after w (map Deliver handing.envelopes) in
    let oldest : FirstFrom v 0 k = first-of-all v from k handing.passed first in
    let last : after w (map Deliver (handing.envelopes ++ k ∷ [])) ≡ (model.next v (Deliver k)).world = after-last w handing.envelopes k in
    record {
      envelopes = handing.envelopes ++ k ∷ [];
      oldest = oldest-last w handing.envelopes k handing.oldest oldest;
      counted = let longer = length-append handing.envelopes (k ∷ []) in let before = handing.counted in omega (arith, longer, before);
      stands = subst (λ (u : model.World). StandsFor {A = A} new u) (sym last) went.stands;
      passed = subst (λ (u : model.World). (j : ℕ) → j < k + 1 → model.live u j ≡ None) (sym last) (passed-on v k (model.live v k) refl oldest);
    }

pub handed-over : {A : Type 0} (new : World A) (w : model.World) (n from : ℕ) → Handing new w n from → HandedOver new w n
handed-over new w n from handing = record { envelopes = handing.envelopes; oldest = handing.oldest; counted = handing.counted; stands = handing.stands }

pub handed-some : {A : Type 0} (new old : World A) (w : model.World) (n from budget : ℕ) (handing : Handing old w n from) → n < budget → StandsFor new (after w (map Deliver handing.envelopes)) → HandedSome new w budget
handed-some new old w n from budget handing fewer stands =
    record { deliveries = n; fewer = fewer; handed = record { envelopes = handing.envelopes; oldest = handing.oldest; counted = handing.counted; stands = stands } }

-- two worlds for which the same world stands have the same on its way
pub same-live : {A : Type 0} (new : World A) (u v : model.World) → StandsFor new u → StandsFor new v → (k : ℕ) → model.live u k ≡ model.live v k
same-live new u v stands other k = sym (stands.carries.live k) ∙ other.carries.live k

none-left : (v : model.World) (from : ℕ) → ((k : ℕ) → k < from → model.live v k ≡ None) → NoneFrom v from → IsAtRest v
none-left v from passed none k = by-order (cases_lt k from)
  where
    by-order : (k < from) ⊎ (from ≤ k) → model.live v k ≡ None
    by-order (inl low) = passed k low
    by-order (inr high) = none k high

pub rests : {A : Type 0} (new : World A) (w u : model.World) (n from : ℕ) (handing : Handing new w n from) → NoneFrom (after w (map Deliver handing.envelopes)) from → StandsFor new u → IsAtRest u
rests new w u n from handing none stands k = same-live new u _ stands handing.stands k ∙ none-left (after w (map Deliver handing.envelopes)) from handing.passed none k

pub goes-on : (u : model.World) (from k : ℕ) → FirstFrom u from k → IsAtRest u → ⊥
goes-on u from k first rest = none-goes (model.live u k) (rest k) first.going

-- with a budget of as many deliveries as there can be, nothing is left on its way
pub enough : {A : Type 0} (new : World A) (o : model.Opening) (before : List Event) (n from : ℕ) → Handing new (model.run o before).world n from → deliveries_left (model.run o before).world ≤ n
    → (u : model.World) → StandsFor new u → IsAtRest u
enough new o before n from handing most u stands k =
    let w : model.World = (model.run o before).world in
    let counted = handing.counted in
    let rest : IsAtRest (model.run o (before ++ map Deliver handing.envelopes)).world = rests-at o before handing.envelopes (on-way w handing.envelopes handing.oldest) (omega (arith, counted, most)) in
    same-live new u _ stands handing.stands k ∙ (ap (λ (v : model.World). model.live v k) (sym (run-then o before (map Deliver handing.envelopes))) ∙ rest k)

-- none is found where nothing is on its way
pub none-found : (u : model.World) (from : ℕ) (found : Option ℕ) (told : Bool) → is_some found ≡ not told → IfSome found (λ k. FirstFrom u from k) → IsAtRest u → IsTrue told
none-found u from None true is first rest = refl
none-found u from None false is first rest = cc
none-found u from (Some k) told is first rest = absurd (goes-on u from k first rest)
