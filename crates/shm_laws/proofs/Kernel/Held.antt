-- If each segment counts who holds it, it does so after a call.
use Rattle.std.proofs.Common.{◌≡◌, ◌≢◌, ℕ, zero, suc, ◌+◌, ◌<◌, Bool, true, false, List, [], ◌∷◌, Option, Some, None, if◌then◌else◌, ◌==◌, ◌⊎◌, refl, sym, ap, ◌∙◌, subst, arith, inl, inr}
use Rattle.std.specs.List.{AllByRecursion}
use Rattle.std.proofs.lemmas.Bool.{and_right, cases_eq, eqb-false}
use Rattle.std.proofs.lemmas.Bool.Decides.{nat_tests}
use Rattle.shm_model.specs.Permission.{Segment, destroyed}
use Rattle.shm_model.specs.Kernel.{Called, replaced, with_id}
use Rattle.shm_model.specs.declared.call.Op.{Op}
use Rattle.shm_model.specs.declared.call.Reply.{Reply}
use Rattle.shm_laws.proofs.Kernel.Parts.{found-id}
use Rattle.shm_laws.proofs.Kernel.Effect.{Effect, Change, Kept, changed, gained, is_detach, kept, lost, made}
use Rattle.shm_laws.proofs.Kernel.Count.{IsGiven, found-after, next-absent}
use Rattle.shm_laws.proofs.Kernel.Lists.{every-push, every-weaker, found-holds}

-- each segment counts who holds it, and what is held was made
pub record Balanced (held : ℕ → ℕ) (segments : List Segment) : Type 0 where
  pub count : AllByRecursion (λ g. g.nattch ≡ held g.id) segments
  pub stands : (i : ℕ) → 0 < held i → (g : Segment) × (with_id i segments ≡ Some g)

-- who holds moves with the call and its reply
abbrev pub Moved : (ℕ → ℕ) → (ℕ → ℕ) → Op → Reply → Type 0
Moved before after op reply = (i : ℕ) → after i + lost op i ≡ before i + gained op reply i

-- a segment that somebody holds is not destroyed
alive-held : (g : Segment) → 0 < g.nattch → destroyed g ≡ false
alive-held g some = and_right g.marked (g.nattch == 0) (grind (arith, nat_tests))

pub held-alive : (held : ℕ → ℕ) (segments : List Segment) (i : ℕ) → Balanced held segments → 0 < held i
    → (g : Segment) × (with_id i segments ≡ Some g) × (destroyed g ≡ false) × (g.nattch ≡ held i)
held-alive held segments i balanced some =
    let found = balanced.stands i some in
    let count : found.0.nattch ≡ held i =
    found-holds (λ g. g.nattch ≡ held g.id) (λ g. i == g.id) segments found.0 balanced.count found.1 ∙ ap held (found-id i segments found.0 found.1) in
    (found.0, found.1, alive-held found.0 (omega arith), count)

is-lost : (op : Op) (i : ℕ) (b : Bool) → is_detach op i ≡ b → lost op i ≡ (if b then 1 else 0)
is-lost op i b is = rw is

unmoved : (op : Op) (reply : Reply) (segments : List Segment) (before after : ℕ → ℕ) → Kept op reply segments → Balanced before segments → Moved before after op reply
    → (i : ℕ) (b : Bool) → is_detach op i ≡ b → after i ≡ before i
unmoved op reply segments before after none balanced moved i false is =
    let l = is-lost op i false is in let g = none.gained i in let m = moved i in omega arith
unmoved op reply segments before after none balanced moved i true is =
    let l = is-lost op i true is in let g = none.gained i in let m = moved i in
    let some : 0 < before i = omega arith in
    let found = held-alive before segments i balanced some in
    let nobody = none.lost i is found.0 found.1 found.2 in
    let count = found.3 in
    absurd (omega arith)

-- the changed segment counts anew, the others as they did
replaced-count-step : (P : Segment → Type 0) (id : ℕ) (new g : Segment) (b : Bool) → (id == g.id) ≡ b → P new → (id ≢ g.id → P g) → P (if b then new else g)
replaced-count-step P id new g true is here there = here
replaced-count-step P id new g false is here there = there (eqb-false id g.id is)

every-changed : (P Q : Segment → Type 0) (id : ℕ) (new : Segment) (segments : List Segment) → P new → ((g : Segment) → id ≢ g.id → Q g → P g)
    → AllByRecursion Q segments → AllByRecursion P (replaced id new segments)
every-changed P Q id new [] here there all = tt
every-changed P Q id new (g ∷ gs) here there all =
    (replaced-count-step P id new g (id == g.id) refl here (λ other. there g other all.0), every-changed P Q id new gs here there all.1)

changed-count : (op : Op) (reply : Reply) (sites id : ℕ) (old new : Segment) (before after : ℕ → ℕ) → Moved before after op reply → Change sites op reply id old new
    → old.nattch ≡ before id → new.nattch ≡ after new.id
changed-count op reply sites id old new before after moved change was =
    let m = moved id in
    let h = change.held id refl in
    let n : new.nattch ≡ after id = omega arith in
    n ∙ ap after (sym change.same_id)

other-count : (op : Op) (reply : Reply) (sites id i : ℕ) (old new : Segment) (before after : ℕ → ℕ) → Moved before after op reply → Change sites op reply id old new
    → i ≢ id → after i ≡ before i
other-count op reply sites id i old new before after moved change other =
    let m = moved i in let zero' = change.others i other in let l = zero'.0 in let g = zero'.1 in omega arith

pub balanced-after : (sites home : ℕ) → home < sites → (op : Op) (segments : List Segment) (done : Called) → Effect sites home op segments done
    → (before after : ℕ → ℕ) → AllByRecursion (IsGiven sites segments) segments → Balanced before segments → Moved before after op done.reply → Balanced after done.segments
balanced-after sites home below op segments done (kept reply none) before after given balanced moved =
    let same : (i : ℕ) → after i ≡ before i = λ i. unmoved op reply segments before after none balanced moved i (is_detach op i) refl in
    record {
      count = every-weaker _ _ (λ g count. count ∙ sym (same g.id)) segments balanced.count;
      stands = λ i some. balanced.stands i (subst (λ n. 0 < n) (same i) some);
    }
balanced-after sites home below op segments done (made reply new is) before after given balanced moved =
    let same : (i : ℕ) → after i ≡ before i = λ i. let m = moved i in let l = is.lost i in let g = is.gained i in omega arith in
    let absent : with_id new.id segments ≡ None = ap (λ i. with_id i segments) is.id ∙ next-absent sites home below segments given in
    record {
      count = every-push _ segments new (every-weaker _ _ (λ g count. count ∙ sym (same g.id)) segments balanced.count)
          (new-count (before new.id) (after new.id) new.nattch (λ some. absent-found (with_id new.id segments) absent (balanced.stands new.id some)) (same new.id) is.nattch);
      stands = λ i some. let found = balanced.stands i (subst (λ n. 0 < n) (same i) some) in
          let stays = found-after sites home op segments _ (made reply new is) i found.0 found.1 in (stays.new, stays.found);
    }
  where
    absent-found : (found : Option Segment) → found ≡ None → ((g : Segment) × (found ≡ Some g)) → ⊥
    absent-found found none stands = let h = stands.1 in cc

    new-count : (n m k : ℕ) → (0 < n → ⊥) → m ≡ n → k ≡ 0 → k ≡ m
    new-count zero m k nobody same zero' = zero' ∙ sym same
    new-count (suc n) m k nobody same zero' = absurd (nobody (omega arith))
balanced-after sites home below op segments done (changed reply id old new found alive change) before after given balanced moved =
    let was : old.nattch ≡ before id =
    found-holds (λ g. g.nattch ≡ before g.id) (λ g. id == g.id) segments old balanced.count found ∙ ap before (found-id id segments old found) in
    record {
      count = every-changed _ (λ g. g.nattch ≡ before g.id) id new segments (changed-count op reply sites id old new before after moved change was)
          (λ g other count. count ∙ sym (other-count op reply sites id g.id old new before after moved change (λ p. other (sym p)))) balanced.count;
      stands = λ i some. stands-at i some (cases_eq i id);
    }
  where
    stands-at : (i : ℕ) → 0 < after i → (i ≡ id) ⊎ (i ≡ id → ⊥) → (g : Segment) × (with_id i (replaced id new segments) ≡ Some g)
    stands-at i some (inl same) =
        let stays = found-after sites home op segments _ (changed reply id old new found alive change) id old found in
        (stays.new, subst (λ k. with_id k (replaced id new segments) ≡ Some stays.new) (sym same) stays.found)
    stands-at i some (inr other) =
        let held = balanced.stands i (subst (λ n. 0 < n) (other-count op reply sites id i old new before after moved change other) some) in
        let stays = found-after sites home op segments _ (changed reply id old new found alive change) i held.0 held.1 in (stays.new, stays.found)
