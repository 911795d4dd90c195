-- The ask that goes on stays the first that can be made.
use Rattle.std.proofs.Common.{◌≡◌, ℕ, zero, suc, ◌+◌, ◌<◌, Bool, true, false, ◌||◌, not, List, [], ◌∷◌, Some, None, cond, length, set, get_or, refl, ap, sym, subst, ◌∙◌, arith}
use Rattle.std.specs.List.{position_from}
use Rattle.std.specs.Prelude.{is_some}
use Rattle.shm_model.specs.declared.asked_access.Asked.TheVariants.{Load}
use Rattle.shm_process.specs.Access.{is_waiting}
use Rattle.shm_process.specs.Node.{Node, answer_to, is_late}
use Rattle.shm_process.specs.Waiting.{can_be_made, is_held, next_heard, ready}
use Rattle.shm_process.specs.WaitingAsks.{Access, WaitingAsk, ask_in, next_access}
use Rattle.shm_process.proofs.Enough.{Later, access-of}
use Rattle.shm_process.proofs.Tests.{some_is, unless-some}
use Rattle.shm_process.proofs.Totals.{Found, found_at}

-- ---- lists

pub set_twice : {X : Type 0} (xs : List X) (i : ℕ) (x y : X) → set (set xs i x) i y ≡ set xs i y
set_twice [] i x y = refl
set_twice (z ∷ zs) zero x y = refl
set_twice (z ∷ zs) (suc i) x y = ap (λ l. z ∷ l) (set_twice zs i x y)

module _ {X : Type 0} (p q : X → Bool) (less : (x : X) → p x ≡ false → q x ≡ false) where
  search-later : (x : X) (xs : List X) (from i : ℕ) (y : X) (here : Bool) → p x ≡ here
      → (position_from p (from + 1) xs ≡ Some (from + suc i) → position_from q (from + 1) (set xs i y) ≡ Some (from + suc i))
      → cond here (Some from) (position_from p (from + 1) xs) ≡ Some (from + suc i)
      → cond (q x) (Some from) (position_from q (from + 1) (set xs i y)) ≡ Some (from + suc i)
  search-later x xs from i y true is later e = absurd (let same = some_is from (from + suc i) e in omega (arith, same))
  search-later x xs from i y false is later e =
      ap (λ b. cond b (Some from) (position_from q (from + 1) (set xs i y))) (less x is) ∙ later e

  -- one that still passes, in the place of the one that was found
  search-set : (xs : List X) (from i : ℕ) (y : X) → q y ≡ true → position_from p from xs ≡ Some (from + i) → position_from q from (set xs i y) ≡ Some (from + i)
  search-set [] from i y passes e = absurd (cc)
  search-set (x ∷ xs) from zero y passes e =
      let same : from ≡ from + 0 = omega arith in ap (λ b. cond b (Some from) (position_from q (from + 1) xs)) passes ∙ ap Some same
  search-set (x ∷ xs) from (suc i) y passes e =
      let on : (from + 1) + i ≡ from + suc i = omega arith in
      search-later x xs from i y (p x) refl
      (λ found. subst (λ n. position_from q (from + 1) (set xs i y) ≡ Some n) on
      (search-set xs (from + 1) i y passes (subst (λ n. position_from p (from + 1) xs ≡ Some n) (sym on) found))) e

-- ---- a node

either-no : (h k a b : Bool) → k ≡ h → (b ≡ true → a ≡ true) → not (h || b) ≡ false → not (k || a) ≡ false
either-no h true a b same more e = refl
either-no true false a b same more e = absurd (cc)
either-no false false a true same more e = ap not (more refl)
either-no false false a false same more e = absurd (cc)

-- what can't be made there can't later
pub not_later : (old new : Node) → Later old new → (ask : WaitingAsk) → can_be_made old ask ≡ false → can_be_made new ask ≡ false
not_later old new later ask e =
    either-no (is_held old ask) (is_held new ask) (is_waiting (answer_to new (next_heard ask))) (is_waiting (answer_to old (next_heard ask)))
    (ap is_some (later.held (next_access ask))) (later.waits (next_heard ask) (access-of (next_access ask))) e

-- what is known of the first that can be made
pub record First (node : Node) (at : ℕ) : Type 0 where
  pub early : is_late node 0 ≡ false
  pub search : position_from (can_be_made node) 0 node.waiting ≡ Some at
  pub within : at < length node.waiting
  pub can : can_be_made node (ask_in node.waiting at) ≡ true

pub first_is : (node : Node) (at : ℕ) → ready node ≡ Some at → First node at
first_is node at e =
    let parts = unless-some (is_late node 0) (position_from (can_be_made node) 0 node.waiting) at e in
    let f : Found (can_be_made node) node.waiting (Access [] (Load 0 0)) 0 at = found_at (can_be_made node) node.waiting (Access [] (Load 0 0)) 0 at parts.1 in
    let from = f.is in
    let same : f.place ≡ at = omega (arith, from) in
    record {
      early = parts.0;
      search = parts.1;
      within = subst (λ i. i < length node.waiting) same f.within;
      can = subst (λ i. can_be_made node (get_or node.waiting i (Access [] (Load 0 0))) ≡ true) same f.passes;
    }

-- it stays the first as long as it can be made
pub stays_first : (old new : Node) (at : ℕ) (ask : WaitingAsk) → ready old ≡ Some at → Later old new → new.waiting ≡ set old.waiting at ask
    → can_be_made new ask ≡ true → is_late new 0 ≡ false → ready new ≡ Some at
stays_first old new at ask first later waiting can early =
    let f = first_is old at first in
    let from : 0 + at ≡ at = omega arith in
    ap (λ b. cond b None (position_from (can_be_made new) 0 new.waiting)) early
    ∙ ap (position_from (can_be_made new) 0) waiting
    ∙ subst (λ n. position_from (can_be_made new) 0 (set old.waiting at ask) ≡ Some n) from
    (search-set (can_be_made old) (can_be_made new) (not_later old new later) old.waiting 0 at ask can
    (subst (λ n. position_from (can_be_made old) 0 old.waiting ≡ Some n) (sym from) f.search))
