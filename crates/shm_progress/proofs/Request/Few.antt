-- Fewer wait than there are sites, where no two are of one site and none of the site that is served.
use Rattle.std.proofs.Common.{◌≡◌, ℕ, ◌+◌, ◌<◌, ◌≤◌, Bool, true, false, ◌||◌, Option, Some, None, List, [], ◌∷◌, length, map, arith, refl, sym, ap, subst}
use Rattle.std.specs.List.{AllByRecursion, IsDistinct, list_any}
use Rattle.std.proofs.Math.Dec.{eqb}
use Rattle.std.proofs.lemmas.Bool.{eqb-true, ne_eqb}
use Rattle.std.proofs.lemmas.List.{length-map}
use Rattle.std.proofs.lemmas.Map.Steps.{length-le_from_distinct_below}
use Rattle.shm_model.specs.declared.request_kind.Kind.{Kind}
use Rattle.shm_model.specs.Book.{Book, Running, Waiting, max_waiting}
use Rattle.shm_laws.proofs.Page.Orders.{Each, each-imp, each-map}
use Rattle.shm_progress.proofs.Request.Line.{Apart, Line, NoneFrom}

abbrev froms : List Waiting → List ℕ
froms ws = map (λ (w : Waiting). w.from) ws

others : (f : ℕ) (ws : List Waiting) → NoneFrom f ws → AllByRecursion (λ y. eqb f y ≡ false) (froms ws)
others f [] none = tt
others f (w ∷ ws) none = (ne_eqb f w.from (λ is. none.0 (sym is)), others f ws none.1)

distinct-froms : (ws : List Waiting) → Apart ws → IsDistinct eqb (froms ws)
unfolding IsDistinct
distinct-froms [] apart = tt
distinct-froms (w ∷ ws) apart = (others w.from ws apart.0, distinct-froms ws apart.1)

with-served : (f : ℕ) (ws : List Waiting) → NoneFrom f ws → Apart ws → IsDistinct eqb (f ∷ froms ws)
unfolding IsDistinct
with-served f ws none apart = (others f ws none, distinct-froms ws apart)

below-all : (xs : List ℕ) (n : ℕ) → Each (λ x. x < n) xs → (q : ℕ) → list_any (eqb q) xs ≡ true → q < n
below-all [] n all q h = cc
below-all (x ∷ xs) n all q h = by-test (eqb q x) (list_any (eqb q) xs) refl h (λ there. below-all xs n all.1 q there)
  where
    by-test : (a b : Bool) → eqb q x ≡ a → (a || b) ≡ true → (b ≡ true → q < n) → q < n
    by-test true b is h rest = subst (λ k. k < n) (sym (eqb-true q x is)) all.0
    by-test false b is h rest = rest h

module _ (A : ℕ → ℕ → Kind → Type 0) (one : (s r n : ℕ) (kind other : Kind) → A s r kind → A s n other → r ≡ n) (n : ℕ) (small : (s r : ℕ) (kind : Kind) → A s r kind → s < n) (b : Book) (line : Line A one b) where
  waiting-few : (run : Running) → b.running ≡ Some run → length b.waiting + 1 ≤ n
  waiting-few run is =
      let (kind, was) = line.served run is in
      let count = length-le_from_distinct_below (run.requester ∷ froms b.waiting) n (with-served run.requester b.waiting (line.aside run is) line.apart)
      (below-all (run.requester ∷ froms b.waiting) n
      (small run.requester (b.served run.requester) kind was, each-map (λ x. x < n) (λ (w : Waiting). w.from) b.waiting (each-imp (λ (w : Waiting). A w.from w.request w.kind) (λ (w : Waiting). w.from < n) b.waiting (λ w a. small w.from w.request w.kind a) line.waits))) in
      let same = length-map b.waiting (λ (w : Waiting). w.from) in
      omega (arith, count, same)

  pub not-full : n ≤ 16 → max_waiting ≤ length b.waiting → ⊥
  not-full few full = by-running b.running refl
    where
      by-running : (running : Option Running) → b.running ≡ running → ⊥
      by-running None idle = let none : length b.waiting ≡ 0 = ap length (line.behind idle) in omega (arith, none, full)
      by-running (Some run) is = let count = waiting-few run is in omega (arith, count, full, few)
