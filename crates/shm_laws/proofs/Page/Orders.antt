-- What a running transaction asks for fits, at its start and again at each tick.
use Rattle.std.proofs.Common.{◌≡◌, ◌≢◌, ℕ, ◌+◌, ◌<◌, ◌≤◌, ◌⊎◌, inl, inr, Bool, true, false, ◌&&◌, not, ◌==◌, Option, Some, None, List, [], ◌∷◌, map, filter, if◌then◌else◌, arith, refl, sym, ◌∙◌, ap, subst, zero, suc}
use Rattle.std.proofs.lemmas.Bool.{cases_eq, and_parts}
use Rattle.std.proofs.lemmas.Bool.Decides.{nat_tests}
use Rattle.std.specs.List.{range_with_len}
use Rattle.shm_model.specs.declared.request_kind.Kind.{Kind}
use Rattle.shm_model.specs.declared.request_kind.Kind.TheVariants.{Read, Write}
use Rattle.shm_model.specs.Entry.{Clear, Hand, owned, seen, writable}
use Rattle.shm_model.specs.Book.{Book, Order, ClearTo, HandTo, Running, awaited, awaits, is_write, max_sites, orders, orders_of, orders_to}
use Rattle.shm_laws.proofs.Page.View.{View, Runs, AllMet, Holds, HandFits, Fits}
use Rattle.shm_laws.proofs.Page.Entry.{false-true}
use Rattle.shm_laws.proofs.Page.Hand.{own-readable-of}

abbrev pub Each : {X : Type 0} → (X → Type 0) → List X → Type 0
Each P [] = Unit {0}
Each P (x ∷ xs) = P x × Each P xs

pub each-map : {X Y : Type 0} (P : Y → Type 0) (f : X → Y) (xs : List X) → Each (λ x. P (f x)) xs → Each P (map f xs)
each-map P f [] a = tt
each-map P f (x ∷ xs) a = (a.0, each-map P f xs a.1)

pub each-imp : {X : Type 0} (P Q : X → Type 0) (xs : List X) → ((x : X) → P x → Q x) → Each P xs → Each Q xs
each-imp P Q [] f a = tt
each-imp P Q (x ∷ xs) f a = (f x a.0, each-imp P Q xs f a.1)

each-cond : {X : Type 0} (P : X → Type 0) (p : X → Bool) (x : X) (xs : List X) (b : Bool) → p x ≡ b → P x → Each (λ y. P y × (p y ≡ true)) xs
    → Each (λ y. P y × (p y ≡ true)) (if b then x ∷ xs else xs)
each-cond P p x xs true e q a = ((q, e), a)
each-cond P p x xs false e q a = a

-- what a filter keeps passes its test
pub each-filter : {X : Type 0} (P : X → Type 0) (p : X → Bool) (xs : List X) → Each P xs → Each (λ y. P y × (p y ≡ true)) (filter p xs)
each-filter P p [] a = tt
each-filter P p (x ∷ xs) a = each-cond P p x (filter p xs) (p x) refl a.0 (each-filter P p xs a.1)

none-cond : {X : Type 0} (x : X) (xs : List X) (b : Bool) → (if b then x ∷ xs else xs) ≡ [] → (b ≡ false) × (xs ≡ [])
none-cond x xs true e = absurd (cons-nil x xs e)
  where
    cons-nil : {X : Type 0} (x : X) (xs : List X) → x ∷ xs ≡ [] → ⊥
    cons-nil x xs e = cc
none-cond x xs false e = (refl, e)

-- where a filter keeps nothing, nothing passes its test
pub each-none : {X : Type 0} (p : X → Bool) (xs : List X) → filter p xs ≡ [] → Each (λ y. p y ≡ false) xs
each-none p [] e = tt
each-none p (x ∷ xs) e = let parts = none-cond x (filter p xs) (p x) e in (parts.0, each-none p xs parts.1)

pub range-below : (a n : ℕ) → Each (λ s. s < a + n) (range_with_len a n)
range-below a zero = tt
range-below a (suc n) = (omega arith, each-imp (λ s. s < (a + 1) + n) (λ s. s < a + suc n) (range_with_len (a + 1) n) (λ s l. omega arith) (range-below (a + 1) n))

at-range : (P : ℕ → Type 0) (a n s : ℕ) → (a ≡ s) ⊎ (a ≢ s) → a ≤ s → s < a + suc n → P a → ((a + 1) ≤ s → s < (a + 1) + n → P s) → P s
at-range P a n s (inl e) low high p f = subst P e p
at-range P a n s (inr o) low high p f = f (omega arith) (omega arith)

pub each-at : (P : ℕ → Type 0) (a n s : ℕ) → Each P (range_with_len a n) → a ≤ s → s < a + n → P s
each-at P a zero s each low high = absurd (omega arith)
each-at P a (suc n) s each low high = at-range P a n s (cases_eq a s) low high each.0 (λ l k. each-at P (a + 1) n s each.1 l k)

pub awaited-each : (b : Book) (run : Running) → Each (λ s. (s < max_sites) × (awaits b run s ≡ true)) (awaited b run)
unfolding awaited
awaited-each b run = each-filter (λ s. s < max_sites) (awaits b run) (range_with_len 0 max_sites) (range-below 0 max_sites)

pub awaited-none : (b : Book) (run : Running) → awaited b run ≡ [] → (s : ℕ) → s < max_sites → awaits b run s ≡ false
unfolding awaited
awaited-none b run e s l = each-at (λ s. awaits b run s ≡ false) 0 max_sites s (each-none (awaits b run) (range_with_len 0 max_sites) e) (omega arith) l

-- an order, as the note that it becomes
abbrev pub OrderFits : (List ℕ → Type 0) → View → Order → Type 0
OrderFits Now v (ClearTo s) = Fits Now v 0 s (Clear v.book.number)
OrderFits Now v (HandTo owner q kind) = Fits Now v 0 owner (Hand v.book.number kind q)

pub write-of : (kind : Kind) → is_write kind ≡ true → kind ≡ Write
write-of Read e = absurd (false-true e)
write-of Write e = refl

not-awaited : (w c q d : Bool) → ((w && c) && not q) && not d ≡ false → w ≡ true → c ≡ true → q ≡ false → d ≡ true
not-awaited w c q d e a b f = grind (arith, nat_tests)

module _ (Now : List ℕ → Type 0) (v : View) (h : Holds Now v) (run : Running) (is : v.book.running ≡ Some run) where
  the-run : Runs v.book run.kind run.requester
  the-run = record { is = is }

  the-run-at : (kind : Kind) → run.kind ≡ kind → Runs v.book kind run.requester
  the-run-at kind e = subst (λ k. Runs v.book k run.requester) e the-run

  all-met : awaited v.book run ≡ [] → run.kind ≡ Write → AllMet v run.requester
  all-met none w = record {
    met = λ s l c o.
        h.cleared run.kind run.requester s the-run
        (not-awaited (is_write run.kind) (v.book.copies s) (s == run.requester) (v.book.cleared s) (awaited-none v.book run none s l) (ap is_write w) c (grind (arith, nat_tests)));
  }

  owner-asked : run.kind ≡ Write → v.book.number ≡ seen (v.entries v.book.owner) → owned (v.entries v.book.owner) ≡ true
      → (run.requester ≡ v.book.owner) ⊎ (run.requester ≢ v.book.owner) → run.requester ≡ v.book.owner
  owner-asked w e own (inl same) = same
  owner-asked w e own (inr other) = absurd (grind (arith, h.nobody_else run.requester v.book.owner (the-run-at Write w) other, own-readable-of (v.entries v.book.owner) own))

  owner-writes : run.kind ≡ Write → v.book.number ≡ seen (v.entries v.book.owner) → run.requester ≡ v.book.owner → writable (v.entries v.book.owner) ≡ true
  owner-writes w e same = subst (λ s. writable (v.entries s) ≡ true) same (h.writer run.requester (the-run-at Write w) (grind (arith)))

  hand-fits : awaited v.book run ≡ [] → HandFits v v.book.number run.kind run.requester v.book.owner
  hand-fits none = record {
    le = omega arith;
    old_owner = λ old. absurd (not-old old);
    old_requester = λ old. absurd (not-old old);
    runs = λ k p e r. the-run;
    owner = λ k p e r. refl;
    all_met = λ k p e r w. all-met none w;
    again_read = λ k e w o. h.owner_lent run.requester (the-run-at Read k) o (omega arith);
    again_to = λ k e w. owner-asked k e w (cases_eq run.requester v.book.owner);
    again_write = λ k e w. owner-writes k e (owner-asked k e w (cases_eq run.requester v.book.owner));
  }
    where
      not-old : v.book.number < v.book.number ⊎ (v.book.running ≡ None) → ⊥
      not-old (inl l) = omega arith
      not-old (inr e) = some-none run (sym is ∙ e)
        where
          some-none : (run : Running) → Some run ≡ None → ⊥
          some-none run e = cc

  clear-runs : (s : ℕ) → (s < max_sites) × (awaits v.book run s ≡ true) → OrderFits Now v (ClearTo s)
  clear-runs s (l, a) =
      let outer = and_parts ((is_write run.kind && v.book.copies s) && not (s == run.requester)) (not (v.book.cleared s)) a in
      let inner = and_parts (is_write run.kind && v.book.copies s) (not (s == run.requester)) outer.0 in
      let core = and_parts (is_write run.kind) (v.book.copies s) inner.0 in
      inr (record { number = refl; q = run.requester; runs = the-run-at Write (write-of run.kind core.0); other = λ e. absurd (self s run.requester inner.1 e); copy = core.1; bounded = l })
    where
      self : (s q : ℕ) → not (s == q) ≡ true → q ≡ s → ⊥
      self s q a e = grind (arith, nat_tests)

  to-fits : (ss : List ℕ) → awaited v.book run ≡ ss → Each (OrderFits Now v) (orders_to v.book run ss)
  to-fits [] e = (hand-fits e, tt)
  to-fits (s ∷ ss) e =
      each-map (OrderFits Now v) ClearTo (s ∷ ss) (each-imp (λ s. (s < max_sites) × (awaits v.book run s ≡ true)) (λ s. OrderFits Now v (ClearTo s)) (s ∷ ss) clear-runs
      (subst (Each (λ s. (s < max_sites) × (awaits v.book run s ≡ true))) e (awaited-each v.book run)))

of-fits : (Now : List ℕ → Type 0) (v : View) → Holds Now v → (running : Option Running) → v.book.running ≡ running → Each (OrderFits Now v) (orders_of v.book running)
of-fits Now v h None is = tt
of-fits Now v h (Some run) is = to-fits Now v h run is (awaited v.book run) refl

pub orders-fit : (Now : List ℕ → Type 0) (v : View) → Holds Now v → Each (OrderFits Now v) (orders v.book)
orders-fit Now v h = of-fits Now v h v.book.running refl
