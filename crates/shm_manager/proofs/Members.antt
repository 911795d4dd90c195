-- The sites of a set, one after the other, and the sites for which a transaction waits.
use Rattle.std.proofs.Common.{◌≡◌, ◌∙◌, sym, length-append, ℕ, zero, suc, ◌+◌, ◌≤◌, ◌<◌, ◌==◌, ◌-◌, Bool, true, false, not, if◌then◌else◌, cond, List, [], ◌∷◌, ◌++◌, map, length, filter, ap, ap₂, refl, arith, ⊎_elim}
use Rattle.std.proofs.lemmas.Bool.{cases_lt, cases_Bool, eq-eqb, false≢true}
use Rattle.std.proofs.lemmas.Bool.Decides.{nat_tests}
use Rattle.std.specs.List.{range_with_len}
use Rattle.std.proofs.lemmas.List.{append-nil, get_or_past, length-map}
use Rattle.std.proofs.lemmas.List.Folds.{list_all_at}
use Rattle.std.proofs.lemmas.List.FromFn.{filter_of_map_range_with_len_more}
use Rattle.shm_place.specs.SiteSet.{has, has_none}
use Rattle.shm_model.specs.Book.{Book, Running, ClearTo, awaits, awaited}
use Rattle.shm_manager.specs.Orders.{members, orders_of}
use Rattle.shm_manager.specs.declared.manager_messages.Orders.{Orders}
use Rattle.shm_manager.specs.declared.manager_messages.Orders.TheVariants as orders

-- those of the sites below n that pass
pub sites_below : (ℕ → Bool) → ℕ → List ℕ
sites_below p n = filter p (map (λ s. s) (range_with_len 0 n))

pub sites_below-zero : (p : ℕ → Bool) → sites_below p 0 ≡ []
unfolding sites_below
sites_below-zero p = refl

sites_below-more : (p : ℕ → Bool) (n : ℕ) → sites_below p (n + 1) ≡ sites_below p n ++ cond (p n) (n ∷ []) []
unfolding sites_below
sites_below-more p n = filter_of_map_range_with_len_more p (λ s. s) 0 n n (omega arith)

pub sites_below-here : (p : ℕ → Bool) (n : ℕ) → p n ≡ true → sites_below p (n + 1) ≡ sites_below p n ++ n ∷ []
sites_below-here p n e = sites_below-more p n ∙ ap (λ t. sites_below p n ++ cond t (n ∷ []) []) e

pub sites_below-not_here : (p : ℕ → Bool) (n : ℕ) → p n ≡ false → sites_below p (n + 1) ≡ sites_below p n
sites_below-not_here p n e = sites_below-more p n ∙ ap (λ t. sites_below p n ++ cond t (n ∷ []) []) e ∙ append-nil (sites_below p n)

pub sites_below-members : (set : List Bool) → sites_below (has set) 16 ≡ members set
unfolding sites_below members
sites_below-members set = refl

sites_below-awaited : (b : Book) (run : Running) → sites_below (awaits b run) 16 ≡ awaited b run
unfolding sites_below awaited
sites_below-awaited b run = refl

sites_below-none : sites_below (λ _. false) 16 ≡ []
unfolding sites_below
sites_below-none = refl

-- where two tests agree below n
sites_below-agree : (p q : ℕ → Bool) (n : ℕ) → ((s : ℕ) → s < n → p s ≡ q s) → sites_below p n ≡ sites_below q n
sites_below-agree p q zero same = sites_below-zero p ∙ sym (sites_below-zero q)
sites_below-agree p q (suc n) same =
    let one : suc n ≡ n + 1 = omega arith in
    ap (sites_below p) one ∙ sites_below-more p n
    ∙ ap₂ (λ (xs : List ℕ) (t : Bool). xs ++ cond t (n ∷ []) []) (sites_below-agree p q n (λ s lt. same s (omega (arith, lt)))) (same n (omega arith))
    ∙ sym (ap (sites_below q) one ∙ sites_below-more q n)

-- ---- how many there are

length-cond : (t : Bool) (n : ℕ) → length (cond t (n ∷ []) []) ≤ 1
length-cond true n = omega arith
length-cond false n = omega arith

sites_below-few : (p : ℕ → Bool) (n : ℕ) → length (sites_below p n) ≤ n
sites_below-few p zero = omega (arith, ap length (sites_below-zero p))
sites_below-few p (suc n) =
    let one : suc n ≡ n + 1 = omega arith in
    omega (arith, sites_below-few p n, ap (λ j. length (sites_below p j)) one, ap length (sites_below-more p n), length-append (sites_below p n) (cond (p n) (n ∷ []) []), length-cond (p n) n)

sites_below-longer : (p : ℕ → Bool) (n k m : ℕ) → m ≡ n + k → length (sites_below p n) ≤ length (sites_below p m)
sites_below-longer p n zero m e =
    let same : m ≡ n = omega (arith, e) in
    omega (arith, ap (λ j. length (sites_below p j)) same)
sites_below-longer p n (suc k) m e =
    let more : m ≡ (n + k) + 1 = omega (arith, e) in
    omega (arith, sites_below-longer p n k (n + k) refl, ap (λ j. length (sites_below p j)) more, ap length (sites_below-more p (n + k)), length-append (sites_below p (n + k)) (cond (p (n + k)) ((n + k) ∷ []) []))

-- one that passes is one of those that come at last
pub sites_below-fewer : (p : ℕ → Bool) (n : ℕ) → n < 16 → p n ≡ true → length (sites_below p n) < length (sites_below p 16)
sites_below-fewer p n low here =
    let fits : 16 ≡ (n + 1) + (15 - n) = omega (arith, low) in
    omega (arith, ap length (sites_below-here p n here), length-append (sites_below p n) (n ∷ []), sites_below-longer p (n + 1) (15 - n) 16 fits)

pub members-few : (set : List Bool) → length (members set) ≤ 16
members-few set = omega (arith, sites_below-few (has set) 16, ap length (sites_below-members set))

-- at most so many orders go out
pub orders-few : (o : Orders) → length (orders_of o) ≤ 16
orders-few orders.Nothing = omega arith
orders-few (orders.Hand owner requester kind) = omega arith
orders-few (orders.Clear set) = omega (arith, members-few set, length-map (members set) ClearTo)

-- ---- the sites for which a transaction waits, as the loop over the sites gathers them

-- of the sites below n the set has those that are awaited, and no others
pub record Gathered (b : Book) (run : Running) (n : ℕ) (set : List Bool) : Type 0 where
  pub below : (s : ℕ) → s < n → has set s ≡ awaits b run s
  pub above : (s : ℕ) → n ≤ s → has set s ≡ false

none_lower : (s : ℕ) (x y : Bool) → s < 0 → x ≡ y
none_lower s x y lt = absurd (omega (arith, lt))

pub gathered_none : (b : Book) (run : Running) (set : List Bool) → has set ≡ (λ _. false) → Gathered b run 0 set
gathered_none b run set e = record {
  below = λ s lt. none_lower s (has set s) (awaits b run s) lt;
  above = λ s le. ap (λ (f : ℕ → Bool). f s) e;
}

-- a set to which a site was added, at another site and at the same
added_apart : (old new : List Bool) (n s : ℕ) → has new ≡ (λ other. if n == other then true else has old other) → (n == s) ≡ false → has new s ≡ has old s
added_apart old new n s e apart = ap (λ (f : ℕ → Bool). f s) e ∙ ap (λ (t : Bool). if t then true else has old s) apart

added_here : (old new : List Bool) (n s : ℕ) → has new ≡ (λ other. if n == other then true else has old other) → n ≡ s → has new s ≡ true
added_here old new n s e same = ap (λ (f : ℕ → Bool). f s) e ∙ ap (λ (t : Bool). if t then true else has old s) (eq-eqb n s same)

pub gathered_here : (b : Book) (run : Running) (n : ℕ) (old new : List Bool) → Gathered b run n old → awaits b run n ≡ true → has new ≡ (λ other. if n == other then true else has old other) → Gathered b run (n + 1) new
gathered_here b run n old new had here e = record {
  below = λ s lt. ⊎_elim
      (λ (lower : s < n). let apart : (n == s) ≡ false = grind (arith, nat_tests, lower) in added_apart old new n s e apart ∙ had.below s lower)
      (λ (not_lower : n ≤ s). let same : n ≡ s = omega (arith, lt, not_lower) in added_here old new n s e same ∙ sym here ∙ ap (awaits b run) same)
      (cases_lt s n);
  above = λ s le. let apart : (n == s) ≡ false = grind (arith, nat_tests, le) in added_apart old new n s e apart ∙ had.above s (omega (arith, le));
}

pub gathered_not_here : (b : Book) (run : Running) (n : ℕ) (old new : List Bool) → Gathered b run n old → awaits b run n ≡ false → new ≡ old → Gathered b run (n + 1) new
gathered_not_here b run n old new had not_here e = record {
  below = λ s lt. ap (λ set. has set s) e ∙ ⊎_elim
      (λ (lower : s < n). had.below s lower)
      (λ (not_lower : n ≤ s). let same : n ≡ s = omega (arith, lt, not_lower) in had.above s not_lower ∙ sym not_here ∙ ap (awaits b run) same)
      (cases_lt s n);
  above = λ s le. ap (λ set. has set s) e ∙ had.above s (omega (arith, le));
}

pub gathered_all : (b : Book) (run : Running) (n : ℕ) (set : List Bool) → n ≡ 16 → Gathered b run n set → members set ≡ awaited b run
gathered_all b run n set whole had =
    sym (sites_below-members set)
    ∙ sites_below-agree (has set) (awaits b run) 16 (λ s lt. had.below s (omega (arith, lt, whole)))
    ∙ sites_below-awaited b run

-- ---- whether a set has none

none_in : (set : List Bool) (s : ℕ) → has_none set ≡ true → has set s ≡ false
none_in set s none =
    ⊎_elim (λ within. not_from set s none within) (λ past. get_or_past set s false past) (cases_lt s (length set))
  where
    not_from : (set : List Bool) (s : ℕ) → has_none set ≡ true → s < length set → has set s ≡ false
    not_from set s none within =
        ⊎_elim (λ yes. absurd (false≢true (sym (list_all_at not set s false within (ap not yes)) ∙ none))) (λ no. no) (cases_Bool (has set s))

-- a set that isn't empty has a site
record HasSite (set : List Bool) : Type 0 where
  pub site : ℕ
  pub there : has set site ≡ true

some_in : (set : List Bool) → has_none set ≡ false → HasSite set
some_in [] some = absurd (false≢true (sym some))
some_in (true ∷ set) some = record { site = 0; there = refl }
some_in (false ∷ set) some = let rest = some_in set some in record { site = suc rest.site; there = rest.there }

pub gathered_any : (b : Book) (run : Running) (n : ℕ) (set : List Bool) → n ≡ 16 → Gathered b run n set → has_none set ≡ (length (awaited b run) == 0)
gathered_any b run n set whole had = by (has_none set) refl
  where
    by : (t : Bool) → has_none set ≡ t → has_none set ≡ (length (awaited b run) == 0)
    by true none =
        let empty : members set ≡ [] = sym (sites_below-members set) ∙ sites_below-agree (has set) (λ _. false) 16 (λ s lt. none_in set s none) ∙ sites_below-none in
        let few : length (awaited b run) ≡ 0 = ap length (sym (gathered_all b run n set whole had) ∙ empty) in
        none ∙ grind (arith, nat_tests, few)
    by false some =
        let one = some_in set some in
        let low : one.site < 16 = ⊎_elim (λ (lower : one.site < 16). lower) (λ (above : 16 ≤ one.site). absurd (false≢true (sym (had.above one.site (omega (arith, above, whole))) ∙ one.there))) (cases_lt one.site 16) in
        let few : 1 ≤ length (awaited b run) = omega (arith, sites_below-fewer (has set) one.site low one.there, ap length (sites_below-members set ∙ gathered_all b run n set whole had)) in
        some ∙ grind (arith, nat_tests, few)
