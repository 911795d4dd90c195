-- One run more in a tally of outcomes.
use Rattle.std.proofs.Common.{◌≡◌, ◌⊎◌, ℕ, ◌+◌, ◌<◌, zero, suc, Bool, true, false, List, [], ◌∷◌, ◌++◌, Some, None, refl, sym, ap, ◌∙◌, arith, length, length-append, slice_get, slice_set, inl, inr, subst}
use Rattle.std.specs.Prelude.{count_by, sum_by, ◌==◌, ◌&&◌, map}
use Rattle.std.specs.List.{list_all, zip}
use Rattle.std.proofs.lemmas.Bool.Decides.{nat_tests}
use Rattle.std.proofs.lemmas.List.Sums.{count_by-le-length}
use Rattle.std.proofs.lemmas.Option.{same_Some, slice_get_within}
use Rattle.shm_model.specs.declared.event.Event.{Event}
use Rattle.shm_simulate.specs.declared.gave.Gave.{Gave}
use Rattle.shm_simulate.specs.declared.gave.Gave.TheVariants as gave
use Rattle.shm_simulate.specs.declared.line_state.LineState.{LineState}
use Rattle.shm_simulate.specs.declared.outcome.Outcome.{Outcome}
use Rattle.shm_simulate.specs.Lines.{counted}
use Rattle.shm_simulate.specs.Outcomes.{IsAmong, IsFirstOf, Tallied, agrees, same_gave, same_given}
use Rattle.shm_simulate.proofs.ListLemmas.{count-no, count-none, count-yes, get-cases, get-front, get-last, get-within, set-cases, set-other, set-same, sum-push, sum-raise}
use Rattle.shm_simulate.proofs.SpreadLemmas.{counted-below}

same-gave : (a b : Gave) → same_gave a b ≡ true → a ≡ b
same-gave gave.Nothing gave.Nothing h = refl
same-gave gave.Nothing (gave.Byte b) h = cc
same-gave gave.Nothing gave.Stored h = cc
same-gave (gave.Byte a) gave.Nothing h = cc
same-gave (gave.Byte a) (gave.Byte b) h = let e : a ≡ b = grind (arith, nat_tests) in ap gave.Byte e
same-gave (gave.Byte a) gave.Stored h = cc
same-gave gave.Stored gave.Nothing h = cc
same-gave gave.Stored (gave.Byte b) h = cc
same-gave gave.Stored gave.Stored h = refl

gave-same : (a : Gave) → same_gave a a ≡ true
gave-same gave.Nothing = refl
gave-same (gave.Byte a) = grind (arith, nat_tests)
gave-same gave.Stored = refl

and-true : (a b : Bool) → (a && b) ≡ true → (a ≡ true) × (b ≡ true)
and-true true b h = (refl, h)
and-true false b h = cc

pub same-given : (xs ys : List Gave) → same_given xs ys ≡ true → xs ≡ ys
same-given [] [] h = refl
same-given [] (y ∷ ys) h = cc
same-given (x ∷ xs) [] h = cc
same-given (x ∷ xs) (y ∷ ys) h =
    let both = and-true (same_gave x y) (same_given xs ys) h in
    ap (λ z. z ∷ xs) (same-gave x y both.0) ∙ ap (λ l. y ∷ l) (same-given xs ys both.1)

pub given-same : (xs : List Gave) → same_given xs xs ≡ true
given-same [] = refl
given-same (x ∷ xs) = ap (λ b. b && same_given xs xs) (gave-same x) ∙ given-same xs

bool-false : (b : Bool) → (b ≡ true → ⊥) → b ≡ false
bool-false true h = absurd (h refl)
bool-false false h = refl

pub other-given : (xs ys : List Gave) → same_given xs ys ≡ false → xs ≡ ys → ⊥
other-given xs ys differ e = let alike : same_given xs ys ≡ true = ap (same_given xs) (sym e) ∙ given-same xs in cc

pub given-other : (xs ys : List Gave) → (xs ≡ ys → ⊥) → same_given xs ys ≡ false
given-other xs ys ne = bool-false (same_given xs ys) (λ h. ne (same-given xs ys h))

abbrev count-of-outcome : Outcome → ℕ
count-of-outcome outcome = outcome.count

-- a later run leaves the first as it is
first-stays : (givens : List (List Gave)) (run : ℕ) (given later : List Gave) → IsFirstOf givens run given → IsFirstOf (givens ++ later ∷ []) run given
first-stays givens run given later is = record {
  gave = get-front givens (later ∷ []) run given is.gave;
  first = λ earlier below there. elim (get-cases givens later earlier given there) [
    | inl a ↦ is.first earlier below a
    | inr b ↦ let within : run < length givens = slice_get_within givens run given is.gave in omega (arith, below, within, b.0)
  ];
}

-- the last run is the first that gave what no run before it did
first-comes : (givens : List (List Gave)) (run : ℕ) (given : List Gave) → length givens ≡ run
    → ((earlier : ℕ) → slice_get givens earlier ≡ Some given → ⊥) → IsFirstOf (givens ++ given ∷ []) run given
first-comes givens run given long none = record {
  gave = ap (slice_get (givens ++ given ∷ [])) (sym long) ∙ get-last givens given;
  first = λ earlier below there. elim (get-cases givens given earlier given there) [
    | inl a ↦ none earlier a
    | inr b ↦ omega (arith, below, long, b.0)
  ];
}

module _ (givens : List (List Gave)) (schedules : List (List Event)) (outcomes : List Outcome) (given : List Gave) (events : List Event)
    (had : Tallied givens schedules outcomes) where
  -- a run that came to an outcome once more
  module _ (place : ℕ) (outcome : Outcome) (there : slice_get outcomes place ≡ Some outcome) (same : outcome.given.items ≡ given)
      (few : length givens < 4294967295) where
    raised : Outcome
    raised = record outcome { count = counted outcome.count }

    one-more : counted outcome.count ≡ outcome.count + 1
    one-more = counted-below outcome.count (omega (arith, had.counts place outcome there, count_by-le-length (same_given outcome.given.items) givens, few))

    again-counts : (i : ℕ) (x : Outcome) → slice_get (slice_set outcomes place raised) i ≡ Some x
        → x.count ≡ count_by (same_given x.given.items) (givens ++ given ∷ [])
    unfolding raised
    again-counts i x h = elim (set-cases outcomes place raised i x h) [
      | inl a ↦ subst (λ (z : Outcome). z.count ≡ count_by (same_given z.given.items) (givens ++ given ∷ [])) a.1
          (one-more ∙ (ap (λ n. n + 1) (had.counts place outcome there)
          ∙ sym (count-yes (same_given outcome.given.items) givens given (ap (λ l. same_given outcome.given.items l) (sym same) ∙ given-same outcome.given.items))))
      | inr b ↦ had.counts i x b.1
          ∙ sym (count-no (same_given x.given.items) givens given
          (given-other x.given.items given (λ e. b.0 (had.once i place x outcome b.1 there (e ∙ sym same)))))
    ]

    again-kept : (i : ℕ) (x : Outcome) → slice_get (slice_set outcomes place raised) i ≡ Some x
        → (slice_get (schedules ++ events ∷ []) x.run ≡ Some x.events.items) × IsFirstOf (givens ++ given ∷ []) x.run x.given.items
    unfolding raised
    again-kept i x h = elim (set-cases outcomes place raised i x h) [
      | inl a ↦ subst (λ (z : Outcome). (slice_get (schedules ++ events ∷ []) z.run ≡ Some z.events.items) × IsFirstOf (givens ++ given ∷ []) z.run z.given.items) a.1 (
        get-front schedules (events ∷ []) outcome.run outcome.events.items (had.kept place outcome there).0,
        first-stays givens outcome.run outcome.given.items given (had.kept place outcome there).1,
      )
      | inr b ↦ (
        get-front schedules (events ∷ []) x.run x.events.items (had.kept i x b.1).0,
        first-stays givens x.run x.given.items given (had.kept i x b.1).1,
      )
    ]

    raised-among : (p : ℕ) (x : Outcome) (g : List Gave) (b : Bool) → (p == place) ≡ b → slice_get outcomes p ≡ Some x → x.given.items ≡ g
        → IsAmong (slice_set outcomes place raised) g
    unfolding raised
    raised-among p x g true e h s =
        let is : p ≡ place = grind (arith, nat_tests) in
        let one : x ≡ outcome = same_Some x outcome (sym h ∙ (ap (slice_get outcomes) is ∙ there)) in
        record { place = place; outcome = raised; there = set-same outcomes place outcome raised there; same = ap (λ (o : Outcome). o.given.items) (sym one) ∙ s }
    raised-among p x g false e h s =
        let ne : p ≡ place → ⊥ = grind (arith, nat_tests) in
        record { place = p; outcome = x; there = set-other outcomes place raised p x ne h; same = s }

    again-among : (g : List Gave) → IsAmong outcomes g → IsAmong (slice_set outcomes place raised) g
    again-among g a = raised-among a.place a.outcome g (a.place == place) refl a.there a.same

    again-told : (run : ℕ) (g : List Gave) → slice_get (givens ++ given ∷ []) run ≡ Some g → IsAmong (slice_set outcomes place raised) g
    unfolding raised
    again-told run g h = elim (get-cases givens given run g h) [
      | inl a ↦ again-among g (had.told run g a)
      | inr b ↦ record { place = place; outcome = raised; there = set-same outcomes place outcome raised there; same = same ∙ b.1 }
    ]

    -- the outcomes stay where they are, each with its run
    origin : (i : ℕ) (x : Outcome) → slice_get (slice_set outcomes place raised) i ≡ Some x
        → (y : Outcome) × (slice_get outcomes i ≡ Some y) × (y.given.items ≡ x.given.items) × (y.run ≡ x.run)
    unfolding raised
    origin i x h = elim (set-cases outcomes place raised i x h) [
      | inl a ↦ (outcome, ap (slice_get outcomes) a.0 ∙ there, ap (λ (o : Outcome). o.given.items) a.1, ap (λ (o : Outcome). o.run) a.1)
      | inr b ↦ (x, b.1, refl, refl)
    ]

    again-in-order : (i j : ℕ) (a b : Outcome) → slice_get (slice_set outcomes place raised) i ≡ Some a → slice_get (slice_set outcomes place raised) j ≡ Some b
        → i < j → a.run < b.run
    again-in-order i j a b ha hb below =
        let x = origin i a ha in
        let y = origin j b hb in
        omega (arith, had.in_order i j x.0 y.0 x.1 y.1 below, x.3, y.3)

    pub again : Tallied (givens ++ given ∷ []) (schedules ++ events ∷ []) (slice_set outcomes place (record outcome { count = counted outcome.count }))
    unfolding raised
    again = record {
      counts = again-counts;
      kept = again-kept;
      told = again-told;
      once = λ i j a b ha hb e. let x = origin i a ha in let y = origin j b hb in had.once i j x.0 y.0 x.1 y.1 (x.2 ∙ (e ∙ sym y.2));
      in_order = again-in-order;
      whole = sum-raise count-of-outcome outcomes place outcome raised there one-more ∙ (ap (λ n. n + 1) had.whole ∙ sym (length-append givens (given ∷ [])));
    }

  -- a run that came to a new outcome
  module _ (new : Outcome) (missing : (place : ℕ) (outcome : Outcome) → slice_get outcomes place ≡ Some outcome → outcome.given.items ≡ given → ⊥)
      (gave : new.given.items ≡ given) (one : new.count ≡ 1) (runs : length givens ≡ new.run) (scheduled : length schedules ≡ new.run)
      (made : new.events.items ≡ events) where
    none-yet : (g : List Gave) (run : ℕ) (x : List Gave) → g ≡ given → slice_get givens run ≡ Some x → same_given g x ≡ false
    none-yet g run x e h =
        let among = had.told run x h in
        given-other g x (λ s. missing among.place among.outcome among.there (among.same ∙ (sym s ∙ e)))

    first-counts : (i : ℕ) (x : Outcome) → slice_get (outcomes ++ new ∷ []) i ≡ Some x → x.count ≡ count_by (same_given x.given.items) (givens ++ given ∷ [])
    first-counts i x h = elim (get-cases outcomes new i x h) [
      | inl a ↦ had.counts i x a ∙ sym (count-no (same_given x.given.items) givens given (given-other x.given.items given (λ e. missing i x a e)))
      | inr b ↦ subst (λ (z : Outcome). z.count ≡ count_by (same_given z.given.items) (givens ++ given ∷ [])) b.1
          (one ∙ (ap (λ n. n + 1) (sym (count-none (same_given new.given.items) givens (λ k y g. none-yet new.given.items k y gave g)))
          ∙ sym (count-yes (same_given new.given.items) givens given (ap (same_given new.given.items) (sym gave) ∙ given-same new.given.items))))
    ]

    -- no run before it gave this
    none-gave : (earlier : ℕ) → slice_get givens earlier ≡ Some new.given.items → ⊥
    none-gave earlier h = let among = had.told earlier new.given.items h in missing among.place among.outcome among.there (among.same ∙ gave)

    first-kept : (i : ℕ) (x : Outcome) → slice_get (outcomes ++ new ∷ []) i ≡ Some x
        → (slice_get (schedules ++ events ∷ []) x.run ≡ Some x.events.items) × IsFirstOf (givens ++ given ∷ []) x.run x.given.items
    first-kept i x h = elim (get-cases outcomes new i x h) [
      | inl a ↦ (
        get-front schedules (events ∷ []) x.run x.events.items (had.kept i x a).0,
        first-stays givens x.run x.given.items given (had.kept i x a).1,
      )
      | inr b ↦ subst (λ (z : Outcome). (slice_get (schedules ++ events ∷ []) z.run ≡ Some z.events.items) × IsFirstOf (givens ++ given ∷ []) z.run z.given.items) b.1 (
        ap (slice_get (schedules ++ events ∷ [])) (sym scheduled) ∙ (get-last schedules events ∙ ap Some (sym made)),
        subst (λ last. IsFirstOf (givens ++ last ∷ []) new.run new.given.items) gave (first-comes givens new.run new.given.items runs none-gave),
      )
    ]

    first-in-order : (i j : ℕ) (a b : Outcome) → slice_get (outcomes ++ new ∷ []) i ≡ Some a → slice_get (outcomes ++ new ∷ []) j ≡ Some b → i < j
        → a.run < b.run
    first-in-order i j a b ha hb below = elim (get-cases outcomes new i a ha) [
      | inl x ↦ elim (get-cases outcomes new j b hb) [
        | inl y ↦ had.in_order i j a b x y below
        | inr y ↦ let within : a.run < length givens = slice_get_within givens a.run a.given.items (had.kept i a x).1.gave in
            omega (arith, within, runs, ap (λ (o : Outcome). o.run) y.1)
      ]
      | inr x ↦ elim (get-cases outcomes new j b hb) [
        | inl y ↦ let within : j < length outcomes = slice_get_within outcomes j b y in omega (arith, within, below, x.0)
        | inr y ↦ omega (arith, below, x.0, y.0)
      ]
    ]

    first-told : (run : ℕ) (g : List Gave) → slice_get (givens ++ given ∷ []) run ≡ Some g → IsAmong (outcomes ++ new ∷ []) g
    first-told run g h = elim (get-cases givens given run g h) [
      | inl a ↦ let among = had.told run g a in
          record { place = among.place; outcome = among.outcome; there = get-front outcomes (new ∷ []) among.place among.outcome among.there; same = among.same }
      | inr b ↦ record { place = length outcomes; outcome = new; there = get-last outcomes new; same = gave ∙ b.1 }
    ]

    first-once : (i j : ℕ) (a b : Outcome) → slice_get (outcomes ++ new ∷ []) i ≡ Some a → slice_get (outcomes ++ new ∷ []) j ≡ Some b → a.given.items ≡ b.given.items → i ≡ j
    first-once i j a b ha hb e = elim (get-cases outcomes new i a ha) [
      | inl x ↦ elim (get-cases outcomes new j b hb) [
        | inl y ↦ had.once i j a b x y e
        | inr y ↦ absurd (missing i a x (e ∙ (ap (λ (o : Outcome). o.given.items) (sym y.1) ∙ gave)))
      ]
      | inr x ↦ elim (get-cases outcomes new j b hb) [
        | inl y ↦ absurd (missing j b y (sym e ∙ (ap (λ (o : Outcome). o.given.items) (sym x.1) ∙ gave)))
        | inr y ↦ x.0 ∙ sym y.0
      ]
    ]

    pub first : Tallied (givens ++ given ∷ []) (schedules ++ events ∷ []) (outcomes ++ new ∷ [])
    first = record {
      counts = first-counts;
      kept = first-kept;
      told = first-told;
      once = first-once;
      in_order = first-in-order;
      whole = sum-push count-of-outcome outcomes new ∙ (omega (arith, had.whole, one) ∙ sym (length-append givens (given ∷ [])));
    }

-- lists of one length agree where they are the same
pub agree-same : (given : List Gave) (lines : List LineState) → length given ≡ length lines → list_all agrees (zip given lines) ≡ same_given given (map (λ (line : LineState). line.gave) lines)
agree-same [] [] h = refl
agree-same [] (y ∷ ys) h = absurd (omega arith)
agree-same (x ∷ xs) [] h = absurd (omega arith)
agree-same (x ∷ xs) (y ∷ ys) h = ap (λ b. same_gave x y.gave && b) (agree-same xs ys (omega arith))

-- and those of different lengths aren't
pub long-other : (given : List Gave) (lines : List LineState) → (length given ≡ length lines → ⊥) → same_given given (map (λ (line : LineState). line.gave) lines) ≡ false
long-other [] [] h = absurd (h refl)
long-other [] (y ∷ ys) h = refl
long-other (x ∷ xs) [] h = refl
long-other (x ∷ xs) (y ∷ ys) h = elim (same_gave x y.gave) as (λ b. (b && same_given xs (map (λ (line : LineState). line.gave) ys)) ≡ false) [
  | true ↦ long-other xs ys (λ e. h (ap suc e))
  | false ↦ refl
]

module _ (givens : List (List Gave)) (schedules : List (List Event)) (outcomes new : List Outcome) (given : List Gave) (events : List Event)
    (had : Tallied givens schedules outcomes) where
  -- the outcome at this place came once more
  pub came-again : (place : ℕ) → place < length outcomes
      → ((outcome : Outcome) → slice_get outcomes place ≡ Some outcome → same_given outcome.given.items given ≡ true)
      → ((outcome : Outcome) → slice_get outcomes place ≡ Some outcome → new ≡ slice_set outcomes place (record outcome { count = counted outcome.count }))
      → length givens < 4294967295 → Tallied (givens ++ given ∷ []) (schedules ++ events ∷ []) new
  came-again place inside same changed few =
      let there = get-within outcomes place inside in
      subst (Tallied (givens ++ given ∷ []) (schedules ++ events ∷ [])) (sym (changed there.0 there.1))
      (again givens schedules outcomes given events had place there.0 there.1 (same-given there.0.given.items given (same there.0 there.1)) few)

  -- a new outcome came
  pub came-first : (outcome : Outcome) → ((place : ℕ) (x : Outcome) → slice_get outcomes place ≡ Some x → same_given x.given.items given ≡ false)
      → outcome.given.items ≡ given → outcome.count ≡ 1 → length givens ≡ outcome.run → length schedules ≡ outcome.run → outcome.events.items ≡ events
      → new ≡ outcomes ++ outcome ∷ [] → Tallied (givens ++ given ∷ []) (schedules ++ events ∷ []) new
  came-first outcome missing gave one runs scheduled made pushed =
      subst (Tallied (givens ++ given ∷ []) (schedules ++ events ∷ [])) (sym pushed)
      (first givens schedules outcomes given events had outcome (λ place x there. other-given x.given.items given (missing place x there)) gave one runs scheduled made)
