-- The sites of a set, as the loop over the sites lists them.
use Rattle.std.proofs.Common.{◌≡◌, ◌∙◌, sym, ℕ, ◌+◌, Bool, true, false, cond, ◌||◌, if◌then◌else◌, List, [], ◌∷◌, ◌++◌, map, filter, ap, refl, append_assoc, append-nil, arith, codes, Result, Ok, Err, OnOk, is_ok}
use Rattle.std.specs.Fmt.{decimal}
use Rattle.std.specs.List.{range_with_len}
use Rattle.std.proofs.lemmas.List.FromFn.{filter_of_map_range_with_len_more}
use Rattle.shm_debug.specs.Page.{copies_text, listed, or_dash}

-- those of the sites below n
pub below : (ℕ → Bool) → ℕ → List ℕ
below copies n = filter copies (map (λ s. s) (range_with_len 0 n))

pub has_some : List ℕ → Bool
has_some [] = false
has_some (_ ∷ _) = true

below-more : (copies : ℕ → Bool) (n : ℕ) → below copies (n + 1) ≡ below copies n ++ cond (copies n) (n ∷ []) []
unfolding below
below-more copies n = filter_of_map_range_with_len_more copies (λ s. s) 0 n n (omega arith)

-- one more, behind a comma where some are listed before
abbrev one_more : Bool → ℕ → List ℕ
one_more some n = if some then 44 ∷ decimal n else decimal n

listed-one_more : (xs : List ℕ) (n : ℕ) → listed (xs ++ n ∷ []) ≡ listed xs ++ one_more (has_some xs) n
unfolding has_some
listed-one_more [] n = refl
listed-one_more (x ∷ []) n = refl
listed-one_more (x ∷ y ∷ xs) n =
    ap (λ t. decimal x ++ (44 ∷ t)) (listed-one_more (y ∷ xs) n)
    ∙ sym (append_assoc (decimal x) (44 ∷ listed (y ∷ xs)) (44 ∷ decimal n))

has_some-one_more : (xs : List ℕ) (n : ℕ) → has_some (xs ++ n ∷ []) ≡ true
unfolding has_some
has_some-one_more [] n = refl
has_some-one_more (x ∷ xs) n = refl

-- what the loop has told before the site n
pub record ListedBelow (copies : ℕ → Bool) (n : ℕ) (old new : List ℕ) (some : Bool) : Type 0 where
  pub text : new ≡ old ++ listed (below copies n)
  pub any : some ≡ has_some (below copies n)

pub listed_none : (copies : ℕ → Bool) (old : List ℕ) → ListedBelow copies 0 old old false
unfolding below has_some
listed_none copies old = record { text = sym (append-nil old); any = refl }

listed-cond : (xs : List ℕ) (n : ℕ) (here : Bool) → listed (xs ++ cond here (n ∷ []) []) ≡ listed xs ++ (if here then one_more (has_some xs) n else [])
listed-cond xs n true = listed-one_more xs n
listed-cond xs n false = ap listed (append-nil xs) ∙ sym (append-nil (listed xs))

has_some-cond : (xs : List ℕ) (n : ℕ) (here : Bool) → has_some (xs ++ cond here (n ∷ []) []) ≡ (has_some xs || here)
unfolding has_some
has_some-cond [] n true = refl
has_some-cond [] n false = refl
has_some-cond (x ∷ xs) n here = refl

pub listed_more : (copies : ℕ → Bool) (n : ℕ) (old now new : List ℕ) (some more here : Bool) → ListedBelow copies n old now some → here ≡ copies n
    → new ≡ now ++ (if here then (if some then 44 ∷ decimal n else decimal n) else []) → more ≡ (some || here) → ListedBelow copies (n + 1) old new more
listed_more copies n old now new some more here had is e m = record {
  text = e ∙ ap (λ t. now ++ (if t then one_more some n else [])) is
      ∙ ap (λ t. now ++ (if copies n then one_more t n else [])) had.any
      ∙ ap (λ t. t ++ (if copies n then one_more (has_some (below copies n)) n else [])) had.text
      ∙ append_assoc old (listed (below copies n)) (if copies n then one_more (has_some (below copies n)) n else [])
      ∙ ap (λ t. old ++ t) (sym (listed-cond (below copies n) n (copies n)))
      ∙ ap (λ t. old ++ listed t) (sym (below-more copies n));
  any = m ∙ ap (λ t. t || here) had.any ∙ ap (λ t. has_some (below copies n) || t) is ∙ sym (has_some-cond (below copies n) n (copies n)) ∙ ap has_some (sym (below-more copies n));
}

or_dash-some : (xs : List ℕ) → has_some xs ≡ true → or_dash xs ≡ listed xs
unfolding has_some
or_dash-some [] h = cc
or_dash-some (x ∷ xs) h = refl

or_dash-none : (xs : List ℕ) → has_some xs ≡ false → listed xs ++ codes "-" ≡ or_dash xs
unfolding has_some
or_dash-none [] h = refl
or_dash-none (x ∷ xs) h = cc

copies-all : (copies : ℕ → Bool) → or_dash (below copies 16) ≡ copies_text copies
unfolding below
copies-all copies = refl

pub listed_all : (copies : ℕ → Bool) (n : ℕ) (old now : List ℕ) (some : Bool) → n ≡ 16 → ListedBelow copies n old now some → some ≡ true → now ≡ old ++ copies_text copies
listed_all copies n old now some e had h =
    had.text
    ∙ ap (λ t. old ++ t) (sym (or_dash-some (below copies n) (sym had.any ∙ h)))
    ∙ ap (λ m. old ++ or_dash (below copies m)) e ∙ ap (λ t. old ++ t) (copies-all copies)

dashed : (copies : ℕ → Bool) (n : ℕ) (old now : List ℕ) (some : Bool) → n ≡ 16 → ListedBelow copies n old now some → some ≡ false → now ++ codes "-" ≡ old ++ copies_text copies
dashed copies n old now some e had h =
    ap (λ t. t ++ codes "-") had.text ∙ append_assoc old (listed (below copies n)) (codes "-")
    ∙ ap (λ t. old ++ t) (or_dash-none (below copies n) (sym had.any ∙ h))
    ∙ ap (λ m. old ++ or_dash (below copies m)) e ∙ ap (λ t. old ++ t) (copies-all copies)

pub dashed_all : {X Y : Type 0} (copies : ℕ → Bool) (n : ℕ) (old now new : List ℕ) (some : Bool) (r : Result X Y) → n ≡ 16 → ListedBelow copies n old now some → some ≡ false
    → new ≡ (if is_ok r then now ++ codes "-" else now) → OnOk r (new ≡ old ++ copies_text copies)
dashed_all copies n old now new some (Ok x) e had h is = is ∙ dashed copies n old now some e had h
dashed_all copies n old now new some (Err y) e had h is = tt
