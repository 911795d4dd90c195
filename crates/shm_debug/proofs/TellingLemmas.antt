-- Texts of numbers in a row, as a loop over the numbers tells them.
use Rattle.std.proofs.Common.{◌≡◌, ◌∙◌, sym, ℕ, zero, suc, ◌+◌, ◌-◌, ◌≤◌, List, ◌++◌, ap, append_assoc, append-nil, arith}
use Rattle.std.specs.List.{flat_map, range_with_len}

range-more : (f : ℕ → List ℕ) (a n : ℕ) → flat_map f (range_with_len a (suc n)) ≡ flat_map f (range_with_len a n) ++ f (a + n)
range-more f a zero = let e : a ≡ a + 0 = omega arith in append-nil (f a) ∙ ap f e
range-more f a (suc n) =
    let e : (a + 1) + n ≡ a + suc n = omega arith in
    ap (λ t. f a ++ t) (range-more f (a + 1) n ∙ ap (λ m. flat_map f (range_with_len (a + 1) n) ++ f m) e)
    ∙ sym (append_assoc (f a) (flat_map f (range_with_len (a + 1) n)) (f (a + suc n)))

-- what the loop has told before a number
pub record ToldUpTo (f : ℕ → List ℕ) (first number : ℕ) (old new : List ℕ) : Type 0 where
  pub text : new ≡ old ++ flat_map f (range_with_len first (number - first))

pub told_none : (f : ℕ → List ℕ) (first : ℕ) (old : List ℕ) → ToldUpTo f first first old old
told_none f first old =
    let e : 0 ≡ first - first = omega arith in
    record { text = sym (append-nil old) ∙ ap (λ n. old ++ flat_map f (range_with_len first n)) e }

pub told_more : (f : ℕ → List ℕ) (first number : ℕ) (old now new : List ℕ) → first ≤ number → ToldUpTo f first number old now → new ≡ now ++ f number → ToldUpTo f first (number + 1) old new
told_more f first number old now new low had e =
    let next : suc (number - first) ≡ (number + 1) - first = omega arith in
    let here : number ≡ first + (number - first) = omega arith in
    record {
      text = e ∙ ap (λ t. now ++ f t) here
          ∙ ap (λ t. t ++ f (first + (number - first))) had.text
          ∙ append_assoc old (flat_map f (range_with_len first (number - first))) (f (first + (number - first)))
          ∙ ap (λ t. old ++ t) (sym (range-more f first (number - first)))
          ∙ ap (λ n. old ++ flat_map f (range_with_len first n)) next;
    }

pub told_all : (f : ℕ → List ℕ) (first number count : ℕ) (old new : List ℕ) → number - first ≡ count → ToldUpTo f first number old new → new ≡ old ++ flat_map f (range_with_len first count)
told_all f first number count old new e had = had.text ∙ ap (λ n. old ++ flat_map f (range_with_len first n)) e
