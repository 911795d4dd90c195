-- Steps that gave something, tests, and words without blanks.
use Rattle.std.proofs.Common.{◌≡◌, ℕ, ◌==◌, ◌&&◌, Bool, true, false, not, List, [], ◌∷◌, All, Option, None, Some, cond, nat_lt, ◌<◌, refl, ap, ◌∙◌, arith}
use Rattle.std.specs.List.{join_with_byte}
use Rattle.std.proofs.lemmas.Bool.Decides.{nat_tests}
use Rattle.std.proofs.lemmas.List.Elements.{All-nil, All-cons}
use Rattle.std.proofs.lemmas.List.Splits.{slice_split_none, slice_split_at}
use Rattle.shm_lines.specs.Words.{◌>>=◌, words_of}

-- what a step that gave something was
pub record Step {A B : Type 0} (o : Option A) (f : A → Option B) (y : B) : Type 0 where
  pub value : A
  pub gave : o ≡ Some value
  pub gives : f value ≡ Some y

pub step : {A B : Type 0} (o : Option A) (f : A → Option B) (y : B) → (o >>= f) ≡ Some y → Step o f y
step None f y h = absurd (cc)
step (Some x) f y h = record { value = x; gave = refl; gives = h }

pub step-is : {A B : Type 0} (o : Option A) (f : A → Option B) (x : A) → o ≡ Some x → (o >>= f) ≡ f x
step-is o f x e = ap (λ p. p >>= f) e

pub some-is : {A : Type 0} (p q : A) → Some p ≡ Some q → p ≡ q
some-is p q e = cc

-- ---- tests

pub cond-some : {A : Type 0} (b : Bool) (made x : A) → cond b (Some made) None ≡ Some x → (b ≡ true) × (made ≡ x)
cond-some true made x h = (refl, cc)
cond-some false made x h = absurd (cc)

pub and-parts : (a b : Bool) → (a && b) ≡ true → (a ≡ true) × (b ≡ true)
and-parts true b h = (refl, h)
and-parts false b h = absurd (cc)

pub lt-true : (a b : ℕ) → nat_lt a b ≡ true → a < b
lt-true a b h = grind (arith, nat_tests)

pub lt-test : (a b : ℕ) → a < b → nat_lt a b ≡ true
lt-test a b h = grind (arith, nat_tests)

-- ---- words without blanks

abbrev pub NoBlank : List ℕ → Type 0
NoBlank word = All (λ byte. (byte == 32) ≡ false) word

abbrev pub has_none : List ℕ → Bool
has_none [] = true
has_none (x ∷ xs) = not (x == 32) && has_none xs

none-parts : (x : ℕ) (xs : List ℕ) → (not (x == 32) && has_none xs) ≡ true → ((x == 32) ≡ false) × (has_none xs ≡ true)
none-parts x xs h = go (x == 32) (has_none xs) h
  where
    go : (a b : Bool) → (not a && b) ≡ true → (a ≡ false) × (b ≡ true)
    go true b e = absurd (cc)
    go false b e = (refl, e)

pub NoBlank-test : (word : List ℕ) → has_none word ≡ true → NoBlank word
NoBlank-test [] h = All-nil (λ byte. (byte == 32) ≡ false)
NoBlank-test (x ∷ xs) h =
    let p = none-parts x xs h in
    All-cons (λ byte. (byte == 32) ≡ false) x xs p.0 (NoBlank-test xs p.1)

abbrev pub NoBlanks : List (List ℕ) → Type 0
NoBlanks [] = Unit {0}
NoBlanks (word ∷ words) = NoBlank word × NoBlanks words

pub words_of-join : (word : List ℕ) (words : List (List ℕ)) → NoBlank word → NoBlanks words → words_of (join_with_byte 32 (word ∷ words)) ≡ word ∷ words
words_of-join word [] h hs = slice_split_none (λ byte. byte == 32) word h
words_of-join word (next ∷ others) h hs =
    slice_split_at (λ byte. byte == 32) word 32 (join_with_byte 32 (next ∷ others)) h refl ∙ ap (λ l. word ∷ l) (words_of-join next others hs.0 hs.1)
