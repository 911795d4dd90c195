-- One run more in a spread.
use Rattle.std.proofs.Common.{◌≡◌, ℕ, ◌+◌, ◌<◌, ◌≤◌, zero, suc, Bool, true, false, List, [], ◌∷◌, ◌++◌, refl, sym, ap, ◌∙◌, arith, length, get_or, set, get_or-set_other, get_or-set_same}
use Rattle.std.specs.Prelude.{count_by, ◌==◌, nat_lt, if◌then◌else◌}
use Rattle.std.proofs.lemmas.Bool.Decides.{nat_tests}
use Rattle.std.proofs.lemmas.List.Sums.{count_by-le-length}
use Rattle.shm_simulate.specs.Lines.{counted}
use Rattle.shm_simulate.specs.Spreads.{IsSpread, ranked}
use Rattle.shm_simulate.proofs.ListLemmas.{count-yes, count-no}

-- a 0 behind a list of numbers changes none of them
pub get-zero : (xs : List ℕ) (i : ℕ) → get_or (xs ++ 0 ∷ []) i 0 ≡ get_or xs i 0
get-zero [] zero = refl
get-zero [] (suc i) = refl
get-zero (x ∷ xs) zero = refl
get-zero (x ∷ xs) (suc i) = get-zero xs i

pub counted-below : (n : ℕ) → n < 4294967295 → counted n ≡ n + 1
counted-below n h = grind (arith, nat_tests)

at-value : (counts values : List ℕ) (value v : ℕ) (b : Bool) → (v == value) ≡ b → IsSpread counts values → value < length counts → length values < 4294967295
    → get_or (set counts value (counted (get_or counts value 0))) v 0 ≡ count_by (λ x. x == v) (values ++ value ∷ [])
at-value counts values value v true same spread inside few =
    let e : v ≡ value = grind (arith, nat_tests) in
    let is : (value == v) ≡ true = grind (arith, nat_tests) in
    let below : get_or counts value 0 < 4294967295 = omega (arith, spread value, count_by-le-length (λ x. x == value) values) in
    ap (λ i. get_or (set counts value (counted (get_or counts value 0))) i 0) e ∙ (get_or-set_same counts value (counted (get_or counts value 0)) 0 inside
    ∙ (counted-below (get_or counts value 0) below ∙ (ap (λ n. n + 1) (ap (λ i. get_or counts i 0) (sym e) ∙ spread v) ∙ sym (count-yes (λ x. x == v) values value is))))
at-value counts values value v false other spread inside few =
    let ne : v ≡ value → ⊥ = grind (arith, nat_tests) in
    let no : (value == v) ≡ false = grind (arith, nat_tests) in
    get_or-set_other counts value v (counted (get_or counts value 0)) 0 ne ∙ (spread v ∙ sym (count-no (λ x. x == v) values value no))

-- one run more has this value
pub spread-more : (counts values : List ℕ) (value : ℕ) → IsSpread counts values → value < length counts → length values < 4294967295
    → IsSpread (set counts value (counted (get_or counts value 0))) (values ++ value ∷ [])
spread-more counts values value spread inside few = λ v. at-value counts values value v (v == value) refl spread inside few
