-- A list with one value for each site, read as a function of the site: what a write changes, and where all values are one.
use Rattle.std.proofs.Common.{◌≡◌, ℕ, zero, suc, ◌<◌, List, length, get_or, set, replicate, if◌then◌else◌, ◌==◌, refl, arith}
use Rattle.std.proofs.Math.Path.{fun_ext}
use Rattle.std.proofs.lemmas.Bool.{cases_eq}
use Rattle.std.proofs.lemmas.Bool.Decides.{nat_tests}
use Rattle.std.proofs.lemmas.List.{get_or-set_same, get_or-set_other}

pub read_after_write : {X : Type 0} (xs : List X) (i : ℕ) (v d : X) → i < length xs → (j : ℕ) → get_or (set xs i v) j d ≡ (if i == j then v else get_or xs j d)
read_after_write xs i v d h j =
    grind (arith, nat_tests, get_or-set_same xs i v d h, get_or-set_other xs i j v d, cases_eq i j)

-- `was` and `site` are other names of the list and the index
pub written : {X : Type 0} (xs was : List X) (i site : ℕ) (v d : X) → xs ≡ was → i ≡ site → i < length xs → ◌≡◌ {A = ℕ → X} (λ j. get_or (set xs i v) j d) (λ j. if site == j then v else get_or was j d)
written xs was i site v d same here h =
    fun_ext (λ j. rw (← same, ← here) (read_after_write xs i v d h j))

pub read_of_all_one : {X : Type 0} (n : ℕ) (v : X) (j : ℕ) → get_or (replicate n v) j v ≡ v
read_of_all_one zero v j = refl
read_of_all_one (suc n) v zero = refl
read_of_all_one (suc n) v (suc j) = read_of_all_one n v j

pub all_one : {X : Type 0} (n : ℕ) (v : X) → ◌≡◌ {A = ℕ → X} (λ j. get_or (replicate n v) j v) (λ _. v)
all_one n v = fun_ext (read_of_all_one n v)
