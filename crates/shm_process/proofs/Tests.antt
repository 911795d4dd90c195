-- What tests of two cases say.
use Rattle.std.proofs.Common.{◌≡◌, ℕ, ◌<◌, Bool, true, false, Option, None, Some, cond, nat_lt, refl, arith}
use Rattle.std.proofs.lemmas.Bool.Decides.{nat_tests}

pub some_is : {A : Type 0} (a b : A) → Some a ≡ Some b → a ≡ b
some_is a b h = cc

pub below : (a b : ℕ) → nat_lt a b ≡ true → a < b
below a b h = grind (arith, nat_tests)

pub less_is : (n count : ℕ) → n < count → nat_lt n count ≡ true
less_is n count h = grind (arith, nat_tests)

-- something is there only if nothing was in its way
pub unless-some : {A : Type 0} (late : Bool) (o : Option A) (x : A) → cond late None o ≡ Some x → (late ≡ false) × (o ≡ Some x)
unless-some true o x e = absurd (cc)
unless-some false o x e = (refl, e)
