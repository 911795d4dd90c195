-- Which lines are read, by what a reader answers.
use Rattle.std.proofs.Common.{◌≡◌, true, Option, None, Some, refl, Ok, Err, arith}
use Rattle.std.specs.Prelude.{is_some, ok_or}

pub read-some : {A E : Type 0} (o : Option A) (e : E) (x : A) → Ok x ≡ ok_or o e → is_some o ≡ true
read-some None e x h = absurd (first_of (cc, grind arith))
read-some (Some y) e x h = refl

pub read-none : {A E : Type 0} (o : Option A) (e d : E) → Err d ≡ ok_or o e → o ≡ None
read-none None e d h = refl
read-none (Some y) e d h = absurd (first_of (cc, grind arith))
