-- One more place of two lists.
use Rattle.std.proofs.Common.{◌≡◌, ◌<◌, ℕ, ◌+◌, List, [], ◌∷◌, ◌++◌, get_or, length, take, suc, sym, subst, arith}
use Rattle.std.specs.List.{AllZip}
use Rattle.std.proofs.Math.Seq.{take-suc}
use Rattle.std.proofs.lemmas.Slice.Zip.{all_zipped_more}

pub zipped_more : {A B : Type 0} (R : A → B → Type 0) (xs : List A) (ys zs : List B) (i : ℕ) (d : A) (y : B) → i < length xs → zs ≡ ys ++ y ∷ [] → AllZip R (take i xs) ys
    → R (get_or xs i d) y → AllZip R (take (i + 1) xs) zs
zipped_more R xs ys zs i d y below e h r =
    let n : i + 1 ≡ suc i = omega arith in
    let more = all_zipped_more R (take i xs) ys (get_or xs i d) y h r in
    let grown = subst (λ front. AllZip R front (ys ++ y ∷ [])) (sym (take-suc xs i d below)) more in
    subst (λ all. AllZip R (take (i + 1) xs) all) (sym e) (subst (λ k. AllZip R (take k xs) (ys ++ y ∷ [])) (sym n) grown)
