-- Texts of the members of a list, told one after the other.
use Rattle.std.proofs.Common.{◌≡◌, ◌∙◌, ℕ, List, [], ◌∷◌, ◌++◌, sym, ap, append_assoc, append-nil}
use Rattle.std.specs.List.{flat_map}

-- one more member
pub told_next : {X : Type 0} (f : X → List ℕ) (x : X) (all rest : List X) (now new whole : List ℕ) → new ≡ now ++ f x → all ≡ x ∷ rest
    → now ++ flat_map f all ≡ whole → new ++ flat_map f rest ≡ whole
told_next f x all rest now new whole more is had =
    ap (λ t. t ++ flat_map f rest) more ∙ append_assoc now (f x) (flat_map f rest) ∙ ap (λ xs. now ++ flat_map f xs) (sym is) ∙ had

-- none is left
pub told_last : {X : Type 0} (f : X → List ℕ) (rest : List X) (new whole : List ℕ) → rest ≡ [] → new ++ flat_map f rest ≡ whole → new ≡ whole
told_last f rest new whole none had = sym (append-nil new) ∙ ap (λ xs. new ++ flat_map f xs) (sym none) ∙ had
