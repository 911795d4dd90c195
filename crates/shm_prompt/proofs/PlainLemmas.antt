-- What is told byte by byte, each of them plain.
use Rattle.std.proofs.Common.{◌≡◌, ◌∙◌, ℕ, ◌&&◌, Bool, true, false, List, [], ◌∷◌, ◌++◌, refl, sym, ap, ap₂, append_assoc, append-nil}
use Rattle.std.specs.List.{list_all}
use Rattle.shm_prompt.specs.Hints.{TellsPlain, is_plain}

both-left : (a b : Bool) → (a && b) ≡ true → a ≡ true
both-left true b h = refl
both-left false b h = absurd (cc)

both-right : (a b : Bool) → (a && b) ≡ true → b ≡ true
both-right true b h = h
both-right false b h = absurd (cc)

plain-more : (bytes : List ℕ) (byte : ℕ) → list_all is_plain bytes ≡ true → is_plain byte ≡ true → list_all is_plain (bytes ++ byte ∷ []) ≡ true
plain-more [] byte all one = ap (λ b. b && true) one
plain-more (x ∷ bytes) byte all one =
    ap₂ (λ a b. a && b) (both-left (is_plain x) (list_all is_plain bytes) all) (plain-more bytes byte (both-right (is_plain x) (list_all is_plain bytes) all) one)

pub tells_none : (text : List ℕ) → TellsPlain text text
tells_none text = ([], sym (append-nil text), refl)

pub tells_more : (text now new : List ℕ) (byte : ℕ) → TellsPlain text now → new ≡ now ++ byte ∷ [] → is_plain byte ≡ true → TellsPlain text new
tells_more text now new byte (more, told, all) grows one =
    (more ++ byte ∷ [], grows ∙ ap (λ t. t ++ byte ∷ []) told ∙ append_assoc text more (byte ∷ []), plain-more more byte all one)
