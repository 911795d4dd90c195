-- Bytes that were taken of a file, and what that says of the whole.
use Rattle.std.proofs.Common.{◌≡◌, ℕ, List, [], ◌++◌, Some, None, refl, sym, ap, subst, ◌∙◌, append-nil}
use Rattle.std.specs.Prelude.{Option, IfSome}
use Rattle.std.specs.Io.KnownBytes.{Consumes, IsAtEnd}

-- what holds of these bytes, whatever follows, holds of the whole
pub of_front : (a b : Option (List ℕ)) (bytes : List ℕ) (P : List ℕ → Type 0) → Consumes a b bytes → ((more : List ℕ) → P (bytes ++ more)) → IfSome a P
of_front None b bytes P taken h = tt
of_front (Some xs) None bytes P taken h = absurd taken
of_front (Some xs) (Some ys) bytes P taken h = subst P (sym taken) (h ys)

-- what holds of these bytes holds of the whole, where nothing is left
pub of_all : (a b : Option (List ℕ)) (bytes : List ℕ) (P : List ℕ → Type 0) → Consumes a b bytes → IsAtEnd b → P bytes → IfSome a P
of_all None b bytes P taken end h = tt
of_all (Some xs) None bytes P taken end h = absurd taken
of_all (Some xs) (Some ys) bytes P taken end h = subst P (sym (taken ∙ ap (λ l. bytes ++ l) end ∙ append-nil bytes)) h

-- what holds of all that is left holds of the whole, by what was taken
pub of_left : (a b : Option (List ℕ)) (bytes : List ℕ) (P Q : List ℕ → Type 0) → Consumes a b bytes → ((more : List ℕ) → Q more → P (bytes ++ more)) → IfSome b Q
    → IfSome a P
of_left None b bytes P Q taken h q = tt
of_left (Some xs) None bytes P Q taken h q = absurd taken
of_left (Some xs) (Some ys) bytes P Q taken h q = subst P (sym taken) (h ys q)

-- a file that is the one that is read, if that is known
abbrev pub IsFile : Option (List ℕ) → List ℕ → Type 0
IsFile a file = IfSome a (λ known. file ≡ known)

pub any_file : (a : Option (List ℕ)) → (file : List ℕ) × IsFile a file
any_file None = ([], tt)
any_file (Some xs) = (xs, refl)

-- these bytes, and what follows them
pub whole_of : (a b : Option (List ℕ)) (bytes : List ℕ) → Consumes a b bytes → (more : List ℕ) × IsFile a (bytes ++ more)
whole_of None b bytes taken = ([], tt)
whole_of (Some xs) None bytes taken = absurd taken
whole_of (Some xs) (Some ys) bytes taken = (ys, sym taken)
