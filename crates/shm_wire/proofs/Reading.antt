-- Lines that begin with one verb.
use Rattle.std.proofs.Common.{◌≡◌, ℕ, Bool, true, false, List, [], ◌∷◌, Option, None, Some, cond, refl, ap}
use Rattle.std.specs.Str.{bytes_eq}
use Rattle.std.proofs.lemmas.Slice.Eq.{bytes_eq-Decides}
use Rattle.shm_lines.specs.Words.{◌>>=◌, next_word, by_verb, nothing}
pub use Rattle.shm_lines.proofs.Reading.{Took, took, TookCred, took_cred, ended-is, cond-of, prints, prints_cred, unparted_cred, Spelled, Reads, SoundWords, Sound, SoundReader, nothing-is, by_verb-is, verb-is}

-- one verb, and what was read from the words after it
pub record TookVerb {A : Type 0} (verb : List ℕ) (says : List (List ℕ) → Option A) (words : List (List ℕ)) (x : A) : Type 0 where
  pub others : List (List ℕ)
  pub are : words ≡ verb ∷ others
  pub gives : says others ≡ Some x

-- the words of one verb alone
abbrev pub after_verb : {A : Type 0} → List ℕ → (List (List ℕ) → Option A) → List (List ℕ) → Option A
after_verb verb says words = next_word words >>= λ p. by_verb ((verb, says) ∷ []) nothing p.0 p.1

pub took_verb : {A : Type 0} (verb : List ℕ) (says : List (List ℕ) → Option A) (words : List (List ℕ)) (x : A) → after_verb verb says words ≡ Some x → TookVerb verb says words x
took_verb verb says [] x h = absurd (cc)
took_verb verb says (word ∷ words) x h = go (bytes_eq word verb) refl h
  where
    go : (b : Bool) → bytes_eq word verb ≡ b → cond b (says words) None ≡ Some x → TookVerb verb says (word ∷ words) x
    go true e g = record { others = words; are = ap (λ v. v ∷ words) ((bytes_eq-Decides word verb).0 e); gives = g }
    go false e g = absurd (cc)
