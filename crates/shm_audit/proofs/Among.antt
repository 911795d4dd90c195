-- Steps that stand among others, and the loads of one more byte.
use Rattle.std.proofs.Common.{◌≡◌, inl, inr, ℕ, suc, ◌+◌, List, [], ◌∷◌, ◌++◌, length, refl, ap, ◌∙◌, arith}
use Rattle.shm_model.specs.declared.answer.Answer.TheVariants.{Byte}
use Rattle.shm_model.specs.declared.asked_access.Asked.TheVariants.{Load}
use Rattle.shm_wire.specs.Line as stream
use Rattle.shm_process.specs.Access.{access_ask}
use Rattle.shm_process.specs.Cause.{OfLine}
use Rattle.shm_audit.specs.Loads.{Among, Made, loads}

pub among-more : (xs steps more : List Made) → Among xs steps → Among xs (steps ++ more)
among-more [] steps more h = tt
among-more (x ∷ xs) [] more h = absurd h
among-more (x ∷ xs) (step ∷ steps) more (inl h) = inl (h.0, among-more xs steps more h.1)
among-more (x ∷ xs) (step ∷ steps) more (inr h) = inr (among-more (x ∷ xs) steps more h)

pub among-push : (xs steps : List Made) (step : Made) → Among xs steps → Among (xs ++ step ∷ []) (steps ++ step ∷ [])
among-push [] [] step h = inl (refl, tt)
among-push [] (s ∷ steps) step h = inr (among-push [] steps step tt)
among-push (x ∷ xs) [] step h = absurd h
among-push (x ∷ xs) (s ∷ steps) step (inl h) = inl (h.0, among-push xs steps step h.1)
among-push (x ∷ xs) (s ∷ steps) step (inr h) = inr (among-push (x ∷ xs) steps step h)

abbrev pub load_made : ℕ → List ℕ → ℕ → ℕ → ℕ → Made
load_made me tag at offset byte = record { cause = OfLine (stream.Ask (access_ask me tag (Load at offset))); answer = Byte byte }

pub loads-push : (me : ℕ) (tag : List ℕ) (at offset : ℕ) (bytes : List ℕ) (byte : ℕ)
    → loads me tag at offset (bytes ++ byte ∷ []) ≡ loads me tag at offset bytes ++ load_made me tag at (offset + length bytes) byte ∷ []
loads-push me tag at offset [] byte =
    let same : offset ≡ offset + 0 = omega arith in ap (λ o. load_made me tag at o byte ∷ []) same
loads-push me tag at offset (b ∷ bytes) byte =
    let same : (offset + 1) + length bytes ≡ offset + suc (length bytes) = omega arith in
    ap (λ l. load_made me tag at offset b ∷ l)
    (loads-push me tag at (offset + 1) bytes byte ∙ ap (λ o. loads me tag at (offset + 1) bytes ++ load_made me tag at o byte ∷ []) same)
