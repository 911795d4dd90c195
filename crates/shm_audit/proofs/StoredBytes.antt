-- The stores of one more byte.
use Rattle.std.proofs.Common.{◌≡◌, ℕ, zero, suc, ◌+◌, ◌<◌, List, [], ◌∷◌, ◌++◌, length, take, slice_index, ap, ◌∙◌, arith}
use Rattle.shm_model.specs.declared.answer.Answer.TheVariants.{Stored}
use Rattle.shm_model.specs.declared.asked_access.Asked.TheVariants.{Store}
use Rattle.shm_wire.specs.Line as stream
use Rattle.shm_process.specs.Access.{access_ask}
use Rattle.shm_process.specs.Cause.{OfLine}
use Rattle.shm_audit.specs.Loads.{Made}
use Rattle.shm_audit.specs.Stores.{stores}

abbrev pub store_made : ℕ → List ℕ → ℕ → ℕ → ℕ → Made
store_made me tag at offset byte = record { cause = OfLine (stream.Ask (access_ask me tag (Store at offset byte))); answer = Stored }

stores-suc : (me : ℕ) (tag : List ℕ) (at offset : ℕ) (bytes : List ℕ) (n : ℕ) → n < length bytes
    → stores me tag at offset (take (suc n) bytes) ≡ stores me tag at offset (take n bytes) ++ store_made me tag at (offset + n) (slice_index bytes n) ∷ []
stores-suc me tag at offset [] n h = absurd (omega (arith, h))
stores-suc me tag at offset (b ∷ bytes) zero h =
    let same : offset ≡ offset + 0 = omega arith in ap (λ o. store_made me tag at o b ∷ []) same
stores-suc me tag at offset (b ∷ bytes) (suc n) h =
    let same : (offset + 1) + n ≡ offset + suc n = omega arith in
    let inside : n < length bytes = omega (arith, h) in
    ap (λ l. store_made me tag at offset b ∷ l)
    (stores-suc me tag at (offset + 1) bytes n inside
    ∙ ap (λ o. stores me tag at (offset + 1) (take n bytes) ++ store_made me tag at o (slice_index bytes n) ∷ []) same)

pub stores-push : (me : ℕ) (tag : List ℕ) (at offset : ℕ) (bytes : List ℕ) (n : ℕ) → n < length bytes
    → stores me tag at offset (take (n + 1) bytes) ≡ stores me tag at offset (take n bytes) ++ store_made me tag at (offset + n) (slice_index bytes n) ∷ []
stores-push me tag at offset bytes n h =
    let same : n + 1 ≡ suc n = omega arith in
    ap (λ k. stores me tag at offset (take k bytes)) same ∙ stores-suc me tag at offset bytes n h
