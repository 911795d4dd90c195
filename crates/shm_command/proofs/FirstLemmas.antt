-- A file that is read up to a bound, and is no front of the first batch if it has more.
use Rattle.std.proofs.Common.{◌≡◌, ◌<◌, ◌↔◌, IsTrue, ℕ, Bool, List, ◌++◌, [], Option, None, Some, IfSome, option_map, length, min, take, subst, sym, ◌∙◌, ap, arith}
use Rattle.std.proofs.lemmas.List.{length-take, take_all}
use Rattle.shm_command.specs.First.{IsLeftOf}

short : (n : ℕ) → min 4096 n < 4096 → n < 4096
short n h = grind (arith)

read_short : (bytes file : List ℕ) → bytes ≡ take 4096 file → length bytes < 4096 → take 4096 file ≡ file
read_short bytes file e h =
    let l : min 4096 (length file) < 4096 = subst (λ (n : ℕ). n < 4096) (ap length e ∙ length-take 4096 file) h in
    take_all 4096 file (omega (arith, short (length file) l))

of_file : (batch bytes file : List ℕ) → bytes ≡ take 4096 file → IsLeftOf batch bytes → IsLeftOf batch file
of_file batch bytes file e l = subst (IsLeftOf batch) (e ∙ read_short bytes file e l.short) l

of_bytes : (batch bytes file : List ℕ) → bytes ≡ take 4096 file → IsLeftOf batch file → IsLeftOf batch bytes
of_bytes batch bytes file e l = subst (IsLeftOf batch) (sym (e ∙ take_all 4096 file (omega (arith, l.short)))) l

of_read : (is : Bool) (batch bytes : List ℕ) (remaining : Option (List ℕ)) → IfSome (option_map (take 4096) remaining) (λ read. bytes ≡ [] ++ read)
    → (IsTrue is ↔ IsLeftOf batch bytes) → IfSome remaining (λ file. IsTrue is ↔ IsLeftOf batch file)
of_read is batch bytes None e h = tt
of_read is batch bytes (Some file) e h = (λ t. of_file batch bytes file e (h.0 t), λ l. h.1 (of_bytes batch bytes file e l))

-- so many bytes were read behind none
abbrev pub IsRead : ℕ → List ℕ → List ℕ → Option (List ℕ) → Type 0
IsRead most before bytes left = IfSome (option_map (take most) left) (λ read. bytes ≡ before ++ read)

pub left_of_file : (is : Bool) (batch own before bytes seen : List ℕ) (most : ℕ) (left remaining : Option (List ℕ)) → most ≡ 4096 → left ≡ remaining → before ≡ []
    → IsRead most before bytes left → own ≡ batch → seen ≡ bytes → (IsTrue is ↔ IsLeftOf own seen) → IfSome remaining (λ file. IsTrue is ↔ IsLeftOf batch file)
left_of_file is batch own before bytes seen most left remaining m l b e o s h =
    of_read is batch bytes remaining
    (subst (λ (n : ℕ). IsRead n [] bytes remaining) m (subst (λ (r : Option (List ℕ)). IsRead most [] bytes r) l (subst (λ (front : List ℕ). IsRead most front bytes left) b e)))
    (subst (λ (text : List ℕ). IsTrue is ↔ IsLeftOf batch text) s (subst (λ (text : List ℕ). IsTrue is ↔ IsLeftOf text seen) o h))
