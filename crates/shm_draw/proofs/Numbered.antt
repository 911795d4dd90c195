-- Ways in a row.
use Rattle.std.proofs.Common.{◌≡◌, ◌∙◌, ℕ, zero, suc, ◌+◌, ◌-◌, ◌≤◌, replicate, List, [], ◌∷◌, ◌++◌, ap, sym, append_assoc, append-nil, arith}
use Rattle.std.proofs.lemmas.List.{replicate_more}
use Rattle.std.specs.List.{flat_map, range_with_len}
use Rattle.shm_draw.specs.declared.mark_kinds.Way.{Way}
use Rattle.shm_draw.specs.Svg.{flying_text}

pub range-more : {X : Type 0} (f : ℕ → List X) (a n : ℕ) → flat_map f (range_with_len a (suc n)) ≡ flat_map f (range_with_len a n) ++ f (a + n)
range-more f a zero = let e : a ≡ a + 0 = omega arith in append-nil (f a) ∙ ap f e
range-more f a (suc n) =
    let e : (a + 1) + n ≡ a + suc n = omega arith in
    ap (λ t. f a ++ t) (range-more f (a + 1) n ∙ ap (λ m. flat_map f (range_with_len (a + 1) n) ++ f m) e)
    ∙ sym (append_assoc (f a) (flat_map f (range_with_len (a + 1) n)) (f (a + suc n)))

-- one more number
pub numbered_more : {X : Type 0} (f : ℕ → List X) (n : ℕ) (had now : List X) (x : List X) → had ≡ flat_map f (range_with_len 0 n) → x ≡ f n → now ≡ had ++ x
    → now ≡ flat_map f (range_with_len 0 (n + 1))
numbered_more f n had now x e same more =
    let z : n ≡ 0 + n = omega arith in
    let s : suc n ≡ n + 1 = omega arith in
    more ∙ ap (λ t. t ++ x) e ∙ ap (λ t. flat_map f (range_with_len 0 n) ++ t) (same ∙ ap f z)
    ∙ sym (range-more f 0 n) ∙ ap (λ m. flat_map f (range_with_len 0 m)) s

-- one more of the same
pub replicated_more : (old now new : List ℕ) (x a k : ℕ) → a ≤ k → now ≡ old ++ replicate (k - a) x → new ≡ now ++ x ∷ [] → new ≡ old ++ replicate (k + 1 - a) x
replicated_more old now new x a k low had more =
    let n : k - a + 1 ≡ k + 1 - a = omega arith in
    more ∙ ap (λ t. t ++ x ∷ []) had ∙ append_assoc old (replicate (k - a) x) (x ∷ [])
    ∙ ap (λ t. old ++ t) (replicate_more (k - a) x ∙ ap (λ m. replicate m x) n)

-- one more way below the last event
pub flying_more : (row : Way → ℕ → List ℕ) (last index place : ℕ) (old now new : List ℕ) (ways rest : List Way) (way : Way) (whole : List ℕ)
    → place ≡ last + (index + 1) → new ≡ now ++ row way place
    → now ++ flying_text row last (index + 1) ways ≡ old ++ whole → ways ≡ way ∷ rest → new ++ flying_text row last (index + 1 + 1) rest ≡ old ++ whole
flying_more row last index place old now new ways rest way whole at more had is =
    ap (λ t. t ++ flying_text row last (index + 1 + 1) rest) (more ∙ ap (λ n. now ++ row way n) at)
    ∙ append_assoc now (row way (last + (index + 1))) (flying_text row last (index + 1 + 1) rest)
    ∙ ap (λ ws. now ++ flying_text row last (index + 1) ws) (sym is) ∙ had
