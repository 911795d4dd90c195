-- The stores of what is given up leave the machine's bytes.
use Rattle.std.proofs.Common.{◌≡◌, ℕ, ◌+◌, ◌<◌, Bool, true, false, ◌==◌, List, [], ◌∷◌, ◌++◌, length, refl, sym, ap, ◌∙◌, subst, arith, if◌then◌else◌, slice_set, slice_index}
use Rattle.std.proofs.lemmas.Bool.Decides.{nat_tests}
use Rattle.std.proofs.lemmas.List.{append_assoc, length-append}
use Rattle.shm_place.specs.Limits.{page_bytes}
use Rattle.shm_laws.proofs.Page.Orders.{Each}
use Rattle.shm_mapping.specs.Hosts.{changed, differing}

-- the bytes after stores of these
abbrev pub put_all : List ℕ → List ℕ → List ℕ → List ℕ
put_all [] memory b = b
put_all (i ∷ is) memory b = put_all is memory (slice_set b i (slice_index memory i))

-- at the end of a front
index-after : (p : List ℕ) (y : ℕ) (ys : List ℕ) → slice_index (p ++ (y ∷ ys)) (length p) ≡ y
index-after [] y ys = refl
index-after (z ∷ zs) y ys = index-after zs y ys

set-after : (p : List ℕ) (x y : ℕ) (xs : List ℕ) → slice_set (p ++ (x ∷ xs)) (length p) y ≡ p ++ (y ∷ xs)
set-after [] x y xs = refl
set-after (z ∷ zs) x y xs = ap (λ ws. z ∷ ws) (set-after zs x y xs)

longer : (p : List ℕ) (y i : ℕ) → length p ≡ i → length (p ++ (y ∷ [])) ≡ i + 1
longer p y i e = length-append p (y ∷ []) ∙ omega (arith, e)

-- from here on what differs is put, and the machine's bytes stand before
put-if : (p q xs ys : List ℕ) (x y i : ℕ) (same : Bool) → (x == y) ≡ same → length p ≡ i → length q ≡ i
    → ((r s : List ℕ) → length r ≡ i + 1 → length s ≡ i + 1 → put_all (differing (i + 1) xs ys) (s ++ ys) (r ++ xs) ≡ r ++ ys)
    → put_all (if same then differing (i + 1) xs ys else i ∷ differing (i + 1) xs ys) (q ++ (y ∷ ys)) (p ++ (x ∷ xs)) ≡ p ++ (y ∷ ys)
put-if p q xs ys x y i true is lp lq more =
    let e : x ≡ y = grind (arith, nat_tests) in
    ap (λ m. put_all (differing (i + 1) xs ys) m (p ++ (x ∷ xs))) (sym (append_assoc q (y ∷ []) ys))
    ∙ (ap (λ b. put_all (differing (i + 1) xs ys) ((q ++ (y ∷ [])) ++ ys) b) (ap (λ z. p ++ (z ∷ xs)) e ∙ sym (append_assoc p (y ∷ []) xs))
    ∙ (more (p ++ (y ∷ [])) (q ++ (y ∷ [])) (longer p y i lp) (longer q y i lq) ∙ append_assoc p (y ∷ []) ys))
put-if p q xs ys x y i false is lp lq more =
    let byte : slice_index (q ++ (y ∷ ys)) i ≡ y = subst (λ k. slice_index (q ++ (y ∷ ys)) k ≡ y) lq (index-after q y ys) in
    let put : slice_set (p ++ (x ∷ xs)) i y ≡ p ++ (y ∷ xs) = subst (λ k. slice_set (p ++ (x ∷ xs)) k y ≡ p ++ (y ∷ xs)) lp (set-after p x y xs) in
    ap (λ z. put_all (differing (i + 1) xs ys) (q ++ (y ∷ ys)) (slice_set (p ++ (x ∷ xs)) i z)) byte
    ∙ (ap (λ b. put_all (differing (i + 1) xs ys) (q ++ (y ∷ ys)) b) (put ∙ sym (append_assoc p (y ∷ []) xs))
    ∙ (ap (λ m. put_all (differing (i + 1) xs ys) m ((p ++ (y ∷ [])) ++ xs)) (sym (append_assoc q (y ∷ []) ys))
    ∙ (more (p ++ (y ∷ [])) (q ++ (y ∷ [])) (longer p y i lp) (longer q y i lq) ∙ append_assoc p (y ∷ []) ys)))

put-from : (xs ys p q : List ℕ) (i : ℕ) → length xs ≡ length ys → length p ≡ i → length q ≡ i → put_all (differing i xs ys) (q ++ ys) (p ++ xs) ≡ p ++ ys
put-from [] [] p q i long lp lq = refl
put-from [] (y ∷ ys) p q i long lp lq = absurd (omega arith)
put-from (x ∷ xs) [] p q i long lp lq = absurd (omega arith)
put-from (x ∷ xs) (y ∷ ys) p q i long lp lq =
    put-if p q xs ys x y i (x == y) refl lp lq (λ r s lr ls. put-from xs ys r s (i + 1) (omega arith) lr ls)

pub put-changed : (old memory : List ℕ) → length old ≡ page_bytes → length memory ≡ page_bytes → put_all (changed old memory) memory old ≡ memory
put-changed old memory long same = put-from old memory [] [] 0 (long ∙ sym same) refl refl

-- each is a place of the page
below-if : (i n : ℕ) (is : List ℕ) (same : Bool) → i < n → Each (λ k. k < n) is → Each (λ k. k < n) (if same then is else i ∷ is)
below-if i n is true l e = e
below-if i n is false l e = (l, e)

below-from : (xs ys : List ℕ) (i n : ℕ) → i + length xs ≡ n → Each (λ k. k < n) (differing i xs ys)
below-from [] ys i n e = tt
below-from (x ∷ xs) [] i n e = tt
below-from (x ∷ xs) (y ∷ ys) i n e = below-if i n (differing (i + 1) xs ys) (x == y) (omega arith) (below-from xs ys (i + 1) n (omega arith))

pub changed-below : (old memory : List ℕ) → length old ≡ page_bytes → Each (λ i. i < page_bytes) (changed old memory)
changed-below old memory long = below-from old memory 0 page_bytes (omega (arith, long))
