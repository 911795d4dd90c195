-- Loops over lists, one more at a time: what is still to come makes the whole. The items may be seen otherwise than they stand.
use Rattle.std.proofs.Common.{◌≡◌, ℕ, ◌+◌, ◌<◌, ◌≤◌, Bool, true, false, ◌&&◌, ◌||◌, List, ◌++◌, length, map, drop, get_or, ap, sym, subst, ◌∙◌, append-nil}
use Rattle.std.specs.List.{All, flat_map, list_all, list_any}
use Rattle.std.proofs.lemmas.List.{append_assoc, drop_all, drop_more, length-map}
use Rattle.std.proofs.lemmas.List.Elements.{All-get_or}
use Rattle.shm_process.proofs.Asks.{map_read}

-- ---- a test of each

module _ {X : Type 0} (p : X → Bool) (xs : List X) where
  passes_on : (i : ℕ) (d : X) (whole : Bool) → i < length xs → p (get_or xs i d) ≡ true → list_all p (drop i xs) ≡ whole → list_all p (drop (i + 1) xs) ≡ whole
  passes_on i d whole h passes e = sym (ap (list_all p) (drop_more xs i d h) ∙ ap (λ b. b && list_all p (drop (i + 1) xs)) passes) ∙ e

  fails_here : (i : ℕ) (d : X) (whole : Bool) → i < length xs → p (get_or xs i d) ≡ false → list_all p (drop i xs) ≡ whole → false ≡ whole
  fails_here i d whole h fails e = sym (ap (list_all p) (drop_more xs i d h) ∙ ap (λ b. b && list_all p (drop (i + 1) xs)) fails) ∙ e

  passes_over : (i : ℕ) (whole : Bool) → length xs ≤ i → list_all p (drop i xs) ≡ whole → true ≡ whole
  passes_over i whole h e = sym (ap (list_all p) (drop_all i xs h)) ∙ e

-- ---- lists one after another

pub one_left : {X Y : Type 0} (f : X → List Y) (xs : List X) (i : ℕ) (d : X) (old new whole : List Y) → i < length xs → new ≡ old ++ f (get_or xs i d)
    → old ++ flat_map f (drop i xs) ≡ whole → new ++ flat_map f (drop (i + 1) xs) ≡ whole
one_left f xs i d old new whole h pushed e =
    ap (λ l. l ++ flat_map f (drop (i + 1) xs)) pushed
    ∙ append_assoc old (f (get_or xs i d)) (flat_map f (drop (i + 1) xs))
    ∙ sym (ap (λ l. old ++ flat_map f l) (drop_more xs i d h))
    ∙ e

pub none_left : {X Y : Type 0} (f : X → List Y) (xs : List X) (i : ℕ) (old whole : List Y) → length xs ≤ i → old ++ flat_map f (drop i xs) ≡ whole → old ≡ whole
none_left f xs i old whole h e = sym (append-nil old) ∙ sym (ap (λ l. old ++ flat_map f l) (drop_all i xs h)) ∙ e

module _ {Z X : Type 0} (s : Z → X) (zs : List Z) where
  -- an item, as it is seen
  pub seen-within : (i : ℕ) → i < length zs → i < length (map s zs)
  seen-within i h = subst (λ n. i < n) (sym (length-map zs s)) h

  pub seen-over : (i : ℕ) → length zs ≤ i → length (map s zs) ≤ i
  seen-over i h = subst (λ n. n ≤ i) (sym (length-map zs s)) h

  pub seen_all : (P : X → Type 0) (i : ℕ) (z : Z) → i < length zs → z ≡ get_or zs i z → All P (map s zs) → P (s z)
  seen_all P i z h is all = subst P (map_read s zs i z (s z) h is) (All-get_or P (map s zs) i (s z) (seen-within i h) all)

  pub seen_left : {Y : Type 0} (f : X → List Y) (i : ℕ) (z : Z) (old new whole : List Y) → i < length zs → z ≡ get_or zs i z → new ≡ old ++ f (s z)
      → old ++ flat_map f (drop i (map s zs)) ≡ whole → new ++ flat_map f (drop (i + 1) (map s zs)) ≡ whole
  seen_left f i z old new whole h is pushed e =
      one_left f (map s zs) i (s z) old new whole (seen-within i h) (pushed ∙ ap (λ x. old ++ f x) (sym (map_read s zs i z (s z) h is))) e

  pub seen_none : {Y : Type 0} (f : X → List Y) (i : ℕ) (old whole : List Y) → length zs ≤ i → old ++ flat_map f (drop i (map s zs)) ≡ whole → old ≡ whole
  seen_none f i old whole h e = none_left f (map s zs) i old whole (seen-over i h) e

-- of items as they are seen
module _ {Z X : Type 0} (s : Z → X) (p : X → Bool) (zs : List Z) where
  pub seen_passes : (i : ℕ) (z : Z) (whole : Bool) → i < length zs → z ≡ get_or zs i z → p (s z) ≡ true → list_all p (drop i (map s zs)) ≡ whole
      → list_all p (drop (i + 1) (map s zs)) ≡ whole
  seen_passes i z whole h is passes e = passes_on p (map s zs) i (s z) whole (seen-within s zs i h) (ap p (map_read s zs i z (s z) h is) ∙ passes) e

  pub seen_fails : (i : ℕ) (z : Z) (whole : Bool) → i < length zs → z ≡ get_or zs i z → p (s z) ≡ false → list_all p (drop i (map s zs)) ≡ whole → false ≡ whole
  seen_fails i z whole h is fails e = fails_here p (map s zs) i (s z) whole (seen-within s zs i h) (ap p (map_read s zs i z (s z) h is) ∙ fails) e

  pub seen_all_pass : (i : ℕ) (whole : Bool) → length zs ≤ i → list_all p (drop i (map s zs)) ≡ whole → true ≡ whole
  seen_all_pass i whole h e = passes_over p (map s zs) i whole (seen-over s zs i h) e

-- whether one of them passes
module _ {X : Type 0} (p : X → Bool) (xs : List X) where
  misses_on : (i : ℕ) (d : X) (whole : Bool) → i < length xs → p (get_or xs i d) ≡ false → list_any p (drop i xs) ≡ whole → list_any p (drop (i + 1) xs) ≡ whole
  misses_on i d whole h misses e = sym (ap (list_any p) (drop_more xs i d h) ∙ ap (λ b. b || list_any p (drop (i + 1) xs)) misses) ∙ e

  meets_here : (i : ℕ) (d : X) (whole : Bool) → i < length xs → p (get_or xs i d) ≡ true → list_any p (drop i xs) ≡ whole → true ≡ whole
  meets_here i d whole h meets e = sym (ap (list_any p) (drop_more xs i d h) ∙ ap (λ b. b || list_any p (drop (i + 1) xs)) meets) ∙ e

  misses_all : (i : ℕ) (whole : Bool) → length xs ≤ i → list_any p (drop i xs) ≡ whole → false ≡ whole
  misses_all i whole h e = sym (ap (list_any p) (drop_all i xs h)) ∙ e

module _ {Z X : Type 0} (s : Z → X) (p : X → Bool) (zs : List Z) where
  pub seen_misses : (i : ℕ) (z : Z) (whole : Bool) → i < length zs → z ≡ get_or zs i z → p (s z) ≡ false → list_any p (drop i (map s zs)) ≡ whole
      → list_any p (drop (i + 1) (map s zs)) ≡ whole
  seen_misses i z whole h is misses e = misses_on p (map s zs) i (s z) whole (seen-within s zs i h) (ap p (map_read s zs i z (s z) h is) ∙ misses) e

  pub seen_meets : (i : ℕ) (z : Z) (whole : Bool) → i < length zs → z ≡ get_or zs i z → p (s z) ≡ true → list_any p (drop i (map s zs)) ≡ whole → true ≡ whole
  seen_meets i z whole h is meets e = meets_here p (map s zs) i (s z) whole (seen-within s zs i h) (ap p (map_read s zs i z (s z) h is) ∙ meets) e

  pub seen_misses_all : (i : ℕ) (whole : Bool) → length zs ≤ i → list_any p (drop i (map s zs)) ≡ whole → false ≡ whole
  seen_misses_all i whole h e = misses_all p (map s zs) i whole (seen-over s zs i h) e
