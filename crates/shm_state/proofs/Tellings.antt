-- How a state grows as it is told.
use Rattle.std.proofs.Common.{◌≡◌, ◌∙◌, ℕ, zero, suc, ◌+◌, ◌<◌, ◌≤◌, Bool, true, false, not, cond, List, [], ◌∷◌, ◌++◌, map, take, length, slice_get, Option, None, Some, if◌then◌else◌, refl, ap, sym, append_assoc, take_all, arith}
use Rattle.std.proofs.Math.Path.{fun_ext}
use Rattle.std.proofs.lemmas.Bool.{true≢false}
use Rattle.std.proofs.lemmas.Bool.Decides.{nat_tests}
use Rattle.std.proofs.lemmas.List.{map-append}
use Rattle.std.proofs.lemmas.Option.{get_or_from_slice_get, slice_get_read}
use Rattle.std.specs.Prelude.{◌==◌, ◌||◌, nat_lt, slice_index_or}
use Rattle.shm_place.specs.declared.page_id.PageId.{PageId}
use Rattle.shm_place.specs.Page.{same_page}
use Rattle.shm_model.specs.Basics.{at_page}
use Rattle.shm_model.specs.Entry.{Entry, Nil}
use Rattle.shm_parts.proofs.EntryLemmas.{page-same}
use Rattle.shm_parts.proofs.Held.{masked, masked_at}
use Rattle.shm_parts.proofs.ListedLemmas.{take-next}
use Rattle.shm_parts.specs.Listed.{filled}
use Rattle.shm_state.proofs.ToldSteps.{put-at}
use Rattle.shm_state.specs.Part.{Part}
use Rattle.shm_state.specs.PartOf.{part_in}
use Rattle.shm_state.specs.Telling.{alive, put_below, put_if, said_by}
use Rattle.shm_state.specs.Told.{state_told, state_with, told_all, told_nothing, told_with, Told}
use Rattle.shm_state.specs.declared.part.Part.{Part as CodePart}

-- ---- one part more

pub all-push : (parts : List Part) (part : Part) (told : Told) → told_all (parts ++ part ∷ []) told ≡ told_with part (told_all parts told)
unfolding told_all
all-push [] part told = refl
all-push (p ∷ ps) part told = all-push ps part (told_with p told)

pub said-push : {A : Type 0} (parts : List (CodePart A)) (part : CodePart A) → said_by (parts ++ part ∷ []) ≡ state_with (part_in part) (said_by parts)
said-push parts part =
    ap state_told (map-append part_in parts (part ∷ [])) ∙ ap (λ (t : Told). t.state) (all-push (map part_in parts) (part_in part) told_nothing)

-- ---- lists that grow at their end

pub grown : {X : Type 0} (s xs : List X) (i : ℕ) (x : X) → slice_get xs i ≡ Some x → (s ++ take i xs) ++ x ∷ [] ≡ s ++ take (i + 1) xs
grown s xs i x at = append_assoc s (take i xs) (x ∷ []) ∙ ap (λ l. s ++ l) (sym (take-next xs i x at))

pub grown_all : {X : Type 0} (s xs : List X) (n : ℕ) → length xs ≤ n → s ++ take n xs ≡ s ++ xs
grown_all s xs n few = ap (λ l. s ++ l) (take_all n xs few)

pub grown_map : {X Y : Type 0} (f : X → Y) (s : List Y) (xs : List X) (i : ℕ) (x : X) → slice_get xs i ≡ Some x
    → (s ++ map f (take i xs)) ++ f x ∷ [] ≡ s ++ map f (take (i + 1) xs)
grown_map f s xs i x at =
    append_assoc s (map f (take i xs)) (f x ∷ [])
    ∙ ap (λ l. s ++ l) (sym (map-append f (take i xs) (x ∷ [])) ∙ ap (map f) (sym (take-next xs i x at)))

-- ---- places that are told

-- what there is, or else this
abbrev first_of : {X : Type 0} → Option X → Option X → Option X
first_of None rest = rest
first_of (Some x) rest = Some x

put_if-at : {X : Type 0} (n : ℕ) (o : Option X) (xs : List (Option X)) (j : ℕ)
    → slice_index_or (put_if n o xs) j None ≡ (if n == j then first_of o (slice_index_or xs j None) else slice_index_or xs j None)
put_if-at n None xs j = same (n == j) (slice_index_or xs j None)
  where
    same : {Y : Type 0} (b : Bool) (y : Y) → y ≡ (if b then y else y)
    same true y = refl
    same false y = refl
put_if-at n (Some x) xs j = put-at n x xs j

one_more : (n : ℕ) → suc n ≡ n + 1
one_more n = omega arith

pub below-none : {X : Type 0} (xs places : List (Option X)) → put_below 0 xs places ≡ places
unfolding put_below
below-none xs places = refl

pub below-next : {X : Type 0} (n : ℕ) (xs places : List (Option X)) → put_if n (slice_index_or xs n None) (put_below n xs places) ≡ put_below (n + 1) xs places
unfolding put_below
below-next n xs places = ap (λ m. put_below m xs places) (one_more n)

small : (n m k : ℕ) → n < k → m ≡ k → n < m
small n m k h e = omega (arith, h, e)

-- what is read at a place that a list has
pub read-at : {X : Type 0} (xs : List (Option X)) (n k : ℕ) (o : Option X) → n < k → length xs ≡ k → o ≡ slice_index_or xs n o → o ≡ slice_index_or xs n None
read-at xs n k o h e is = sym (get_or_from_slice_get xs n o None (slice_get_read xs (length xs) n o refl (small n (length xs) k h e) is))

-- what stands at a place below this one, and nothing at others
abbrev Below : {X : Type 0} → ℕ → List (Option X) → ℕ → Option X
Below n xs j = if nat_lt j n then slice_index_or xs j None else None

stepped : {X : Type 0} (last below more : Bool) (o here : Option X) → (last ≡ true → o ≡ here) → (last ≡ true → below ≡ false)
    → more ≡ (last || below) → (if last then first_of o (if below then here else None) else (if below then here else None)) ≡ (if more then here else None)
stepped true true more o here is apart both = absurd (true≢false (apart refl))
stepped true false more None here is apart both = is refl ∙ first more here both
  where
    first : {Y : Type 0} (m : Bool) (y : Option Y) → m ≡ true → y ≡ (if m then y else None)
    first true y h = refl
    first false y h = absurd (true≢false (sym h))
stepped true false more (Some x) here is apart both = is refl ∙ first more here both
  where
    first : {Y : Type 0} (m : Bool) (y : Option Y) → m ≡ true → y ≡ (if m then y else None)
    first true y h = refl
    first false y h = absurd (true≢false (sym h))
stepped false below more o here is apart both = ap (λ m. if m then here else None) (sym both)

below-at : {X : Type 0} (n : ℕ) (xs : List (Option X)) (j : ℕ) → slice_index_or (put_below n xs []) j None ≡ Below n xs j
unfolding put_below
below-at zero xs j = ap (λ m. if m then slice_index_or xs j None else None) (sym (none j))
  where
    none : (j : ℕ) → nat_lt j 0 ≡ false
    none j = grind (arith, nat_tests)
below-at (suc n) xs j =
    put_if-at n (slice_index_or xs n None) (put_below n xs []) j
    ∙ ap (λ o. if n == j then first_of (slice_index_or xs n None) o else o) (below-at n xs j)
    ∙ stepped (n == j) (nat_lt j n) (nat_lt j (suc n)) (slice_index_or xs n None) (slice_index_or xs j None)
    (λ same. ap (λ k. slice_index_or xs k None) (place n j same)) (above n j) (more n j)
  where
    place : (n j : ℕ) → (n == j) ≡ true → n ≡ j
    place n j h = grind (arith, nat_tests)

    above : (n j : ℕ) → (n == j) ≡ true → nat_lt j n ≡ false
    above n j h = grind (arith, nat_tests)

    more : (n j : ℕ) → nat_lt j (suc n) ≡ ((n == j) || nat_lt j n)
    more n j = grind (arith, nat_tests)

itself : (n : ℕ) → nat_lt n n ≡ false
itself n = grind (arith, nat_tests)

-- nothing is told of a place before its turn
pub below-free : {X : Type 0} (n : ℕ) (xs : List (Option X)) → slice_index_or (put_below n xs []) n None ≡ None
below-free n xs = below-at n xs n ∙ ap (λ m. if m then slice_index_or xs n None else None) (itself n)

past : {X : Type 0} (xs : List (Option X)) (j : ℕ) → length xs ≤ j → slice_index_or xs j None ≡ None
past [] j h = refl
past (x ∷ xs) zero h = absurd (omega arith)
past (x ∷ xs) (suc j) h = past xs j (omega arith)

below-past : {X : Type 0} (xs : List (Option X)) (n j : ℕ) (b : Bool) → length xs ≡ n → nat_lt j n ≡ b
    → (if b then slice_index_or xs j None else None) ≡ slice_index_or xs j None
below-past xs n j true all h = refl
below-past xs n j false all h = sym (past xs j (far (length xs) n j all h))
  where
    far : (k n j : ℕ) → k ≡ n → nat_lt j n ≡ false → k ≤ j
    far k n j all h = grind (arith, nat_tests)

abbrev pub at_places : {X : Type 0} → List (Option X) → ℕ → Option X
at_places xs j = slice_index_or xs j None

-- all places are told
pub below_all : {X : Type 0} (xs : List (Option X)) (n : ℕ) → length xs ≡ n → at_places (put_below n xs []) ≡ at_places xs
below_all xs n all = fun_ext (λ j. below-at n xs j ∙ below-past xs n j (nat_lt j n) all refl)

-- ---- entries of purged segments

hidden : {Y : Type 0} (none one other : Y) (s b : Bool) → (s ≡ true → b ≡ true) → cond b none (cond s one other) ≡ cond b none other
hidden none one other true true h = refl
hidden none one other true false h = absurd (true≢false (sym (h refl)))
hidden none one other false b h = refl

over : (purged : ℕ → Bool) (g : PageId → Entry) (page : PageId) (new : Entry) → purged page.seg ≡ true → masked purged (at_page g page new) ≡ masked purged g
over purged g page new gone = fun_ext (λ q. hidden (Nil 0) new (g q) (same_page page q) (purged q.seg)
    (λ same. ap (λ (p : PageId). purged p.seg) (sym (page-same page q same)) ∙ gone))

swept_one : (purged : ℕ → Bool) (f g : PageId → Entry) (e : PageId × Entry) (es : List (PageId × Entry))
    → ((f g : PageId → Entry) → masked purged f ≡ masked purged g → masked purged (filled f (alive purged es)) ≡ masked purged (filled g es))
    → masked purged f ≡ masked purged g → (b : Bool) → purged e.0.seg ≡ b
    → masked purged (filled f (if not b then e ∷ alive purged es else alive purged es)) ≡ masked purged (filled (at_page g e.0 e.1) es)
swept_one purged f g e es rest same true gone = rest f (at_page g e.0 e.1) (same ∙ sym (over purged g e.0 e.1 gone))
swept_one purged f g e es rest same false stays =
    rest (at_page f e.0 e.1) (at_page g e.0 e.1)
    (masked_at purged f e.0 e.1 stays ∙ ap (λ (m : PageId → Entry). at_page m e.0 e.1) same ∙ sym (masked_at purged g e.0 e.1 stays))

left : (b : Bool) (e : PageId × Entry) → (if not b then e ∷ [] else []) ≡ (if b then [] else e ∷ [])
left true e = refl
left false e = refl

joined : (b : Bool) (e : PageId × Entry) (l m r : List (PageId × Entry)) → l ≡ m ++ r → (if not b then e ∷ l else l) ≡ (if not b then e ∷ m else m) ++ r
joined true e l m r h = h
joined false e l m r h = ap (λ (es : List (PageId × Entry)). e ∷ es) h

alive-push : (purged : ℕ → Bool) (es : List (PageId × Entry)) (e : PageId × Entry)
    → alive purged (es ++ e ∷ []) ≡ alive purged es ++ (if purged e.0.seg then [] else e ∷ [])
alive-push purged [] e = left (purged e.0.seg) e
alive-push purged (x ∷ xs) e =
    joined (purged x.0.seg) x (alive purged (xs ++ e ∷ [])) (alive purged xs) (if purged e.0.seg then [] else e ∷ []) (alive-push purged xs e)

pub grown_alive : (purged : ℕ → Bool) (s es : List (PageId × Entry)) (i : ℕ) (e : PageId × Entry) → slice_get es i ≡ Some e
    → (s ++ alive purged (take i es)) ++ (if purged e.0.seg then [] else e ∷ []) ≡ s ++ alive purged (take (i + 1) es)
grown_alive purged s es i e at =
    append_assoc s (alive purged (take i es)) (if purged e.0.seg then [] else e ∷ [])
    ∙ ap (λ l. s ++ l) (sym (alive-push purged (take i es) e) ∙ ap (alive purged) (sym (take-next es i e at)))

pub swept : (purged : ℕ → Bool) (f g : PageId → Entry) (es : List (PageId × Entry)) → masked purged f ≡ masked purged g
    → masked purged (filled f (alive purged es)) ≡ masked purged (filled g es)
swept purged f g [] same = same
swept purged f g (e ∷ es) same = swept_one purged f g e es (λ f g. swept purged f g es) same (purged e.0.seg) refl
