-- Checkpoints that hold: for fewer events and for more, and those that a ring keeps.
use Rattle.std.proofs.Common.{◌≡◌, ℕ, ◌-◌, ◌<◌, ◌≤◌, zero, suc, Bool, true, List, [], ◌∷◌, ◌++◌, Option, None, Some, IfSome, length, length-append, take, get_or, slice_get, nat_le, refl, sym, ap, ◌∙◌, subst, arith}
use Rattle.std.proofs.lemmas.Bool.Decides.{nat_tests}
use Rattle.std.proofs.lemmas.List.{get_or-take, length-take-le}
use Rattle.std.proofs.lemmas.List.Elements.{All-drop, All-push}
use Rattle.std.proofs.lemmas.List.Folds.{length-prefix_len}
use Rattle.std.proofs.lemmas.List.Sums.{prefix_len-le-length, prefix_len_passes}
use Rattle.std.proofs.lemmas.Option.{get_or_from_slice_get, slice_get_within}
use Rattle.std.specs.List.{All, prefix_len, take_while}
use Rattle.std.specs.Option.{option_copied}
use Rattle.circular_buffer.specs.Buffer.{keep_last, last_item}
use denote.Ref.{Bor}
use Rattle.shm_model.specs.declared.event.Event.{Event}
use Rattle.shm_world.specs.World.{StandsFor}
use Rattle.shm_debug.specs.Checkpoints.{Holds}
use Rattle.shm_debug.specs.Standing.{Standing, first_events, standing, world_of}
use Rattle.shm_debug.specs.declared.checkpoint.Checkpoint.{Checkpoint}

pub take-take : {X : Type 0} (k n : ℕ) (xs : List X) → k ≤ n → take k (take n xs) ≡ take k xs
take-take zero n xs h = refl
take-take (suc k) zero xs h = absurd (omega arith)
take-take (suc k) (suc n) [] h = refl
take-take (suc k) (suc n) (x ∷ xs) h = ap (λ l. x ∷ l) (take-take k n xs (omega arith))

pub take-front : {X : Type 0} (k : ℕ) (xs ys : List X) → k ≤ length xs → take k (xs ++ ys) ≡ take k xs
take-front zero xs ys h = refl
take-front (suc k) [] ys h = absurd (omega arith)
take-front (suc k) (x ∷ xs) ys h = ap (λ l. x ∷ l) (take-front k xs ys (omega arith))

-- a checkpoint within the first n events holds for these alone
pub holds-first : {A : Type 0} (s : Standing) (n : ℕ) (c : Checkpoint A) → n ≤ length s.events → c.count ≤ n → Holds s c → Holds (first_events n s) c
holds-first {A} s n c h le holds = record {
  within = omega (arith, le, length-take-le n s.events h);
  stands = subst (λ (xs : List Event). StandsFor {A = A} c.world (world_of (standing s.opening xs))) (sym (take-take c.count n s.events le)) holds.stands;
}

-- what holds for the first n events holds for all
pub holds-whole : {A : Type 0} (s : Standing) (n : ℕ) (c : Checkpoint A) → n ≤ length s.events → Holds (first_events n s) c → Holds s c
holds-whole {A} s n c h holds =
    let le : c.count ≤ n = omega (arith, holds.within, length-take-le n s.events h) in
    record {
      within = omega (arith, le, h);
      stands = subst (λ (xs : List Event). StandsFor {A = A} c.world (world_of (standing s.opening xs))) (take-take c.count n s.events le) holds.stands;
    }

pub all-whole : {A : Type 0} (s : Standing) (n : ℕ) (xs : List (Checkpoint A)) → n ≤ length s.events → All (Holds (first_events n s)) xs → All (Holds s) xs
all-whole s n xs h all = λ k d lt. holds-whole s n (get_or xs k d) h (all k d lt)

-- what holds for some events holds for them and more
pub all-longer : {A : Type 0} (s : Standing) (more : List Event) (xs : List (Checkpoint A)) → All (Holds s) xs → All (Holds (standing s.opening (s.events ++ more))) xs
all-longer {A} s more xs all = λ k d lt.
    let holds : Holds s (get_or xs k d) = all k d lt in
    record {
      within = omega (arith, holds.within, length-append s.events more);
      stands = subst (λ (events : List Event). StandsFor {A = A} (get_or xs k d).world (world_of (standing s.opening events))) (sym (take-front (get_or xs k d).count s.events more holds.within)) holds.stands;
    }

-- those up to the first one past n events
pub all-first : {A : Type 0} (s : Standing) (n m : ℕ) (xs : List (Checkpoint A)) → m ≡ length (take_while (λ c. nat_le c.count n) xs) → n ≤ length s.events
    → All (Holds s) xs → All (Holds (first_events n s)) (take m xs)
all-first {A} s n m xs e h all = λ k d lt.
    let p : Checkpoint A → Bool = λ c. nat_le c.count n in
    let same : m ≡ prefix_len p xs = e ∙ length-prefix_len p xs in
    let below : k < m = omega (arith, lt, same, length-prefix_len p xs, ap (λ i. length (take i xs)) same) in
    let here : get_or (take m xs) k d ≡ get_or xs k d = get_or-take m xs k d below in
    let passes : nat_le (get_or xs k d).count n ≡ true = prefix_len_passes p xs k d (omega (arith, below, same)) in
    let within : k < length xs = omega (arith, below, same, prefix_len-le-length p xs) in
    subst (λ (c : Checkpoint A). Holds (first_events n s) c) (sym here) (holds-first s n (get_or xs k d) h (grind (arith, nat_tests)) (all k d within))

-- the latest n of them and one more
pub all-kept : {A : Type 0} (s : Standing) (n : ℕ) (xs : List (Checkpoint A)) (c : Checkpoint A) → All (Holds s) xs → Holds s c → All (Holds s) (keep_last n (xs ++ c ∷ []))
all-kept s n xs c all holds = All-drop (Holds s) (length (xs ++ c ∷ []) - n) (xs ++ c ∷ []) (All-push (Holds s) xs c all holds)

-- one of them
pub holds-at : {A : Type 0} (s : Standing) (xs : List (Checkpoint A)) (i : ℕ) (r : Option (Bor (Checkpoint A))) → option_copied r ≡ slice_get xs i → All (Holds s) xs → IfSome r (λ c. Holds s c.now)
holds-at s xs i None e all = tt
holds-at {A} s xs i (Some c) e all = subst (λ (x : Checkpoint A). Holds s x) (get_or_from_slice_get xs i c.now c.now (sym e)) (all i c.now (slice_get_within xs i c.now (sym e)))

-- the latest of them
pub holds-last : {A : Type 0} (s : Standing) (xs : List (Checkpoint A)) (r : Option (Checkpoint A)) → r ≡ last_item xs → All (Holds s) xs → IfSome r (λ c. Holds s c)
holds-last s xs None e all = tt
holds-last {A} s xs (Some c) e all =
    let n = length xs - 1 in
    subst (λ (x : Checkpoint A). Holds s x) (get_or_from_slice_get xs n c c (sym e)) (all n c (slice_get_within xs n c (sym e)))
