-- What is counted, from one element to the next.
use Rattle.std.proofs.Common.{◌≡◌, ◌∙◌, ℕ, suc, ◌+◌, ◌<◌, ◌≤◌, ◌||◌, ◌==◌, Bool, true, false, cond, List, [], ◌∷◌, length, get_or, take, ap, refl, sym, arith, replicate, slice_set}
use Rattle.std.specs.List.{count_by, list_any, range_with_len}
use Rattle.std.specs.Option.{option_map_or}
use Rattle.std.specs.Prelude.{Option}
use Rattle.std.proofs.lemmas.Bool.Decides.{nat_tests}
use Rattle.std.proofs.lemmas.List.{get_or-replicate, get_or-set_other, get_or-set_same, length-replicate, take_all}
use Rattle.std.proofs.lemmas.List.Folds.{list_any_more}
use Rattle.std.proofs.lemmas.List.Sums.{sum_by-cons}
use Rattle.shm_model.specs.declared.event.Event.{Event}
use Rattle.shm_report.specs.Counts.{is_received, received_of, receives}

-- ---- marks

or_true : (b : Bool) → (b || true) ≡ true
or_true true = refl
or_true false = refl

or_false : (b : Bool) → (b || false) ≡ b
or_false true = refl
or_false false = refl

set_by : (marks : List Bool) (place k : ℕ) (same : Bool) → (place == k) ≡ same → place < length marks
    → get_or (slice_set marks place true) k false ≡ (get_or marks k false || same)
set_by marks place k true same below =
    let is : place ≡ k = grind (arith, nat_tests) in
    ap (λ j. get_or (slice_set marks place true) j false) (sym is) ∙ get_or-set_same marks place true false below ∙ sym (or_true (get_or marks k false))
set_by marks place k false same below =
    let other : k ≡ place → ⊥ = λ e. grind (arith, nat_tests) in
    get_or-set_other marks place k true false other ∙ sym (or_false (get_or marks k false))

-- the mark of one place is set
pub set_mark : (marks : List Bool) (place k : ℕ) → place < length marks → get_or (slice_set marks place true) k false ≡ (get_or marks k false || (place == k))
set_mark marks place k below = set_by marks place k (place == k) refl below

no_mark_by : (marks : List Bool) (place k : ℕ) (same : Bool) → (place == k) ≡ same → length marks ≤ place → k < length marks
    → get_or marks k false ≡ (get_or marks k false || same)
no_mark_by marks place k true same out in' =
    let is : place ≡ k = grind (arith, nat_tests) in
    absurd (omega (arith, is))
no_mark_by marks place k false same out in' = sym (or_false (get_or marks k false))

-- or there is no such place
pub no_mark : (marks : List Bool) (place k : ℕ) → length marks ≤ place → k < length marks → get_or marks k false ≡ (get_or marks k false || (place == k))
no_mark marks place k out in' = no_mark_by marks place k (place == k) refl out in'

-- the marks after an event, which receives the envelope of this number, or none
pub marked_by : (event : Event) (number : Option ℕ) (k : ℕ) (old new : Bool) → receives k event ≡ option_map_or (λ n. n == k) number false
    → new ≡ (old || option_map_or (λ n. n == k) number false) → new ≡ (old || receives k event)
marked_by event number k old new says is = is ∙ ap (λ b. old || b) (sym says)

pub unmarked : (old : Bool) → old ≡ (old || false)
unmarked old = sym (or_false old)

-- a mark for each envelope that was received, by the events so far
pub record AreMarked (envelopes : ℕ) (events : List Event) (marks : List Bool) : Type 0 where
  pub count : length marks ≡ envelopes
  pub each : (k : ℕ) → k < envelopes → get_or marks k false ≡ list_any (receives k) events

pub none_marked : (envelopes : ℕ) (events : List Event) (marks : List Bool) → marks ≡ replicate envelopes false → AreMarked envelopes (take 0 events) marks
none_marked envelopes events marks none = record {
  count = ap length none ∙ length-replicate envelopes false;
  each = λ k few. ap (λ m. get_or m k false) none ∙ get_or-replicate envelopes k false false few;
}

pub one_marked : (envelopes : ℕ) (events : List Event) (i : ℕ) (event : Event) (old new : List Bool) → i < length events → event ≡ get_or events i event
    → AreMarked envelopes (take i events) old → length new ≡ length old
    → ((k : ℕ) → k < length old → get_or new k false ≡ (get_or old k false || receives k event)) → AreMarked envelopes (take (i + 1) events) new
one_marked envelopes events i event old new below read marked same more = record {
  count = same ∙ marked.count;
  each = λ k few.
      more k (omega (arith, marked.count))
      ∙ ap (λ b. b || receives k event) (marked.each k few)
      ∙ ap (λ e. list_any (receives k) (take i events) || receives k e) read
      ∙ sym (list_any_more (receives k) events i event below);
}

-- marks that say of each number whether it passes, counted
pub marks_count : (f : ℕ → Bool) (marks : List Bool) (start : ℕ) → ((k : ℕ) → k < length marks → get_or marks k false ≡ f (start + k))
    → count_by (λ m. m) marks ≡ count_by f (range_with_len start (length marks))
marks_count f [] start is = refl
marks_count f (m ∷ marks) start is =
    let zero_more : start + 0 ≡ start = omega arith in
    let first : m ≡ f start = is 0 (omega arith) ∙ ap f zero_more in
    let rest : count_by (λ m. m) marks ≡ count_by f (range_with_len (start + 1) (length marks)) =
    marks_count f marks (start + 1) (λ k below. let one : start + suc k ≡ start + 1 + k = omega arith in is (suc k) (omega (arith, below)) ∙ ap f one) in
    sum_by-cons (λ (b : Bool). cond b 1 0) m marks
    ∙ ap (λ b. cond b 1 0 + count_by (λ m. m) marks) first
    ∙ ap (λ n. cond (f start) 1 0 + n) rest
    ∙ sym (sum_by-cons (λ k. cond (f k) 1 0) start (range_with_len (start + 1) (length marks)))

-- marks of what all events received
pub all_marked : (envelopes : ℕ) (events : List Event) (i : ℕ) (marks : List Bool) → length events ≤ i → AreMarked envelopes (take i events) marks
    → count_by (λ m. m) marks ≡ received_of envelopes events
all_marked envelopes events i marks whole marked =
    marks_count (is_received (take i events)) marks 0
    (λ k below. let same : k ≡ 0 + k = omega arith in marked.each k (omega (arith, marked.count)) ∙ ap (is_received (take i events)) same)
    ∙ ap (λ n. count_by (is_received (take i events)) (range_with_len 0 n)) marked.count
    ∙ ap (received_of envelopes) (take_all i events whole)
