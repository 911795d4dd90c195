-- What a running transaction asks for, and whom it waits for.
use Rattle.std.proofs.Common.{◌≡◌, ℕ, zero, suc, ◌<◌, true, List, [], ◌∷◌, Some, map, slice_get, arith, sym, ◌∙◌, ap, subst, Contains}
use Rattle.std.specs.List.{flat_map, range_with_len}
use Rattle.std.proofs.lemmas.List.Concat.{flat_map-cons}
use Rattle.std.proofs.lemmas.List.Elements.{Contains-append_left, Contains-append_right}
use Rattle.std.proofs.lemmas.Option.{slice_get-get_or}
use Rattle.shm_place.specs.declared.page_id.PageId.{PageId}
use Rattle.shm_model.specs.Entry.{Clear, Hand}
use Rattle.shm_model.specs.Book.{Book, ClearTo, Running, awaited, awaits, max_sites, orders, orders_of, orders_to}
use Rattle.shm_model.specs.Message.{Envelope, Of}
use Rattle.shm_model.specs.Site.{Site}
use Rattle.shm_model.specs.Step.{ask_again, orders_again, tick_envelopes}
use Rattle.shm_model.specs.Transfer.{order_envelope, order_envelopes}
use Rattle.shm_laws.proofs.Page.Orders.{awaited-each}
use Rattle.shm_laws.proofs.Sound.{each-in}
use Rattle.shm_progress.proofs.Purge.Answers.{contains-first, contains-map, filter-passes, range-at}
use Rattle.shm_progress.proofs.Transfer.Booked.{Booked}

pub awaited-has : (b : Book) (run : Running) (t : ℕ) → Contains (awaited b run) t → (t < max_sites) × (awaits b run t ≡ true)
awaited-has b run t here = each-in (λ s. (s < max_sites) × (awaits b run s ≡ true)) (awaited b run) t (awaited-each b run) here

pub has-awaited : (b : Book) (run : Running) (t : ℕ) → t < max_sites → awaits b run t ≡ true → Contains (awaited b run) t
unfolding awaited
has-awaited b run t l is = filter-passes (awaits b run) (range_with_len 0 max_sites) t t (range-at max_sites t l) is

abbrev pub clear_envelope : ℕ → PageId → Book → ℕ → Envelope
clear_envelope m q b t = record { from = m; to = t; message = Of q (Clear b.number) }

abbrev pub hand_envelope : ℕ → PageId → Book → Running → Envelope
hand_envelope m q b run = record { from = m; to = b.owner; message = Of q (Hand b.number run.kind run.requester) }

-- what the transaction asks for is among these envelopes
pub record Told (m : ℕ) (q : PageId) (b : Book) (run : Running) (sent : List Envelope) : Type 0 where
  pub clears : (t : ℕ) → Contains (awaited b run) t → Contains sent (clear_envelope m q b t)
  pub hands : awaited b run ≡ [] → Contains sent (hand_envelope m q b run)

pub found-at : {X : Type 0} (xs : List X) (x : X) → Contains xs x → (k : ℕ) × (slice_get xs k ≡ Some x)
found-at xs x (k, l, e) = (k, slice_get-get_or xs k x l ∙ ap Some e)

pub map-contains : {X Y : Type 0} (f : X → Y) (xs : List X) (x : X) → Contains xs x → Contains (map f xs) (f x)
map-contains f xs x here = let (k, found) = found-at xs x here in contains-map f xs k x found

module _ (m : ℕ) (q : PageId) (b : Book) (run : Running) where
  clears-of : (ss : List ℕ) (t : ℕ) → Contains ss t → Contains (order_envelopes m q b (orders_to b run ss)) (clear_envelope m q b t)
  clears-of [] t (k, l, e) = absurd (omega arith)
  clears-of (s ∷ ss) t here = map-contains (order_envelope m q b.number) (map ClearTo (s ∷ ss)) (ClearTo t) (map-contains ClearTo (s ∷ ss) t here)

  hands-of : (ss : List ℕ) → ss ≡ [] → Contains (order_envelopes m q b (orders_to b run ss)) (hand_envelope m q b run)
  hands-of [] e = contains-first (hand_envelope m q b run) []
  hands-of (s ∷ ss) e = cc

  pub told : (sent : List Envelope) → b.running ≡ Some run → ((f : Envelope) → Contains (order_envelopes m q b (orders b)) f → Contains sent f) → Told m q b run sent
  told sent is all = record {
    clears = λ t here. all (clear_envelope m q b t) (subst (λ r. Contains (order_envelopes m q b (orders_of b r)) (clear_envelope m q b t)) (sym is) (clears-of (awaited b run) t here));
    hands = λ none. all (hand_envelope m q b run) (subst (λ r. Contains (order_envelopes m q b (orders_of b r)) (hand_envelope m q b run)) (sym is) (hands-of (awaited b run) none));
  }

-- a tick asks again
flat-contains : {X Y : Type 0} (f : X → List Y) (xs : List X) (x : X) (y : Y) (k : ℕ) → slice_get xs k ≡ Some x → Contains (f x) y → Contains (flat_map f xs) y
flat-contains f [] x y k found here = cc
flat-contains f (z ∷ zs) x y zero found here =
    subst (λ ys. Contains ys y) (sym (flat_map-cons f z zs)) (Contains-append_left (f z) (flat_map f zs) y (subst (λ u. Contains (f u) y) (sym (some-same z x found)) here))
  where
    some-same : {X : Type 0} (x y : X) → Some x ≡ Some y → x ≡ y
    some-same x y e = cc
flat-contains f (z ∷ zs) x y (suc k) found here =
    subst (λ ys. Contains ys y) (sym (flat_map-cons f z zs)) (Contains-append_right (f z) (flat_map f zs) y (flat-contains f zs x y k found here))

pub tick-told : (sites m : ℕ) (x : Site) (q : PageId) (run : Running) → Booked x → (x.books q).running ≡ Some run → Told m q (x.books q) run (tick_envelopes sites m x)
tick-told sites m x q run booked is =
    told m q (x.books q) run (tick_envelopes sites m x) is (λ f here.
    Contains-append_right (map (ask_again sites m) x.pending) _ f
    (Contains-append_left (flat_map (orders_again m x) x.booked) _ f
    (let (k, found) = found-at x.booked q (booked.booked q run is) in flat-contains (orders_again m x) x.booked q f k found here)))
