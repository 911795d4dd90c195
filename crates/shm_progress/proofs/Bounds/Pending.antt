-- A site that is settled asks again only for its pending requests, and without accesses these become no more.
use Rattle.std.proofs.Common.{◌≡◌, ◌≢◌, ℕ, ◌+◌, ◌≤◌, ◌⊎◌, inl, inr, Bool, true, false, ◌==◌, not, Option, Some, None, List, [], ◌∷◌, ◌++◌, filter, length, map, slice_get, sum_by, arith, refl, sym, ◌∙◌, ap}
use Rattle.std.proofs.lemmas.Bool.{cases_eq, cond_both}
use Rattle.std.proofs.lemmas.List.{length-append, length-map}
use Rattle.std.proofs.lemmas.List.Sums.{count_by-le-length, length-filter, sum_by-le-sum_by}
use Rattle.std.specs.List.{flat_map, range_with_len}
use Rattle.shm_place.specs.declared.page_id.PageId.{PageId}
use Rattle.shm_place.specs.Page.{same_page}
use Rattle.shm_model.specs.declared.event.Event.{Event}
use Rattle.shm_model.specs.Basics.{at_page}
use Rattle.shm_model.specs.Book.{Outcome, Ignored, Taken, UsedUp, on_ask, on_cleared, on_confirm, orders_of}
use Rattle.shm_model.specs.Entry.{Ask, Clear, Cleared, Confirm, Entry, Hand, Note, Out, Page, on_clear, on_hand, on_page, readable, writable}
use Rattle.shm_model.specs.Message.{Begin, Call, Deliver, Input, Load, Message, Of, Purge, Purged, Replies, Restart, Store, Tick}
use Rattle.shm_model.specs.Permission.{Segment}
use Rattle.shm_model.specs.SegmentCalls.{purge_envelope}
use Rattle.shm_model.specs.Site.{Pending, Site, Step, is_attached}
use Rattle.shm_model.specs.Step.{ask_again, call_again, foreign, on_message, orders_again, purges_again, step, tick_envelopes}
use Rattle.shm_model.specs.Transfer.{arranged, is_nothing, is_settled, on_note, order_envelope, settle, to_book, to_entry}
use Rattle.shm_model.specs.World.{Run, World, extended, next, run_on, stepped}
use Rattle.shm_laws.proofs.Move.Calls.{begin-quiet, call-quiet, purged-quiet, reply-quiet}
use Rattle.shm_laws.proofs.Sound.{set-here, set-there}
use Rattle.shm_progress.specs.Bounds.{asked_at}
use Rattle.shm_progress.specs.Rounds.{ManagersSettled, NoneAccesses, Settled}
use Rattle.shm_progress.proofs.Bounds.Ticks.{asked}
use Rattle.shm_progress.proofs.Request.Calm.{Calm, IsAside, calm, goes, rests}
use Rattle.shm_progress.proofs.Request.Pending.{limited-pending}

-- ---- no more are pending

settle-fewer : (reads writes : Bool) (page : PageId) (ps : List Pending) → length (settle reads writes page ps) ≤ length ps
settle-fewer reads writes page [] = omega arith
settle-fewer reads writes page (p ∷ ps) =
    let rest = settle-fewer reads writes page ps in
    cond_both (same_page page p.page) _ _ (λ l. length l ≤ length (p ∷ ps))
    (λ e. cond_both (is_settled reads writes p) ps (p ∷ ps) (λ l. length l ≤ length (p ∷ ps)) (λ f. omega arith) (λ f. omega arith)) (λ e. omega (arith, rest))

module _ (sites s : ℕ) (x : Site) where
  abbrev Fewer : Step → Type 0
  Fewer st = length st.site.pending ≤ length x.pending

  same-fewer : {ps : List Pending} → ps ≡ x.pending → length ps ≤ length x.pending
  same-fewer same = let is = ap length same in omega (arith, is)

  entry-fewer : (page : PageId) (row : Entry × Out) → Fewer (to_entry sites s page row x)
  entry-fewer page (e, out) =
      cond_both (is_nothing out) _ _ Fewer (λ h. omega arith)
      (λ h. let same = ap length (limited-pending (arranged page (x.entries page) e x.frames)
      (record x { entries = at_page x.entries page e; frames = arranged page (x.entries page) e x.frames; pending = settle (readable e) (writable e) page x.pending })) in
      let fewer = settle-fewer (readable e) (writable e) page x.pending in
      omega (arith, same, fewer))

  book-fewer : (page : PageId) (outcome : Outcome) → Fewer (to_book s page outcome x)
  book-fewer page Ignored = omega arith
  book-fewer page UsedUp = omega arith
  book-fewer page (Taken b os) = omega arith

  note-fewer : (from : ℕ) (page : PageId) (note : Note) → Fewer (on_note sites s from page note x)
  note-fewer from page (Ask r kind) = book-fewer page (on_ask from r kind (x.books page))
  note-fewer from page (Clear n) = entry-fewer page (on_clear n (x.entries page))
  note-fewer from page (Cleared n) = book-fewer page (on_cleared from n (x.books page))
  note-fewer from page (Hand n kind to) = entry-fewer page (on_hand s n kind to (x.entries page))
  note-fewer from page (Page n kind b) = entry-fewer page (on_page n kind b (x.entries page))
  note-fewer from page (Confirm n) = book-fewer page (on_confirm from n (x.books page))

  message-fewer : (from : ℕ) (m : Message) → Fewer (on_message sites s from m x)
  message-fewer from (Of page note) = cond_both (x.purged page.seg) _ _ Fewer (λ e. omega arith) (λ e. note-fewer from page note)
  message-fewer from (Call number op) = same-fewer (call-quiet sites s from number op x).pending
  message-fewer from (Replies number reply) = same-fewer (reply-quiet number reply x).pending
  message-fewer from (Purge id) =
      cond_both (is_attached x id) _ _ Fewer (λ e. omega arith)
      (λ e. let count = length-filter (λ (p : Pending). not (id == p.page.seg)) x.pending in
      let few = count_by-le-length (λ (p : Pending). not (id == p.page.seg)) x.pending in omega (arith, count, few))
  message-fewer from (Purged id) = same-fewer (purged-quiet from id x).pending

  step-fewer : (input : Input) → IsAside input → Fewer (step sites s x input)
  step-fewer (Load a offset) aside = absurd aside
  step-fewer (Store a offset byte) aside = absurd aside
  step-fewer (Begin request) aside = same-fewer (begin-quiet sites s request x).pending
  step-fewer (Deliver e) aside = cond_both (foreign sites s e) _ _ Fewer (λ h. omega arith) (λ h. message-fewer e.from e.message)
  step-fewer Tick aside = omega arith
  step-fewer Restart aside = omega arith

abbrev pending-at : Option Site → ℕ
pending-at None = 0
pending-at (Some x) = length x.pending

calm-fewer : (w u : World) → Calm w u → (t : ℕ) → pending-at (slice_get u.sites t) ≤ pending-at (slice_get w.sites t)
calm-fewer w u (rests gone stays) t = omega arith
calm-fewer w u (goes gone s x input stays found aside handed) t = by-site (cases_eq t s)
  where
    by-site : (t ≡ s) ⊎ (t ≢ s) → pending-at (slice_get (stepped (record w { gone = gone }) s input (step w.count s x input)).world.sites t) ≤ pending-at (slice_get w.sites t)
    by-site (inl here) =
        let new = ap pending-at (ap (slice_get (stepped (record w { gone = gone }) s input (step w.count s x input)).world.sites) here ∙ set-here w.sites s x (step w.count s x input).site found) in
        let old = ap pending-at (ap (slice_get w.sites) here ∙ found) in
        let fewer = step-fewer w.count s x input aside in
        omega (arith, new, old, fewer)
    by-site (inr other) = let same = ap pending-at (set-there w.sites s t (step w.count s x input).site other) in omega (arith, same)

pub pending-fewer : (r : Run) (events : List Event) → NoneAccesses events → (t : ℕ) → pending-at (slice_get (run_on r events).world.sites t) ≤ pending-at (slice_get r.world.sites t)
pending-fewer r [] none t = omega arith
pending-fewer r (e ∷ es) none t =
    let first = calm-fewer r.world (next r.world e).world (calm r.world e none.0) t in
    let rest = pending-fewer (extended r (next r.world e)) es none.1 t in
    omega (arith, first, rest)

-- ---- what a tick asks for

asks-more : (sites s : ℕ) (found : Option Site) → pending-at found ≤ asked_at sites s found
asks-more sites s None = omega arith
asks-more sites s (Some x) =
    let parts = length-append (map (ask_again sites s) x.pending) (flat_map (orders_again s x) x.booked ++ (call_again sites s x.outstanding ++ flat_map (purges_again sites s x) x.table)) in
    let each = length-map x.pending (ask_again sites s) in
    omega (arith, parts, each)

flat-none : {X Y : Type 0} (f : X → List Y) (xs : List X) → ((x : X) → f x ≡ []) → flat_map f xs ≡ []
flat-none f [] none = refl
flat-none f (x ∷ xs) none = ap (λ l. l ++ flat_map f xs) (none x) ∙ flat-none f xs none

filter-none : (f : ℕ → Bool) (xs : List ℕ) → ((n : ℕ) → f n ≡ false) → filter f xs ≡ []
filter-none f [] none = refl
filter-none f (n ∷ ns) none = cond_both (f n) (n ∷ filter f ns) (filter f ns) (λ l. l ≡ []) (λ e. let both : true ≡ false = sym e ∙ none n in cc) (λ e. filter-none f ns none)

asks-fewer : (sites s : ℕ) (x : Site) → ((page : PageId) → (x.books page).running ≡ None) → x.outstanding ≡ None → ((id t : ℕ) → x.missing id t ≡ false)
    → length (tick_envelopes sites s x) ≤ length x.pending
asks-fewer sites s x idle answered purged =
    let orders = flat-none (orders_again s x) x.booked (λ page. ap (λ o. map (order_envelope s page (x.books page).number) (orders_of (x.books page) o)) (idle page)) in
    let call = ap (call_again sites s) answered in
    let purges = flat-none (purges_again sites s x) x.table (λ (g : Segment). ap (map (purge_envelope s g.id)) (filter-none (x.missing g.id) (range_with_len 0 sites) (purged g.id))) in
    let rest : flat_map (orders_again s x) x.booked ++ (call_again sites s x.outstanding ++ flat_map (purges_again sites s x) x.table) ≡ [] =
    ap (λ l. l ++ (call_again sites s x.outstanding ++ flat_map (purges_again sites s x) x.table)) orders ∙ (ap (λ l. l ++ flat_map (purges_again sites s x) x.table) call ∙ purges) in
    let parts = length-append (map (ask_again sites s) x.pending) (flat_map (orders_again s x) x.booked ++ (call_again sites s x.outstanding ++ flat_map (purges_again sites s x) x.table)) in
    let each = length-map x.pending (ask_again sites s) in
    let none = ap length rest in
    omega (arith, parts, each, none)

-- a settled world asks for no more again than the one before calm events that led to it
module _ (r : Run) (events : List Event) (none : NoneAccesses events) (settled : Settled (run_on r events).world) (ended : ManagersSettled (run_on r events).world) where
  asked-less : (t : ℕ) → asked (run_on r events).world.count (run_on r events).world.sites t ≤ asked r.world.count r.world.sites t
  asked-less t =
      let fewer = pending-fewer r events none t in
      let more = asks-more r.world.count t (slice_get r.world.sites t) in
      let now = by-site (slice_get (run_on r events).world.sites t) refl in
      omega (arith, fewer, more, now)
    where
      by-site : (found : Option Site) → slice_get (run_on r events).world.sites t ≡ found → asked_at (run_on r events).world.count t found ≤ pending-at found
      by-site None here = omega arith
      by-site (Some x) here =
          asks-fewer (run_on r events).world.count t x (λ page. ended.ended t x page here) (settled.answered t x here) (λ id s. settled.purged t id s x here)

  pub asked-fewer : (ss : List ℕ) → sum_by (asked (run_on r events).world.count (run_on r events).world.sites) ss ≤ sum_by (asked r.world.count r.world.sites) ss
  asked-fewer ss = sum_by-le-sum_by (asked (run_on r events).world.count (run_on r events).world.sites) (asked r.world.count r.world.sites) ss asked-less
