-- A transaction's number is at most the count of the envelopes that were sent: each that starts asks for something.
use Rattle.std.proofs.Common.{◌≡◌, ◌≢◌, ℕ, ◌+◌, ◌<◌, ◌≤◌, ◌⊎◌, inl, inr, Bool, true, false, ◌==◌, ◌&&◌, Option, Some, None, List, [], ◌∷◌, ◌++◌, if◌then◌else◌, length, nat_le, slice_get, slice_set, map, arith, refl, sym, ◌∙◌, ap, subst}
use Rattle.std.specs.List.{range_with_len}
use Rattle.std.proofs.lemmas.Bool.{cases_eq, cond_both, ltb-false}
use Rattle.std.proofs.lemmas.List.{length-append, length-map}
use Rattle.std.proofs.lemmas.Option.{slice_get_within}
use Rattle.std.proofs.lemmas.List.FromFn.{length-map-range_with_len}
use Rattle.shm_place.specs.declared.page_id.PageId.{PageId}
use Rattle.shm_place.specs.Page.{same_page}
use Rattle.shm_model.specs.declared.event.Event.{Event}
use Rattle.shm_model.specs.declared.request_kind.Kind.{Kind}
use Rattle.shm_model.specs.Entry.{Note, Ask, Clear, Cleared, Hand, Page, Confirm, on_clear, on_hand, on_page}
use Rattle.shm_model.specs.Book.{Book, ClearTo, Outcome, Ignored, UsedUp, Taken, Running, Waiting, ask_while, awaited, awaits, cleared_while, confirm_while, is_waiting, is_write, max_waiting, on_ask, on_cleared, on_confirm, orders_to, serve_next, start, start_first, started, unserved, untouched_book}
use Rattle.shm_model.specs.Basics.{greatest, max_sent}
use Rattle.shm_model.specs.Message.{Input, Load, Store, Begin, Deliver, Tick, Restart, Message, Of, Call, Replies, Purge, Purged}
use Rattle.shm_model.specs.Site.{Site, is_attached, Step}
use Rattle.shm_model.specs.Access.{right}
use Rattle.shm_model.specs.Transfer.{on_note, order_envelope, to_book}
use Rattle.shm_model.specs.Step.{foreign, on_message, step}
use Rattle.shm_model.specs.World.{Framed, New, Opening, Preset, World, begun, is_full, opened_site, run, sites_of}
use Rattle.shm_laws.proofs.Move.Calls.{begin-quiet, call-quiet, purged-quiet, reply-quiet}
use Rattle.shm_laws.proofs.Page.Moves.{page-same}
use Rattle.shm_laws.proofs.Run.Induction.{Kept, run-good}
use Rattle.shm_laws.proofs.Run.GoesOn.{slice_get-range}
use Rattle.shm_laws.proofs.Sound.{set-here, set-there}
use Rattle.shm_progress.proofs.Transfer.Steps.{entry-aside, load-aside, store-aside}

module _ (b : Book) where
  -- a new number asks for something
  abbrev Numbers : Outcome → Type 0
  Numbers Ignored = Unit {0}
  Numbers UsedUp = Unit {0}
  Numbers (Taken c os) = c.number ≤ b.number + length os

  some-order : (c : Book) (run : Running) (ss : List ℕ) → 1 ≤ length (orders_to c run ss)
  some-order c run [] = omega arith
  some-order c run (s ∷ ss) = let all = length-map (s ∷ ss) ClearTo in omega (arith, all)

  start-numbers : (s r : ℕ) (kind : Kind) (c : Book) → c.number ≡ b.number → Numbers (start s r kind c)
  start-numbers s r kind c same =
      cond_both (c.number == greatest) _ _ Numbers (λ e. tt)
      (λ e. let some = some-order (started s r kind c) (record { kind = kind; requester = s }) (awaited (started s r kind c) (record { kind = kind; requester = s })) in omega (arith, same, some))

  ask-numbers : (s r : ℕ) (kind : Kind) → Numbers (on_ask s r kind b)
  ask-numbers s r kind = cond_both (nat_le r (b.served s)) _ _ Numbers (λ e. tt) (λ e. by-running b.running)
    where
      by-running : (running : Option Running) → Numbers (ask_while running s r kind b)
      by-running None = start-numbers s r kind b refl
      by-running (Some run) = cond_both (is_waiting s r b.waiting) _ _ Numbers (λ e. tt) (λ e. cond_both (nat_le max_waiting (length b.waiting)) _ _ Numbers (λ f. tt) (λ f. omega arith))

  cleared-numbers : (s n : ℕ) → Numbers (on_cleared s n b)
  cleared-numbers s n = by-running b.running
    where
      by-running : (running : Option Running) → Numbers (cleared_while running s n b)
      by-running None = tt
      by-running (Some run) = cond_both ((n == b.number) && awaits b run s) _ _ Numbers (λ e. omega arith) (λ e. tt)

  first-numbers : (ws : List Waiting) (c : Book) → c.number ≡ b.number → Numbers (start_first ws c)
  first-numbers [] c same = omega (arith, same)
  first-numbers (w ∷ ws) c same = start-numbers w.from w.request w.kind (record c { waiting = ws }) same

  serve-numbers : (c : Book) → c.number ≡ b.number → Numbers (serve_next c)
  serve-numbers c same = cond_both (c.number == greatest) _ _ Numbers (λ e. omega (arith, same)) (λ e. first-numbers (unserved c.served c.waiting) c same)

  confirm-numbers : (s n : ℕ) → Numbers (on_confirm s n b)
  confirm-numbers s n = by-running b.running
    where
      by-running : (running : Option Running) → Numbers (confirm_while running s n b)
      by-running None = tt
      by-running (Some run) =
          cond_both ((n == b.number) && (s == run.requester)) _ _ Numbers
          (λ e. cond_both (is_write run.kind) _ _ (λ (c : Book). Numbers (serve_next c)) (λ f. serve-numbers _ refl)
          (λ f. cond_both (run.requester == b.owner) _ _ (λ (c : Book). Numbers (serve_next c)) (λ g. serve-numbers _ refl) (λ g. serve-numbers _ refl))) (λ e. tt)

module _ (sites m : ℕ) (q : PageId) (x : Site) where
  abbrev Goal : Step → Type 0
  Goal st = (st.site.books q).number ≤ (x.books q).number + length st.sent

  same-numbers : {f : PageId → Book} (n : ℕ) → f ≡ x.books → (f q).number ≤ (x.books q).number + n
  same-numbers n same = subst (λ (f : PageId → Book). (f q).number ≤ (x.books q).number + n) (sym same) (omega arith)

  book-numbers : (page : PageId) (outcome : Outcome) → Numbers (x.books page) outcome → Goal (to_book m page outcome x)
  book-numbers page Ignored h = omega arith
  book-numbers page UsedUp h = omega arith
  book-numbers page (Taken c os) h =
      let all = length-map os (order_envelope m page c.number) in
      cond_both (same_page page q) c (x.books q) (λ (b : Book). b.number ≤ (x.books q).number + length (map (order_envelope m page c.number) os))
      (λ e. subst (λ (k : PageId). c.number ≤ (x.books k).number + length (map (order_envelope m page c.number) os)) (page-same page q e) (omega (arith, h, all))) (λ e. omega arith)

  note-numbers : (from : ℕ) (page : PageId) (note : Note) → Goal (on_note sites m from page note x)
  note-numbers from page (Ask r kind) = book-numbers page _ (ask-numbers (x.books page) from r kind)
  note-numbers from page (Clear n) = same-numbers _ (entry-aside sites m x page (on_clear n (x.entries page))).books
  note-numbers from page (Cleared n) = book-numbers page _ (cleared-numbers (x.books page) from n)
  note-numbers from page (Hand n kind to) = same-numbers _ (entry-aside sites m x page (on_hand m n kind to (x.entries page))).books
  note-numbers from page (Page n kind b) = same-numbers _ (entry-aside sites m x page (on_page n kind b (x.entries page))).books
  note-numbers from page (Confirm n) = book-numbers page _ (confirm-numbers (x.books page) from n)

  message-numbers : (from : ℕ) (msg : Message) → Goal (on_message sites m from msg x)
  message-numbers from (Of page note) = cond_both (x.purged page.seg) _ _ Goal (λ e. omega arith) (λ e. note-numbers from page note)
  message-numbers from (Call number op) = same-numbers _ (call-quiet sites m from number op x).books
  message-numbers from (Replies number reply) = same-numbers _ (reply-quiet number reply x).books
  message-numbers from (Purge id) =
      cond_both (is_attached x id) _ _ Goal (λ e. omega arith) (λ e. by-segment (id == q.seg))
    where
      by-segment : (b : Bool) → (if b then untouched_book m else x.books q).number ≤ (x.books q).number + 1
      by-segment true = omega arith
      by-segment false = omega arith
  message-numbers from (Purged id) = same-numbers _ (purged-quiet from id x).books

  step-numbers : (input : Input) → Goal (step sites m x input)
  step-numbers (Load a offset) = same-numbers _ (load-aside sites m x (right x.attachments a offset false)).books
  step-numbers (Store a offset byte) = same-numbers _ (store-aside sites m x (right x.attachments a offset true) byte).books
  step-numbers (Begin request) = same-numbers _ (begin-quiet sites m request x).books
  step-numbers (Deliver e) = cond_both (foreign sites m e) _ _ Goal (λ h. omega arith) (λ h. message-numbers e.from e.message)
  step-numbers Tick = omega arith
  step-numbers Restart = omega arith

some-same : (x y : Site) → Some x ≡ Some y → x ≡ y
some-same x y e = cc

module _ (o : Opening) where
  abbrev AllNumbers : World → Type 0
  AllNumbers w = (m : ℕ) (y : Site) (q : PageId) → slice_get w.sites m ≡ Some y → (y.books q).number ≤ length w.sent

  opened-numbers : (p : Opening) (s : ℕ) (q : PageId) → ((opened_site p s).books q).number ≤ 0
  opened-numbers (New n) s q = omega arith
  opened-numbers (Preset n pages) s q = omega arith
  opened-numbers (Framed n pages frames) s q = omega arith

  first-numbered : AllNumbers (begun o).world
  first-numbered s x q found =
      let within = slice_get_within (map (opened_site o) (range_with_len 0 (sites_of o))) s x found in
      let all = length-map-range_with_len (opened_site o) 0 (sites_of o) in
      let small : s < sites_of o = omega (arith, within, all) in
      subst (λ (k : Site). (k.books q).number ≤ 0) (some-same (opened_site o s) x (sym (slice_get-range (opened_site o) (sites_of o) s small) ∙ found)) (opened-numbers o s q)

  stepped-numbers : (w : World) (t : ℕ) (z : Site) (input : Input) → AllNumbers w → slice_get w.sites t ≡ Some z → (m : ℕ) (y : Site) (q : PageId)
      → slice_get (slice_set w.sites t (step (sites_of o) t z input).site) m ≡ Some y → (m ≡ t) ⊎ (m ≢ t) → (y.books q).number ≤ length (w.sent ++ (step (sites_of o) t z input).sent)
  stepped-numbers w t z input all found m y q at (inl here) =
      let mine : (step (sites_of o) t z input).site ≡ y = some-same (step (sites_of o) t z input).site y
      (sym (set-here w.sites t z (step (sites_of o) t z input).site found) ∙ (ap (slice_get (slice_set w.sites t (step (sites_of o) t z input).site)) (sym here) ∙ at)) in
      let longer = length-append w.sent (step (sites_of o) t z input).sent in
      let before = all t z q found in
      let now = step-numbers (sites_of o) t q z input in
      subst (λ (k : Site). (k.books q).number ≤ length (w.sent ++ (step (sites_of o) t z input).sent)) mine (omega (arith, longer, before, now))
  stepped-numbers w t z input all found m y q at (inr there) =
      let longer = length-append w.sent (step (sites_of o) t z input).sent in
      let before = all m y q (sym (set-there w.sites t m (step (sites_of o) t z input).site there) ∙ at) in
      omega (arith, longer, before)

  numbers-kept : Kept o (λ r. AllNumbers r.world)
  numbers-kept = record {
    first = first-numbered;
    steps = λ r gone t z input all shape small found honest m y q at. stepped-numbers r.world t z input all found m y q at (cases_eq m t);
    stays = λ r gone s answer all shape still. all;
  }

  -- so a number is left for the next one
  pub number-left : (events : List Event) (m : ℕ) (y : Site) (q : PageId) → slice_get (run o events).world.sites m ≡ Some y → is_full (run o events).world ≡ false → (y.books q).number ≡ greatest → ⊥
  number-left events m y q found free is =
      let low = (run-good o (λ r. AllNumbers r.world) numbers-kept events).holds m y q found in
      let few = ltb-false max_sent (length (run o events).world.sent) free in
      omega (arith, low, few, is)
