-- What a step of a site does to its requests: each Ask that it sends is for one that is pending then, and a new one has a number above
-- all that were given.
use Rattle.std.proofs.Common.{◌≡◌, ℕ, ◌<◌, ◌≤◌, ◌⊎◌, inl, inr, ◌+◌, ◌==◌, true, false, not, nat_lt, Option, Some, None, Result, Ok, Err, List, [], ◌∷◌, length, filter, map, arith, refl, sym, ◌∙◌, ap, subst, Contains}
use Rattle.std.proofs.lemmas.Bool.{cond_both}
use Rattle.std.specs.List.{flat_map, range_with_len}
use Rattle.shm_place.specs.declared.page_id.PageId.{PageId}
use Rattle.shm_place.specs.Page.{manager_of}
use Rattle.shm_model.specs.declared.request_kind.Kind.{Kind}
use Rattle.shm_model.specs.declared.request_kind.Kind.TheVariants.{Read, Write}
use Rattle.shm_model.specs.Entry.{Entry, Note, Ask, Clear, Cleared, Hand, Page, Confirm, Out, Nothing, ToManager, ToSite, on_clear, on_hand, on_page, readable, writable}
use Rattle.shm_model.specs.Book.{ClearTo, HandTo, Order, Outcome, Ignored, UsedUp, Taken, on_ask, on_cleared, on_confirm, orders}
use Rattle.shm_model.specs.Basics.{at_page, greatest}
use Rattle.shm_model.specs.Calls.{Outstanding}
use Rattle.shm_model.specs.Message.{Envelope, Input, Load, Store, Begin, Deliver, Tick, Restart, Message, Of, Call, Replies, Purge, Purged}
use Rattle.shm_model.specs.SegmentCalls.{purge_envelope}
use Rattle.shm_model.specs.Site.{Frames, Pending, Site, is_attached, Step}
use Rattle.shm_model.specs.Access.{Place, ask_for, asked, is_pending, load_if, put_pending, right, store_if}
use Rattle.shm_model.specs.Transfer.{arranged, drop_first, is_nothing, limited, on_note, order_envelope, sent_by, settle, to_book, to_entry}
use Rattle.shm_model.specs.Step.{ask_again, call_again, foreign, on_message, orders_again, purges_again, step, tick_envelopes}
use Rattle.shm_laws.proofs.Page.Moves.{off-of}
use Rattle.shm_laws.proofs.Page.Orders.{Each, each-imp}
use Rattle.shm_laws.proofs.Move.Steps.{each-append, each-flat, each-of}
use Rattle.shm_laws.proofs.Move.Calls.{IsQuiet, begin-quiet, call-quiet, purged-quiet, reply-quiet}
use Rattle.shm_progress.proofs.Ending.Books.{AsksNothing, OutAsksNothing, clear-falls, hand-falls, page-falls}
use Rattle.shm_progress.proofs.Purge.Answers.{contains-first, contains-later}
use Rattle.shm_progress.proofs.Request.Once.{Once, none-in, once-filter, once-put, once-settle, put-has}
use Rattle.shm_progress.proofs.Request.Pending.{filter-before, limited-pending, put-before, settle-before}

-- an envelope of this site that asks does so for one of these requests
abbrev pub AsksFor : ℕ → List Pending → Envelope → Type 0
AsksFor s ps e = (q : PageId) (r : ℕ) (kind : Kind) → e.message ≡ Of q (Ask r kind) → (e.from ≡ s) × Contains ps (record { page = q; request = r; kind = kind })

pub record Asking (s : ℕ) (x : Site) (st : Step) : Type 0 where
  pub once : Once x.pending → Once st.site.pending
  pub grows : x.requests ≤ st.site.requests
  pub before : (p : Pending) → Contains st.site.pending p → Contains x.pending p ⊎ ((x.requests < p.request) × (p.request ≤ st.site.requests))
  pub sent : Each (AsksFor s st.site.pending) st.sent

pub limited-requests : (frames : Option Frames) (x : Site) → (limited frames x).requests ≡ x.requests
limited-requests None x = refl
limited-requests (Some f) x = cond_both (nat_lt f.limit (length f.copies)) (drop_first f.copies f x) x (λ y. y.requests ≡ x.requests) (λ e. dropped-requests f.copies) (λ e. refl)
  where
    dropped-requests : (copies : List PageId) → (drop_first copies f x).requests ≡ x.requests
    dropped-requests [] = refl
    dropped-requests (p ∷ ps) = refl

module _ (s : ℕ) (ps : List Pending) where
  silent : (note : Note) (from to : ℕ) (page : PageId) → AsksNothing note → AsksFor s ps (record { from = from; to = to; message = Of page note })
  silent (Ask r kind) from to page n = elim n [ ]
  silent (Clear k) from to page n = λ q r kind e. cc
  silent (Cleared k) from to page n = λ q r kind e. cc
  silent (Hand k kind t) from to page n = λ q r kind e. cc
  silent (Page k kind b) from to page n = λ q r kind e. cc
  silent (Confirm k) from to page n = λ q r kind e. cc

  orders-silent : (page : PageId) (n : ℕ) (os : List Order) → Each (AsksFor s ps) (map (order_envelope s page n) os)
  orders-silent page n [] = tt
  orders-silent page n (ClearTo t ∷ os) = (λ q r kind e. cc, orders-silent page n os)
  orders-silent page n (HandTo owner to kind ∷ os) = (λ q r kind e. cc, orders-silent page n os)

  out-silent : (sites : ℕ) (page : PageId) (out : Out) → OutAsksNothing out → Each (AsksFor s ps) (sent_by sites s page out)
  out-silent sites page Nothing n = tt
  out-silent sites page (ToManager note) n = (silent note s (manager_of sites page) page n, tt)
  out-silent sites page (ToSite to note) n = (silent note s to page n, tt)

  again-asks : (sites : ℕ) (rs : List Pending) → ((p : Pending) → Contains rs p → Contains ps p) → Each (AsksFor s ps) (map (ask_again sites s) rs)
  again-asks sites [] all = tt
  again-asks sites (p ∷ rs) all = (λ q r kind e. (refl, subst (Contains ps) (same q r kind e) (all p (contains-first p rs))), again-asks sites rs (λ o here. all o (contains-later p o rs here)))
    where
      same : (q : PageId) (r : ℕ) (kind : Kind) → Of p.page (Ask p.request p.kind) ≡ Of q (Ask r kind) → p ≡ record { page = q; request = r; kind = kind }
      same q r kind e =
          let page : p.page ≡ q = cc in
          let request : p.request ≡ r = cc in
          let is : p.kind ≡ kind = cc in
          let made : PageId → ℕ → Kind → Pending = (λ a b c. record { page = a; request = b; kind = c }) in
          ap (λ a. made a p.request p.kind) page ∙ (ap (λ b. made q b p.kind) request ∙ ap (λ c. made q r c) is)

  tick-asks-for : (sites : ℕ) (x : Site) → x.pending ≡ ps → Each (AsksFor s ps) (tick_envelopes sites s x)
  tick-asks-for sites x is =
      each-append (AsksFor s ps) (map (ask_again sites s) x.pending) _ (again-asks sites x.pending (λ p here. subst (λ l. Contains l p) is here))
      (each-append (AsksFor s ps) (flat_map (orders_again s x) x.booked) _ (each-flat (AsksFor s ps) (orders_again s x) x.booked (λ page. orders-silent page (x.books page).number (orders (x.books page))))
      (each-append (AsksFor s ps) (call_again sites s x.outstanding) _ (by-call x.outstanding)
      (each-flat (AsksFor s ps) (purges_again sites s x) x.table (λ g. each-of (AsksFor s ps) (purge_envelope s g.id) (filter (x.missing g.id) (range_with_len 0 sites)) (λ t q r kind e. cc)))))
    where
      by-call : (o : Option Outstanding) → Each (AsksFor s ps) (call_again sites s o)
      by-call None = tt
      by-call (Some o) = (λ q r kind e. cc, tt)

module _ (sites s : ℕ) (x : Site) where
  abbrev Goal : Step → Type 0
  Goal st = Asking s x st

  same-asking : (st : Step) → st.site.pending ≡ x.pending → st.site.requests ≡ x.requests → Each (AsksFor s x.pending) st.sent → Goal st
  same-asking st pending requests sent = record {
    once = λ o. subst Once (sym pending) o;
    grows = let is = requests in omega (arith, is);
    before = λ p here. inl (subst (λ l. Contains l p) pending here);
    sent = subst (λ l. Each (AsksFor s l) st.sent) (sym pending) sent;
  }

  still-asking : (st : Step) → st.site.pending ≡ x.pending → st.site.requests ≡ x.requests → st.sent ≡ [] → Goal st
  still-asking st pending requests sent = same-asking st pending requests (subst (Each (AsksFor s x.pending)) (sym sent) tt)

  quiet-asking : (st : Step) → IsQuiet x st → Goal st
  quiet-asking st q = same-asking st q.pending q.requests (each-imp _ (AsksFor s x.pending) st.sent (λ e off p r kind is. absurd (off-of e.message p (Ask r kind) off is)) q.sent)

  asked-asking : (kind : Kind) (page : PageId) → Goal (asked sites s kind page x)
  asked-asking kind page =
      record {
        once = λ o. once-put new x.pending o;
        grows = omega arith;
        before = λ p here. by-put p (put-before new x.pending p here);
        sent = (λ q r k e. (refl, subst (Contains (put_pending new x.pending)) (same q r k e) (put-has new x.pending)), tt);
      }
    where
      new : Pending
      new = record { page = page; request = x.requests + 1; kind = kind }

      by-put : (p : Pending) → Contains x.pending p ⊎ (new ≡ p) → Contains x.pending p ⊎ ((x.requests < p.request) × (p.request ≤ x.requests + 1))
      by-put p (inl was) = inl was
      by-put p (inr now) = let is : x.requests + 1 ≡ p.request = ap (λ (t : Pending). t.request) now in inr (omega (arith, is), omega (arith, is))

      same : (q : PageId) (r : ℕ) (k : Kind) → Of page (Ask (x.requests + 1) kind) ≡ Of q (Ask r k) → new ≡ record { page = q; request = r; kind = k }
      same q r k e = cc

  ask_for-asking : (kind : Kind) (page : PageId) → Goal (ask_for sites s kind page x)
  ask_for-asking kind page =
      cond_both (is_pending kind page x.pending) _ _ Goal (λ e. still-asking _ refl refl refl)
      (λ e. cond_both (x.requests == greatest) _ _ Goal (λ f. still-asking _ refl refl refl) (λ f. asked-asking kind page))

  load-asking : (place : Result Place ℕ) → Goal (load_if sites s place x)
  load-asking (Err refusal) = still-asking _ refl refl refl
  load-asking (Ok place) = cond_both (readable (x.entries place.page)) _ _ Goal (λ e. still-asking _ refl refl refl) (λ e. ask_for-asking Read place.page)

  store-asking : (place : Result Place ℕ) (byte : ℕ) → Goal (store_if sites s place byte x)
  store-asking (Err refusal) byte = still-asking _ refl refl refl
  store-asking (Ok place) byte = cond_both (writable (x.entries place.page)) _ _ Goal (λ e. still-asking _ refl refl refl) (λ e. ask_for-asking Write place.page)

  entry-asking : (page : PageId) (row : Entry × Out) → OutAsksNothing row.1 → Goal (to_entry sites s page row x)
  entry-asking page (e, out) n =
      cond_both (is_nothing out) _ _ Goal (λ h. still-asking _ refl refl refl)
      (λ h. let y : Site = record x { entries = at_page x.entries page e; frames = arranged page (x.entries page) e x.frames; pending = settle (readable e) (writable e) page x.pending } in
      let pending = limited-pending (arranged page (x.entries page) e x.frames) y in
      let requests = limited-requests (arranged page (x.entries page) e x.frames) y in
      record {
        once = λ o. subst Once (sym pending) (once-settle (readable e) (writable e) page x.pending o);
        grows = omega (arith, requests);
        before = λ p here. inl (settle-before (readable e) (writable e) page x.pending p (subst (λ l. Contains l p) pending here));
        sent = out-silent s _ sites page out n;
      })

  book-asking : (page : PageId) (outcome : Outcome) → Goal (to_book s page outcome x)
  book-asking page Ignored = still-asking _ refl refl refl
  book-asking page UsedUp = still-asking _ refl refl refl
  book-asking page (Taken b os) = same-asking _ refl refl (orders-silent s x.pending page b.number os)

  note-asking : (from : ℕ) (page : PageId) (note : Note) → Goal (on_note sites s from page note x)
  note-asking from page (Ask r kind) = book-asking page (on_ask from r kind (x.books page))
  note-asking from page (Clear n) = entry-asking page (on_clear n (x.entries page)) (clear-falls n (x.entries page)).asks_nothing
  note-asking from page (Cleared n) = book-asking page (on_cleared from n (x.books page))
  note-asking from page (Hand n kind to) = entry-asking page (on_hand s n kind to (x.entries page)) (hand-falls s n kind to (x.entries page)).asks_nothing
  note-asking from page (Page n kind b) = entry-asking page (on_page n kind b (x.entries page)) (page-falls n kind b (x.entries page)).asks_nothing
  note-asking from page (Confirm n) = book-asking page (on_confirm from n (x.books page))

  message-asking : (from : ℕ) (m : Message) → Goal (on_message sites s from m x)
  message-asking from (Of page note) = cond_both (x.purged page.seg) _ _ Goal (λ e. still-asking _ refl refl refl) (λ e. note-asking from page note)
  message-asking from (Call number op) = quiet-asking _ (call-quiet sites s from number op x)
  message-asking from (Replies number reply) = quiet-asking _ (reply-quiet number reply x)
  message-asking from (Purge id) =
      cond_both (is_attached x id) _ _ Goal (λ e. still-asking _ refl refl refl)
      (λ e. record {
        once = λ o. once-filter (λ (p : Pending). not (id == p.page.seg)) x.pending o;
        grows = omega arith;
        before = λ p here. inl (filter-before (λ (p : Pending). not (id == p.page.seg)) x.pending p here);
        sent = (λ q r kind e. cc, tt);
      })
  message-asking from (Purged id) = quiet-asking _ (purged-quiet from id x)

  pub step-asking : (input : Input) → Goal (step sites s x input)
  step-asking (Load a offset) = load-asking (right x.attachments a offset false)
  step-asking (Store a offset byte) = store-asking (right x.attachments a offset true) byte
  step-asking (Begin request) = quiet-asking _ (begin-quiet sites s request x)
  step-asking (Deliver e) = cond_both (foreign sites s e) _ _ Goal (λ h. still-asking _ refl refl refl) (λ h. message-asking e.from e.message)
  step-asking Tick = same-asking _ refl refl (tick-asks-for s x.pending sites x refl)
  step-asking Restart = record { once = λ o. tt; grows = omega arith; before = λ p here. absurd (none-in p here); sent = tt }
