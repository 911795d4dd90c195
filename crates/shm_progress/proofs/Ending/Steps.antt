-- What one delivery costs: the step of a site to which an envelope is handed over.
use Rattle.std.proofs.Common.{◌≡◌, ℕ, ◌+◌, ◌*◌, ◌<◌, ◌≤◌, Bool, true, false, ◌==◌, ◌&&◌, not, if◌then◌else◌, Option, Some, None, List, [], ◌∷◌, map, length, nat_lt, sum_by, arith, refl, sym, ◌∙◌, ap, subst, Contains}
use Rattle.std.specs.List.{range_with_len}
use Rattle.std.proofs.lemmas.Bool.Decides.{nat_tests}
use Rattle.std.proofs.lemmas.Bool.{and_parts, and_from, cond_both, lt-ltb, le-ltb, ltb-true, not-true, not_from_false, and_right}
use Rattle.std.proofs.lemmas.List.Sums.{sum_by-cons}
use Rattle.std.proofs.lemmas.List.FromFn.{length-range_with_len}
use Rattle.shm_place.specs.declared.page_id.PageId.{PageId}
use Rattle.shm_place.specs.Page.{same_page}
use Rattle.shm_model.specs.declared.answer.Answer.{Answer}
use Rattle.shm_model.specs.declared.call.Op.{Op}
use Rattle.shm_model.specs.declared.call.Op.TheVariants.{Get, Attach, Detach, Remove, Set, Stat}
use Rattle.shm_model.specs.declared.call.Reply.{Reply}
use Rattle.shm_model.specs.declared.call.Reply.TheVariants.{Id, Attached as AttachedReply, Ok as OkReply, Stat as StatReply, Refused as RefusedReply}
use Rattle.shm_model.specs.declared.request_kind.Kind.{Kind}
use Rattle.shm_model.specs.Entry.{Entry, Note, Ask, Clear, Cleared, Hand, Page, Confirm, Out, Nothing, ToManager, ToSite, readable, writable}
use Rattle.shm_model.specs.Book.{Book, Order, ClearTo, HandTo, Outcome, Ignored, UsedUp, Taken, untouched_book}
use Rattle.shm_model.specs.Basics.{at, at_page}
use Rattle.shm_model.specs.Kernel.{Called, call, destroyed_by}
use Rattle.shm_model.specs.Message.{Envelope, Message, Of, Call, Replies, Purge, Purged}
use Rattle.shm_model.specs.Calls.{Again, Attachment, Fresh, Freshness, Old, Outstanding, fits, freshness}
use Rattle.shm_model.specs.Site.{Frames, Site, is_attached, least_free, Step, still}
use Rattle.shm_model.specs.Transfer.{arranged, drop_first, is_nothing, limited, on_note, order_envelope, sent_by, settle, to_book, to_entry, with_entry}
use Rattle.shm_model.specs.SegmentCalls.{attached_at, executed, on_call_as, on_purge, on_reply_to, purge_envelope, purged_site, reply_counts}
use Rattle.shm_model.specs.Step.{deliver, foreign, on_message}
use Rattle.shm_laws.proofs.Page.Orders.{Each}
use Rattle.shm_laws.proofs.Page.Moves.{page-same}
use Rattle.shm_laws.proofs.Move.Transfer.{at-page-here}
use Rattle.shm_laws.proofs.Move.Calls.{IsQuiet, call-quiet, reply-quiet}
use Rattle.shm_progress.specs.Deliveries.{may_serve, may_serve_message, message_deliveries, note_deliveries, transaction_deliveries}
use Rattle.shm_progress.proofs.Ending.Books.{AllAsked, AsksNothing, BookFalls, goes_on, starts, OutAsksNothing, RowFalls, all_deliveries, ask-falls, clear-falls, cleared-falls, confirm-falls, hand-falls, order_deliveries, out_deliveries, page-falls}

-- no manager may serve it
abbrev pub NoAsk : Envelope → Type 0
NoAsk e = (manager : Site) → may_serve_message manager e.from e.message ≡ false

asks-nothing : (note : Note) (from : ℕ) (page : PageId) (manager : Site) → AsksNothing note → may_serve manager from page note ≡ false
asks-nothing (Ask r kind) from page manager n = elim n [ ]
asks-nothing (Clear k) from page manager n = refl
asks-nothing (Cleared k) from page manager n = refl
asks-nothing (Hand k kind to) from page manager n = refl
asks-nothing (Page k kind b) from page manager n = refl
asks-nothing (Confirm k) from page manager n = refl

pub limited-books : (frames : Option Frames) (x : Site) → ((limited frames x).books ≡ x.books) × ((limited frames x).purged ≡ x.purged) × ((limited frames x).booked ≡ x.booked)
limited-books None x = (refl, refl, refl)
limited-books (Some f) x =
    cond_both (nat_lt f.limit (length f.copies)) (drop_first f.copies f x) x (λ y. (y.books ≡ x.books) × (y.purged ≡ x.purged) × (y.booked ≡ x.booked)) (λ e. dropped-books f.copies f x) (λ e. (refl, refl, refl))
  where
    dropped-books : (copies : List PageId) (f : Frames) (x : Site) → ((drop_first copies f x).books ≡ x.books) × ((drop_first copies f x).purged ≡ x.purged) × ((drop_first copies f x).booked ≡ x.booked)
    dropped-books [] f x = (refl, refl, refl)
    dropped-books (p ∷ ps) f x = (refl, refl, refl)

pub some-delivery : (sites : ℕ) (m : Message) → 0 < message_deliveries sites m
some-delivery sites (Of page (Ask r kind)) = omega arith
some-delivery sites (Of page (Clear n)) = omega arith
some-delivery sites (Of page (Cleared n)) = omega arith
some-delivery sites (Of page (Hand n kind to)) = omega arith
some-delivery sites (Of page (Page n kind b)) = omega arith
some-delivery sites (Of page (Confirm n)) = omega arith
some-delivery sites (Call number op) = omega arith
some-delivery sites (Replies number reply) = omega arith
some-delivery sites (Purge id) = omega arith
some-delivery sites (Purged id) = omega arith

module _ (sites s : ℕ) (all : List Envelope) (x : Site) where
  abbrev pub deliveries : List Envelope → ℕ
  deliveries sent = sum_by (λ (e : Envelope). message_deliveries sites e.message) sent

  -- what is sent comes to less than what was handed over, or a request of those that were sent is served for good
  pub data Cost (y : Site) (sent : List Envelope) (left : ℕ) : Type 0 where
    cheap : deliveries sent < left → Cost y sent left
    serves : (a : Envelope) → Contains all a → a.to ≡ s → may_serve_message x a.from a.message ≡ true → may_serve_message y a.from a.message ≡ false
        → deliveries sent < left + transaction_deliveries → Cost y sent left

  pub record DeliveryFalls (left : ℕ) (st : Step) : Type 0 where
    pub sent : Each NoAsk st.sent
    pub kept : (from : ℕ) (page : PageId) (note : Note) → may_serve st.site from page note ≡ true → may_serve x from page note ≡ true
    pub cost : Cost st.site st.sent left

  still-falls : (left : ℕ) (answer : Answer) → 0 < left → DeliveryFalls left (still answer x)
  still-falls left answer l = record { sent = tt; kept = λ from page note h. h; cost = cheap l }

  -- where a page's book isn't purged it was not, and has served no less
  kept-by : (y : Site) → ((page : PageId) (from : ℕ) → y.purged page.seg ≡ false → (x.purged page.seg ≡ false) × ((x.books page).served from ≤ (y.books page).served from))
      → (from : ℕ) (page : PageId) (note : Note) → may_serve y from page note ≡ true → may_serve x from page note ≡ true
  kept-by y more from page (Ask r kind) h =
      let parts = and_parts (not (y.purged page.seg)) (nat_lt ((y.books page).served from) r) h in
      let before = more page from (not-true (y.purged page.seg) parts.0) in
      let below = ltb-true ((y.books page).served from) r parts.1 in
      let less = before.1 in
      and_from (not (x.purged page.seg)) (nat_lt ((x.books page).served from) r) (not_from_false (x.purged page.seg) before.0)
      (lt-ltb ((x.books page).served from) r (omega (arith, below, less)))
  kept-by y more from page (Clear n) h = h
  kept-by y more from page (Cleared n) h = h
  kept-by y more from page (Hand n kind to) h = h
  kept-by y more from page (Page n kind b) h = h
  kept-by y more from page (Confirm n) h = h

  kept-same : (y : Site) → y.books ≡ x.books → y.purged ≡ x.purged
      → (from : ℕ) (page : PageId) (note : Note) → may_serve y from page note ≡ true → may_serve x from page note ≡ true
  kept-same y b p =
      kept-by y (λ page from h. (ap (λ (f : ℕ → Bool). f page.seg) (sym p) ∙ h, subst (λ (f : PageId → Book). (x.books page).served from ≤ (f page).served from) (sym b) (omega arith)))

  quiet-falls : (left : ℕ) (st : Step) → IsQuiet x st → Each NoAsk st.sent → deliveries st.sent < left → DeliveryFalls left st
  quiet-falls left st q sent l = record { sent = sent; kept = kept-same st.site q.books q.purged; cost = cheap l }

  -- notes to an entry
  sent-falls : (left : ℕ) (page : PageId) (out : Out) → OutAsksNothing out → out_deliveries out < left
      → (Each NoAsk (sent_by sites s page out)) × (deliveries (sent_by sites s page out) < left)
  sent-falls left page Nothing n l = (tt, l)
  sent-falls left page (ToManager note) n l = ((λ m. asks-nothing note s page m n, tt), omega arith)
  sent-falls left page (ToSite to note) n l = ((λ m. asks-nothing note s page m n, tt), omega arith)

  entry-falls : (left : ℕ) (page : PageId) (row : Entry × Out) → 0 < left → RowFalls left row → DeliveryFalls left (to_entry sites s page row x)
  entry-falls left page (e, out) l f =
      cond_both (is_nothing out) _ _ (DeliveryFalls left) (λ h. still-falls left _ l)
      (λ h. let parts = sent-falls left page out f.asks_nothing f.less in
      let books = limited-books (arranged page (x.entries page) e x.frames)
      (record x { entries = at_page x.entries page e; frames = arranged page (x.entries page) e x.frames; pending = settle (readable e) (writable e) page x.pending }) in
      record { sent = parts.0; kept = kept-same (with_entry page e x) books.0 books.1; cost = cheap parts.1 })

  -- notes to a book
  orders-sent : (page : PageId) (n : ℕ) (os : List Order) → deliveries (map (order_envelope s page n) os) ≡ all_deliveries os
  orders-sent page n [] = refl
  orders-sent page n (ClearTo t ∷ os) =
      let here = sum_by-cons (λ (e : Envelope). message_deliveries sites e.message) (order_envelope s page n (ClearTo t)) (map (order_envelope s page n) os) in
      let there = sum_by-cons order_deliveries (ClearTo t) os in
      let rest = orders-sent page n os in
      omega (arith, here, there, rest)
  orders-sent page n (HandTo owner to kind ∷ os) =
      let here = sum_by-cons (λ (e : Envelope). message_deliveries sites e.message) (order_envelope s page n (HandTo owner to kind)) (map (order_envelope s page n) os) in
      let there = sum_by-cons order_deliveries (HandTo owner to kind) os in
      let rest = orders-sent page n os in
      omega (arith, here, there, rest)

  orders-ask-nothing : (page : PageId) (n : ℕ) (os : List Order) → Each NoAsk (map (order_envelope s page n) os)
  orders-ask-nothing page n [] = tt
  orders-ask-nothing page n (ClearTo t ∷ os) = (λ m. refl, orders-ask-nothing page n os)
  orders-ask-nothing page n (HandTo owner to kind ∷ os) = (λ m. refl, orders-ask-nothing page n os)

  abbrev pub Asked : PageId → ℕ → ℕ → Kind → Type 0
  Asked page from request kind = Contains all (record { from = from; to = s; message = Of page (Ask request kind) })

  served-more : (page : PageId) (b : Book) → ((from : ℕ) → (x.books page).served from ≤ b.served from) → (q : PageId) (from : ℕ)
      → (x.books q).served from ≤ (at_page x.books page b q).served from
  served-more page b more q from =
      cond_both (same_page page q) b (x.books q) (λ (y : Book). (x.books q).served from ≤ y.served from)
      (λ e. subst (λ (p : PageId). (x.books p).served from ≤ b.served from) (page-same page q e) (more from)) (λ e. omega arith)

  at-below : (f : ℕ → ℕ) (k v j : ℕ) → f k < v → f j ≤ at f k v j
  at-below f k v j l = cond_both (k == j) v (f j) (λ y. f j ≤ y) (λ e. let same : k ≡ j = grind (arith, nat_tests) in let eq : f k ≡ f j = ap f same in omega (arith, eq, l)) (λ e. omega arith)

  book-falls : (left : ℕ) (page : PageId) (outcome : Outcome) → 0 < left → x.purged page.seg ≡ false → BookFalls (Asked page) (x.books page) left outcome
      → DeliveryFalls left (to_book s page outcome x)
  book-falls left page Ignored l open_here f = still-falls left _ l
  book-falls left page UsedUp l open_here f = still-falls left _ l
  book-falls left page (Taken _ _) l open_here (goes_on b os same less) = record {
    sent = orders-ask-nothing page b.number os;
    kept = kept-by (to_book s page (Taken b os) x).site (λ q from h. (h, served-more page b (λ t. subst (λ (f : ℕ → ℕ). (x.books page).served t ≤ f t) (sym same) (omega arith)) q from));
    cost = cheap (subst (λ n. n < left) (sym (orders-sent page b.number os)) less);
  }
  book-falls left page (Taken _ _) l open_here (starts b os from request kind asked above same few) = record {
    sent = orders-ask-nothing page b.number os;
    kept = kept-by (to_book s page (Taken b os) x).site (λ q t h. (h, served-more page b (λ u. subst (λ (f : ℕ → ℕ). (x.books page).served u ≤ f u) (sym same) (at-below (x.books page).served from request u above)) q t));
    cost = serves (record { from = from; to = s; message = Of page (Ask request kind) }) asked refl
        (and_from (not (x.purged page.seg)) (nat_lt ((x.books page).served from) request) (not_from_false (x.purged page.seg) open_here) (lt-ltb ((x.books page).served from) request above))
        (and_right (not (x.purged page.seg)) _ (subst (λ (c : Book). nat_lt (c.served from) request ≡ false) (sym (at-page-here x.books page b))
        (subst (λ (f : ℕ → ℕ). nat_lt (f from) request ≡ false) (sym same) (served-now (x.books page).served))))
        (subst (λ n. n < left + transaction_deliveries) (sym (orders-sent page b.number os)) (omega arith));
  }
    where
      served-now : (f : ℕ → ℕ) → nat_lt (at f from request from) request ≡ false
      served-now f = cond_both (from == from) request (f from) (λ y. nat_lt y request ≡ false) (λ e. le-ltb request request (omega arith)) (λ e. grind (arith, nat_tests))

  -- what waits was asked
  pub record WaitingAsked : Type 0 where
    pub asked : (page : PageId) → AllAsked (Asked page) (x.books page).waiting

  note-falls : (from : ℕ) (page : PageId) (note : Note) → x.purged page.seg ≡ false → WaitingAsked → Contains all (record { from = from; to = s; message = Of page note })
      → DeliveryFalls (note_deliveries note) (on_note sites s from page note x)
  note-falls from page (Ask r kind) open_here waits sent = book-falls 1 page _ (omega arith) open_here (ask-falls (Asked page) (x.books page) from r kind sent)
  note-falls from page (Clear n) open_here waits sent = entry-falls 5 page _ (omega arith) (clear-falls n (x.entries page))
  note-falls from page (Cleared n) open_here waits sent = book-falls 4 page _ (omega arith) open_here (cleared-falls (Asked page) (x.books page) from n)
  note-falls from page (Hand n kind to) open_here waits sent = entry-falls 3 page _ (omega arith) (hand-falls s n kind to (x.entries page))
  note-falls from page (Page n kind b) open_here waits sent = entry-falls 2 page _ (omega arith) (page-falls n kind b (x.entries page))
  note-falls from page (Confirm n) open_here waits sent = book-falls 1 page _ (omega arith) open_here (confirm-falls (Asked page) (x.books page) from n (waits.asked page))

  -- segment calls
  purges-sent : (id : ℕ) (to : List ℕ) → deliveries (map (purge_envelope s id) to) ≡ 2 * length to
  purges-sent id [] = omega arith
  purges-sent id (t ∷ ts) =
      let here = sum_by-cons (λ (e : Envelope). message_deliveries sites e.message) (purge_envelope s id t) (map (purge_envelope s id) ts) in
      let rest = purges-sent id ts in
      omega (arith, here, rest)

  purges-ask-nothing : (id : ℕ) (to : List ℕ) → Each NoAsk (map (purge_envelope s id) to)
  purges-ask-nothing id [] = tt
  purges-ask-nothing id (t ∷ ts) = (λ m. refl, purges-ask-nothing id ts)

  executed-sends : (from number : ℕ) (done : Called) (gone : Option ℕ)
      → (Each NoAsk (executed sites s from number done gone x).sent) × (deliveries (executed sites s from number done gone x).sent < 2 + 2 * sites)
  executed-sends from number done None = ((λ m. refl, tt), omega arith)
  executed-sends from number done (Some id) =
      let here = sum_by-cons (λ (e : Envelope). message_deliveries sites e.message) (record { from = s; to = from; message = Replies number done.reply }) (map (purge_envelope s id) (range_with_len 0 sites)) in
      let rest = purges-sent id (range_with_len 0 sites) in
      let many = length-range_with_len 0 sites in
      ((λ m. refl, purges-ask-nothing id (range_with_len 0 sites)), omega (arith, here, rest, many))

  call-sends : (f : Freshness) (from number : ℕ) (op : Op)
      → (Each NoAsk (on_call_as f sites s from number op x).sent) × (deliveries (on_call_as f sites s from number op x).sent < 2 + 2 * sites)
  call-sends Fresh from number op = executed-sends from number (call sites s op x.table) (destroyed_by op x.table (call sites s op x.table).segments)
  call-sends (Again reply) from number op = ((λ m. refl, tt), omega arith)
  call-sends Old from number op = (tt, omega arith)

  reply-silent : (found : Option Outstanding) (number : ℕ) (reply : Reply) → (on_reply_to found number reply x).sent ≡ []
  reply-silent None number reply = refl
  reply-silent (Some o) number reply =
      cond_both ((number == o.number) && fits o.op reply) _ _ IsSilent (λ e. counts-silent o.op reply) (λ e. refl)
    where
      IsSilent : Step → Type 0
      IsSilent st = st.sent ≡ []

      attached-silent : (at : Option ℕ) (r : Reply) (t : Attachment) → (attached_at at number r t x).sent ≡ []
      attached-silent None r t = refl
      attached-silent (Some a) r t = refl

      counts-silent : (op : Op) (r : Reply) → (reply_counts number op r x).sent ≡ []
      counts-silent (Attach cred id ro) (AttachedReply a) = cond_both (x.purged id) _ _ IsSilent (λ e. refl) (λ e. attached-silent (least_free x.attachments) (AttachedReply a) _)
      counts-silent (Attach cred id ro) (Id i) = refl
      counts-silent (Attach cred id ro) OkReply = refl
      counts-silent (Attach cred id ro) (StatReply t) = refl
      counts-silent (Attach cred id ro) (RefusedReply e) = refl
      counts-silent (Get cred key size mode flags) r = refl
      counts-silent (Detach id) r = refl
      counts-silent (Remove cred id) r = refl
      counts-silent (Set cred id uid gid mode) r = refl
      counts-silent (Stat cred id) r = refl

  purged-if : (page : PageId) (from : ℕ) (same : Bool) → (if same then true else x.purged page.seg) ≡ false
      → (x.purged page.seg ≡ false) × ((x.books page).served from ≤ (if same then untouched_book s else x.books page).served from)
  purged-if page from true h = cc
  purged-if page from false h = (h, omega arith)

  purge-falls : (id : ℕ) → DeliveryFalls 2 (on_purge sites s id x)
  purge-falls id =
      cond_both (is_attached x id) _ _ (DeliveryFalls 2) (λ e. still-falls 2 _ (omega arith))
      (λ e. record { sent = (λ m. refl, tt); kept = kept-by (purged_site s id x) (λ page from h. purged-if page from (id == page.seg) h); cost = cheap (omega arith) })

  message-falls : (from : ℕ) (m : Message) → WaitingAsked → Contains all (record { from = from; to = s; message = m }) → DeliveryFalls (message_deliveries sites m) (on_message sites s from m x)
  message-falls from (Of page note) waits sent =
      cond_both (x.purged page.seg) _ _ (DeliveryFalls (note_deliveries note)) (λ e. still-falls _ _ (some-delivery sites (Of page note))) (λ e. note-falls from page note e waits sent)
  message-falls from (Call number op) waits sent =
      let sends = call-sends (freshness (x.kept from) number) from number op in quiet-falls (2 + 2 * sites) _ (call-quiet sites s from number op x) sends.0 sends.1
  message-falls from (Replies number reply) waits sent =
      let none = reply-silent x.outstanding number reply in
      quiet-falls 1 _ (reply-quiet number reply x) (subst (Each NoAsk) (sym none) tt) (subst (λ es. deliveries es < 1) (sym none) (omega arith))
  message-falls from (Purge id) waits sent = purge-falls id
  message-falls from (Purged id) waits sent =
      cond_both (x.missing id from) _ _ (DeliveryFalls 1) (λ e. record { sent = tt; kept = kept-same (record x { missing = at x.missing id (at (x.missing id) from false) }) refl refl; cost = cheap (omega arith) }) (λ e. still-falls 1 _ (omega arith))

  pub deliver-falls : (e : Envelope) → WaitingAsked → Contains all e → e.to ≡ s → DeliveryFalls (message_deliveries sites e.message) (deliver sites s e x)
  deliver-falls e waits sent here =
      cond_both (foreign sites s e) _ _ (DeliveryFalls (message_deliveries sites e.message)) (λ h. still-falls _ _ (some-delivery sites e.message))
      (λ h. message-falls e.from e.message waits (subst (λ t. Contains all (record { from = e.from; to = t; message = e.message })) here sent))
