-- How one page moves when one site steps: what the site holds of it, and what it sends, in terms of the page's view.
use Rattle.std.proofs.Common.{◌≡◌, ◌≢◌, ℕ, ◌+◌, ◌*◌, ◌<◌, ◌≤◌, true, false, ◌==◌, List, [], length, slice_index, arith, refl, sym, ◌∙◌, ap}
use Rattle.std.proofs.lemmas.Bool.{and_parts}
use Rattle.std.proofs.lemmas.Bool.Decides.{nat_tests}
use Rattle.shm_place.specs.declared.page_id.PageId.{PageId}
use Rattle.shm_place.specs.Limits.{page_bytes}
use Rattle.shm_place.specs.Page.{manager_of, same_page}
use Rattle.shm_model.specs.declared.request_kind.Kind.{Kind}
use Rattle.shm_model.specs.declared.request_kind.Kind.TheVariants.{Write}
use Rattle.shm_model.specs.declared.call.Op.{Op}
use Rattle.shm_model.specs.declared.call.Reply.{Reply}
use Rattle.shm_model.specs.Entry.{Nil, Note, Ask, Clear, Cleared, Hand, Page, Confirm, seen}
use Rattle.shm_model.specs.Book.{untouched_book}
use Rattle.shm_model.specs.Message.{Envelope, Message, Of, Call, Replies, Purge, Purged}
use Rattle.shm_model.specs.Site.{Site, Step}
use Rattle.shm_model.specs.Memory.{last_store}
use Rattle.shm_model.specs.World.{Done, Opening}
use Rattle.shm_laws.proofs.Page.View.{View, Holds, Fits, InFlight, either}
use Rattle.shm_laws.proofs.Page.Orders.{Each, each-imp}

-- these bytes are what was stored last to the page of this index, where `last` tells that of each offset in the segment
pub record StoredLast (last : ℕ → ℕ) (index : ℕ) (b : List ℕ) : Type 0 where
  pub whole : length b ≡ page_bytes
  pub byte : (k : ℕ) → k < page_bytes → slice_index b k ≡ last (index * page_bytes + k)

abbrev pub now_of : Opening → PageId → List Done → List ℕ → Type 0
now_of o q account = StoredLast (λ offset. last_store o account q.seg offset) q.index

-- what a site keeps of the page is what its view says, unless the site purged it
pub record Local (sites s : ℕ) (q : PageId) (site : Site) (v : View) : Type 0 where
  pub entry : site.purged q.seg ≡ false → v.entries s ≡ site.entries q
  pub gone : site.purged q.seg ≡ true → site.entries q ≡ Nil 0
  pub book : manager_of sites q ≡ s → site.purged q.seg ≡ false → v.book ≡ site.books q
  pub elsewhere : manager_of sites q ≢ s → site.books q ≡ untouched_book s
  pub closed : site.purged q.seg ≡ true → site.books q ≡ untouched_book s

-- an envelope that is about the page fits
pub record EnvelopeFits (Now : List ℕ → Type 0) (q : PageId) (v : View) (e : Envelope) : Type 0 where
  pub fits : (note : Note) → e.message ≡ Of q note → Fits Now v e.from e.to note

-- the page as it is after the site's step
pub record Moves (Now Next : List ℕ → Type 0) (sites s : ℕ) (q : PageId) (v : View) (site : Site) (sent : List Envelope) : Type 0 where
  pub view : View
  pub local : Local sites s q site view
  pub others : (t : ℕ) → t ≢ s → view.entries t ≡ v.entries t
  pub book_stays : manager_of sites q ≢ s → view.book ≡ v.book
  pub holds : Holds Next view
  pub fits : (from to : ℕ) (note : Note) → Fits Now v from to note → Fits Next view from to note
  pub new : Each (EnvelopeFits Next q view) sent

abbrev pub StepMoves : (List ℕ → Type 0) → (List ℕ → Type 0) → ℕ → ℕ → PageId → View → Step → Type 0
StepMoves Now Next sites s q v st = Moves Now Next sites s q v st.site st.sent

-- a message that is about no page
pub data IsOffPage : Message → Type 0 where
  off_call : (n : ℕ) (op : Op) → IsOffPage (Call n op)
  off_reply : (n : ℕ) (reply : Reply) → IsOffPage (Replies n reply)
  off_purge : (id : ℕ) → IsOffPage (Purge id)
  off_purged : (id : ℕ) → IsOffPage (Purged id)

pub off-of : (m : Message) (p : PageId) (note : Note) → IsOffPage m → m ≡ Of p note → ⊥
off-of (Call n op) p note (off_call _ _) e = cc
off-of (Replies n reply) p note (off_reply _ _) e = cc
off-of (Purge id) p note (off_purge _) e = cc
off-of (Purged id) p note (off_purged _) e = cc
off-of (Of _ _) p note off e = elim off [ ]

pub off-fits : (Now : List ℕ → Type 0) (q : PageId) (v : View) (e : Envelope) → IsOffPage e.message → EnvelopeFits Now q v e
off-fits Now q v e off = record { fits = λ note is. absurd (off-of e.message q note off is) }

-- a site that keeps the page as it was
pub quiet-moves : (Now : List ℕ → Type 0) (sites s : ℕ) (q : PageId) (v : View) (old new : Site) (sent : List Envelope)
    → Holds Now v → Local sites s q old v → new.entries q ≡ old.entries q → new.books q ≡ old.books q → new.purged q.seg ≡ old.purged q.seg
    → Each (EnvelopeFits Now q v) sent → Moves Now Now sites s q v new sent
quiet-moves Now sites s q v old new sent h l entries books purged fits = record {
  view = v;
  local = record {
    entry = λ p. l.entry (sym purged ∙ p) ∙ sym entries;
    gone = λ p. entries ∙ l.gone (sym purged ∙ p);
    book = λ m p. l.book m (sym purged ∙ p) ∙ sym books;
    elsewhere = λ m. books ∙ l.elsewhere m;
    closed = λ p. books ∙ l.closed (sym purged ∙ p);
  };
  others = λ t other. refl;
  book_stays = λ m. refl;
  holds = h;
  fits = λ from to note f. f;
  new = fits;
}

-- one move after another, where the first sends and the second doesn't
pub then-moves : (Now Next : List ℕ → Type 0) (sites s : ℕ) (q : PageId) (v : View) (middle last : Site) (sent : List Envelope)
    → (m : Moves Now Next sites s q v middle sent) → Moves Next Next sites s q m.view last [] → Moves Now Next sites s q v last sent
then-moves Now Next sites s q v middle last sent m k = record {
  view = k.view;
  local = k.local;
  others = λ t other. k.others t other ∙ m.others t other;
  book_stays = λ other. k.book_stays other ∙ m.book_stays other;
  holds = k.holds;
  fits = λ from to note f. k.fits from to note (m.fits from to note f);
  new = each-imp (EnvelopeFits Next q m.view) (EnvelopeFits Next q k.view) sent (λ e (f : EnvelopeFits Next q m.view e). record { fits = λ note is. k.fits e.from e.to note (f.fits note is) }) m.new;
}

-- what is stored last may be said in other words
flight-map : (Now Next : List ℕ → Type 0) → ((b : List ℕ) → Now b → Next b) → (v : View) (n : ℕ) (kind : Kind) (to : ℕ) (b : List ℕ) → InFlight Now v n kind to b → InFlight Next v n kind to b
flight-map Now Next f v n kind to b g = record {
  runs = g.runs;
  number = g.number;
  other = g.other;
  met = g.met;
  now = f b g.now;
  unwritable = g.unwritable;
  unreadable = g.unreadable;
  all_met = g.all_met;
}

pub holds-map : (Now Next : List ℕ → Type 0) → ((b : List ℕ) → Now b → Next b) → (v : View) → Holds Now v → Holds Next v
holds-map Now Next f v h = record {
  met = h.met;
  owner = h.owner;
  copy_other = h.copy_other;
  copy = h.copy;
  alone = h.alone;
  now = λ s w. f _ (h.now s w);
  handed = λ s n to b e l. flight-map Now Next f v n Write to b (h.handed s n to b e l);
  writer = h.writer;
  owner_first = h.owner_first;
  copies_first = h.copies_first;
  nobody_else = h.nobody_else;
  owner_lent = h.owner_lent;
  cleared = h.cleared;
  bounded = h.bounded;
  owner_no_copy = h.owner_no_copy;
  kept = h.kept;
}

pub fits-map : (Now Next : List ℕ → Type 0) → ((b : List ℕ) → Now b → Next b) → (v : View) (from to : ℕ) (note : Note) → Fits Now v from to note → Fits Next v from to note
fits-map Now Next f v from to (Ask r kind) x = tt
fits-map Now Next f v from to (Clear n) x = x
fits-map Now Next f v from to (Cleared n) x = x
fits-map Now Next f v from to (Hand n kind q) x = x
fits-map Now Next f v from to (Page n kind b) x = either (λ (l : n ≤ seen (v.entries to)). l) (flight-map Now Next f v n kind to b) x
fits-map Now Next f v from to (Confirm n) x = x

pub moves-map : (Now Next : List ℕ → Type 0) (sites s : ℕ) (q : PageId) (v : View) (site : Site) (sent : List Envelope)
    → ((b : List ℕ) → Now b → Next b) → Moves Now Now sites s q v site sent → Moves Now Next sites s q v site sent
moves-map Now Next sites s q v site sent f m = record {
  view = m.view;
  local = m.local;
  others = m.others;
  book_stays = m.book_stays;
  holds = holds-map Now Next f m.view m.holds;
  fits = λ from to note x. fits-map Now Next f m.view from to note (m.fits from to note x);
  new = each-imp (EnvelopeFits Now q m.view) (EnvelopeFits Next q m.view) sent (λ e (x : EnvelopeFits Now q m.view e). record { fits = λ note is. fits-map Now Next f m.view e.from e.to note (x.fits note is) }) m.new;
}

-- pages with the same segment and index are the same
pub page-same : (p q : PageId) → same_page p q ≡ true → p ≡ q
page-same p q e =
    let parts = and_parts (p.seg == q.seg) (p.index == q.index) e in
    let seg : p.seg ≡ q.seg = grind (arith, nat_tests, parts.0) in
    let index : p.index ≡ q.index = grind (arith, nat_tests, parts.1) in
    pair-same p q seg index
  where
    pair-same : (p q : PageId) → p.seg ≡ q.seg → p.index ≡ q.index → p ≡ q
    pair-same p q e f =
        let made : ℕ → ℕ → PageId = (λ x y. record { seg = x; index = y }) in
        ap (λ x. made x p.index) e ∙ ap (λ y. made q.seg y) f

pub same-page : (q : PageId) → same_page q q ≡ true
same-page q = grind (arith, nat_tests)
