-- What holds of the managers' books, and is kept by each row of their table, holds in every run.
use Rattle.std.proofs.Common.{◌≡◌, ◌≢◌, ℕ, ◌<◌, ◌⊎◌, inl, inr, Bool, true, false, ◌==◌, Some, Result, Ok, Err, List, [], ◌++◌, map, slice_get, slice_set, arith, refl, sym, ◌∙◌, subst, Contains}
use Rattle.std.specs.List.{range_with_len}
use Rattle.std.proofs.lemmas.Bool.{cases_eq, cond_both}
use Rattle.std.proofs.lemmas.Option.{slice_get_within}
use Rattle.std.proofs.lemmas.List.FromFn.{length-map-range_with_len}
use Rattle.shm_place.specs.declared.page_id.PageId.{PageId}
use Rattle.shm_place.specs.Page.{same_page}
use Rattle.shm_model.specs.declared.request_kind.Kind.{Kind}
use Rattle.shm_model.specs.declared.request_kind.Kind.TheVariants.{Read, Write}
use Rattle.shm_model.specs.declared.event.Event.{Event}
use Rattle.shm_model.specs.Entry.{Entry, Note, Ask, Clear, Cleared, Hand, Page, Confirm, Out, on_clear, on_hand, on_page, readable, writable}
use Rattle.shm_model.specs.Book.{Book, Outcome, Ignored, UsedUp, Taken, on_ask, on_cleared, on_confirm, untouched_book, without_volatile}
use Rattle.shm_model.specs.Basics.{at_page, greatest}
use Rattle.shm_model.specs.Message.{Envelope, Input, Load, Store, Begin, Deliver, Tick, Restart, Message, Of, Call, Replies, Purge, Purged}
use Rattle.shm_model.specs.Site.{Site, is_attached, Step}
use Rattle.shm_model.specs.Access.{Place, ask_for, is_pending, load_if, right, store_if}
use Rattle.shm_model.specs.Transfer.{arranged, is_nothing, on_note, settle, to_book, to_entry, with_entry}
use Rattle.shm_model.specs.SegmentCalls.{begin, on_call, on_purged, on_reply}
use Rattle.shm_model.specs.Step.{foreign, on_message, step}
use Rattle.shm_model.specs.World.{Framed, New, Opening, Preset, Run, World, begun, opened_site, run, sites_of, stepped}
use Rattle.shm_laws.proofs.Run.Induction.{IsHonest, Kept, Shape, run-good}
use Rattle.shm_laws.proofs.Run.GoesOn.{slice_get-range}
use Rattle.shm_laws.proofs.Page.Moves.{page-same}
use Rattle.shm_laws.proofs.Sound.{set-here, set-there}
use Rattle.shm_laws.proofs.Move.Calls.{begin-quiet, call-quiet, purged-quiet, reply-quiet}
use Rattle.shm_progress.proofs.Ending.Steps.{limited-books}

abbrev pub OutcomeHolds : (Book → Type 0) → Outcome → Type 0
OutcomeHolds P Ignored = Unit {0}
OutcomeHolds P UsedUp = Unit {0}
OutcomeHolds P (Taken b os) = P b

-- an untouched book has it, and each row and a restart keep it
pub record BookRule (B : PageId → Book → Type 0) (sites s : ℕ) (sent : List Envelope) : Type 0 where
  pub fresh : (q : PageId) → B q (untouched_book s)
  pub restarted : (q : PageId) (b : Book) → B q b → B q (without_volatile b)
  pub asked : (q : PageId) (b : Book) (from r : ℕ) (kind : Kind) → B q b → Contains sent (record { from = from; to = s; message = Of q (Ask r kind) })
      → foreign sites s (record { from = from; to = s; message = Of q (Ask r kind) }) ≡ false → OutcomeHolds (B q) (on_ask from r kind b)
  pub cleared : (q : PageId) (b : Book) (from n : ℕ) → B q b → OutcomeHolds (B q) (on_cleared from n b)
  pub confirmed : (q : PageId) (b : Book) (from n : ℕ) → B q b → OutcomeHolds (B q) (on_confirm from n b)

-- the step of a site
module _ (B : PageId → Book → Type 0) (sites s : ℕ) (sent : List Envelope) (rule : BookRule B sites s sent) (x : Site) (holds : (q : PageId) → B q (x.books q)) where
  abbrev Holds : Step → Type 0
  Holds st = (q : PageId) → B q (st.site.books q)

  same-holds : (y : Site) → y.books ≡ x.books → (q : PageId) → B q (y.books q)
  same-holds y same q = subst (λ (f : PageId → Book). B q (f q)) (sym same) (holds q)

  ask_for-holds : (kind : Kind) (page : PageId) → Holds (ask_for sites s kind page x)
  ask_for-holds kind page =
      cond_both (is_pending kind page x.pending) _ _ Holds (λ e. holds) (λ e. cond_both (x.requests == greatest) _ _ Holds (λ f. holds) (λ f. holds))

  load-holds : (place : Result Place ℕ) → Holds (load_if sites s place x)
  load-holds (Err refusal) = holds
  load-holds (Ok place) = cond_both (readable (x.entries place.page)) _ _ Holds (λ e. holds) (λ e. ask_for-holds Read place.page)

  store-holds : (place : Result Place ℕ) (byte : ℕ) → Holds (store_if sites s place byte x)
  store-holds (Err refusal) byte = holds
  store-holds (Ok place) byte = cond_both (writable (x.entries place.page)) _ _ Holds (λ e. holds) (λ e. ask_for-holds Write place.page)

  entry-holds : (page : PageId) (row : Entry × Out) → Holds (to_entry sites s page row x)
  entry-holds page (e, out) =
      cond_both (is_nothing out) _ _ Holds (λ h. holds)
      (λ h. same-holds (with_entry page e x) (limited-books (arranged page (x.entries page) e x.frames)
      (record x { entries = at_page x.entries page e; frames = arranged page (x.entries page) e x.frames; pending = settle (readable e) (writable e) page x.pending })).0)

  book-holds : (page : PageId) (outcome : Outcome) → OutcomeHolds (B page) outcome → Holds (to_book s page outcome x)
  book-holds page Ignored f = holds
  book-holds page UsedUp f = holds
  book-holds page (Taken b os) f = λ q. cond_both (same_page page q) b (x.books q) (B q) (λ e. subst (λ p. B p b) (page-same page q e) f) (λ e. holds q)

  note-holds : (from : ℕ) (page : PageId) (note : Note) → Contains sent (record { from = from; to = s; message = Of page note })
      → foreign sites s (record { from = from; to = s; message = Of page note }) ≡ false → Holds (on_note sites s from page note x)
  note-holds from page (Ask r kind) was proper = book-holds page _ (rule.asked page (x.books page) from r kind (holds page) was proper)
  note-holds from page (Clear n) was proper = entry-holds page (on_clear n (x.entries page))
  note-holds from page (Cleared n) was proper = book-holds page _ (rule.cleared page (x.books page) from n (holds page))
  note-holds from page (Hand n kind to) was proper = entry-holds page (on_hand s n kind to (x.entries page))
  note-holds from page (Page n kind b) was proper = entry-holds page (on_page n kind b (x.entries page))
  note-holds from page (Confirm n) was proper = book-holds page _ (rule.confirmed page (x.books page) from n (holds page))

  message-holds : (from : ℕ) (m : Message) → Contains sent (record { from = from; to = s; message = m })
      → foreign sites s (record { from = from; to = s; message = m }) ≡ false → Holds (on_message sites s from m x)
  message-holds from (Of page note) was proper = cond_both (x.purged page.seg) _ _ Holds (λ e. holds) (λ e. note-holds from page note was proper)
  message-holds from (Call number op) was proper = same-holds (on_call sites s from number op x).site (call-quiet sites s from number op x).books
  message-holds from (Replies number reply) was proper = same-holds (on_reply number reply x).site (reply-quiet number reply x).books
  message-holds from (Purge id) was proper =
      cond_both (is_attached x id) _ _ Holds (λ e. holds) (λ e. λ q. cond_both (id == q.seg) (untouched_book s) (x.books q) (B q) (λ f. rule.fresh q) (λ f. holds q))
  message-holds from (Purged id) was proper = same-holds (on_purged from id x).site (purged-quiet from id x).books

  pub step-holds : (w : World) → w.sent ≡ sent → (input : Input) → IsHonest w s input → Holds (step sites s x input)
  step-holds w is (Load a offset) honest = load-holds (right x.attachments a offset false)
  step-holds w is (Store a offset byte) honest = store-holds (right x.attachments a offset true) byte
  step-holds w is (Begin request) honest = same-holds (begin sites s request x).site (begin-quiet sites s request x).books
  step-holds w is (Deliver e) honest =
      cond_both (foreign sites s e) _ _ Holds (λ h. holds)
      (λ h. message-holds e.from e.message (subst (λ t. Contains sent (record { from = e.from; to = t; message = e.message })) honest.1 (subst (λ es. Contains es e) is honest.0))
      (subst (λ t. foreign sites s (record { from = e.from; to = t; message = e.message }) ≡ false) honest.1 h))
  step-holds w is Tick honest = holds
  step-holds w is Restart honest = λ q. rule.restarted q (x.books q) (holds q)

-- a run
module _ (sites : ℕ) (B : List Envelope → ℕ → PageId → Book → Type 0) where
  pub record WorldRule : Type 0 where
    pub rule : (sent : List Envelope) (s : ℕ) → s < sites → BookRule (B sent s) sites s sent
    pub more : (sent new : List Envelope) (s : ℕ) (q : PageId) (b : Book) → B sent s q b → B (sent ++ new) s q b

-- what holds of all books of a world
module _ (B : List Envelope → ℕ → PageId → Book → Type 0) where
  pub record AllBooks (w : World) : Type 0 where
    pub each : (t : ℕ) (y : Site) → slice_get w.sites t ≡ Some y → (q : PageId) → B w.sent t q (y.books q)

  module _ (o : Opening) (world : WorldRule (sites_of o) B) where
    opened-books : (p : Opening) (t : ℕ) → t < sites_of o → (q : PageId) → B [] t q ((opened_site p t).books q)
    opened-books (New n) t small q = (world.rule [] t small).fresh q
    opened-books (Preset n pages) t small q = (world.rule [] t small).fresh q
    opened-books (Framed n pages frames) t small q = (world.rule [] t small).fresh q

    some-same : (x y : Site) → Some x ≡ Some y → x ≡ y
    some-same x y e = cc

    first-all : AllBooks (begun o).world
    first-all = record {
      each = λ t y found. let within = slice_get_within (map (opened_site o) (range_with_len 0 (sites_of o))) t y found in
          let all = length-map-range_with_len (opened_site o) 0 (sites_of o) in
          subst (λ (z : Site). (q : PageId) → B [] t q (z.books q)) (some-same (opened_site o t) y (sym (slice_get-range (opened_site o) (sites_of o) t (omega (arith, within, all))) ∙ found)) (opened-books o t (omega (arith, within, all)));
    }

    stepped-all : (r : Run) (gone : ℕ → Bool) (s : ℕ) (site : Site) (input : Input) → AllBooks r.world → Shape o r.world → s < sites_of o
        → slice_get r.world.sites s ≡ Some site → IsHonest r.world s input
        → AllBooks (stepped (record r.world { gone = gone }) s input (step (sites_of o) s site input)).world
    stepped-all r gone s site input books shape small found honest = record { each = λ t y at q. world.more r.world.sent (step (sites_of o) s site input).sent t q (y.books q) (of-site t y (cases_eq t s) at q) }
      where
        of-site : (t : ℕ) (y : Site) → (t ≡ s) ⊎ (t ≢ s) → slice_get (slice_set r.world.sites s (step (sites_of o) s site input).site) t ≡ Some y → (q : PageId) → B r.world.sent t q (y.books q)
        of-site t y (inl here) at =
            let same = some-same (step (sites_of o) s site input).site y
            (sym (set-here r.world.sites s site (step (sites_of o) s site input).site found) ∙ subst (λ u. slice_get (slice_set r.world.sites s (step (sites_of o) s site input).site) u ≡ Some y) here at) in
            subst (λ u. (q : PageId) → B r.world.sent u q (y.books q)) (sym here)
            (subst (λ (z : Site). (q : PageId) → B r.world.sent s q (z.books q)) same
            (step-holds (B r.world.sent s) (sites_of o) s r.world.sent (world.rule r.world.sent s small) site (books.each s site found) r.world refl input honest))
        of-site t y (inr there) at = books.each t y (sym (set-there r.world.sites s t (step (sites_of o) s site input).site there) ∙ at)

    books-kept : Kept o (λ r. AllBooks r.world)
    books-kept = record {
      first = first-all;
      steps = stepped-all;
      stays = λ r gone s answer books shape still. record { each = books.each };
    }

    pub run-books : (events : List Event) → AllBooks (run o events).world
    run-books events = (run-good o (λ r. AllBooks r.world) books-kept events).holds
