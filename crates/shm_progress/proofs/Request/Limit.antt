-- A site that counts frames has at least one.
use Rattle.std.proofs.Common.{◌≡◌, ℕ, ◌≤◌, true, false, ◌==◌, Option, Some, None, Result, Ok, Err, List, [], ◌∷◌, length, nat_lt, slice_get, refl, sym, subst}
use Rattle.std.proofs.lemmas.Bool.{cond_both}
use Rattle.shm_place.specs.declared.page_id.PageId.{PageId}
use Rattle.shm_model.specs.declared.event.Event.{Event}
use Rattle.shm_model.specs.declared.request_kind.Kind.{Kind}
use Rattle.shm_model.specs.declared.request_kind.Kind.TheVariants.{Read, Write}
use Rattle.shm_model.specs.Basics.{at_page, greatest}
use Rattle.shm_model.specs.Entry.{Entry, Note, Ask, Clear, Cleared, Hand, Page, Confirm, Out, on_clear, on_hand, on_page, readable, writable}
use Rattle.shm_model.specs.Book.{Outcome, Ignored, UsedUp, Taken, on_ask, on_cleared, on_confirm}
use Rattle.shm_model.specs.Message.{Input, Load, Store, Begin, Deliver, Tick, Restart, Message, Of, Call, Replies, Purge, Purged}
use Rattle.shm_model.specs.SegmentCalls.{frames_without}
use Rattle.shm_model.specs.Site.{Frames, Site, is_attached, Step}
use Rattle.shm_model.specs.Access.{Place, ask_for, is_pending, load_if, right, store_if}
use Rattle.shm_model.specs.Transfer.{arranged, drop_first, is_nothing, limited, on_note, settle, to_book, to_entry}
use Rattle.shm_model.specs.Step.{foreign, on_message, step}
use Rattle.shm_model.specs.World.{Framed, IsOpening, New, Opening, Preset, opened_site, run, sites_of}
use Rattle.shm_laws.proofs.Move.Calls.{begin-quiet, call-quiet, purged-quiet, reply-quiet}
use Rattle.shm_progress.proofs.SitesKept.{run-sites}

abbrev pub Limited : Option Frames → Type 0
Limited None = Unit {0}
Limited (Some f) = 1 ≤ f.limit

arranged-limit : (page : PageId) (old new : Entry) (frames : Option Frames) → Limited frames → Limited (arranged page old new frames)
arranged-limit page old new None h = tt
arranged-limit page old new (Some f) h = h

without-limit : (id : ℕ) (frames : Option Frames) → Limited frames → Limited (frames_without id frames)
without-limit id None h = tt
without-limit id (Some f) h = h

limited-limit : (frames : Option Frames) (y : Site) → y.frames ≡ frames → Limited frames → Limited (limited frames y).frames
limited-limit None y is h = subst Limited (sym is) h
limited-limit (Some f) y is h = cond_both (nat_lt f.limit (length f.copies)) (drop_first f.copies f y) y (λ z. Limited z.frames) (λ e. dropped f.copies) (λ e. subst Limited (sym is) h)
  where
    dropped : (copies : List PageId) → Limited (drop_first copies f y).frames
    dropped [] = subst Limited (sym is) h
    dropped (p ∷ ps) = h

module _ (sites s : ℕ) (x : Site) (h : Limited x.frames) where
  abbrev Goal : Step → Type 0
  Goal st = Limited st.site.frames

  same-limit : {f : Option Frames} → f ≡ x.frames → Limited f
  same-limit is = subst Limited (sym is) h

  ask_for-limit : (kind : Kind) (page : PageId) → Goal (ask_for sites s kind page x)
  ask_for-limit kind page = cond_both (is_pending kind page x.pending) _ _ Goal (λ e. h) (λ e. cond_both (x.requests == greatest) _ _ Goal (λ f. h) (λ f. h))

  load-limit : (place : Result Place ℕ) → Goal (load_if sites s place x)
  load-limit (Err refusal) = h
  load-limit (Ok place) = cond_both (readable (x.entries place.page)) _ _ Goal (λ e. h) (λ e. ask_for-limit Read place.page)

  store-limit : (place : Result Place ℕ) (byte : ℕ) → Goal (store_if sites s place byte x)
  store-limit (Err refusal) byte = h
  store-limit (Ok place) byte = cond_both (writable (x.entries place.page)) _ _ Goal (λ e. h) (λ e. ask_for-limit Write place.page)

  entry-limit : (page : PageId) (row : Entry × Out) → Goal (to_entry sites s page row x)
  entry-limit page (e, out) =
      cond_both (is_nothing out) _ _ Goal (λ k. h)
      (λ k. limited-limit (arranged page (x.entries page) e x.frames)
      (record x { entries = at_page x.entries page e; frames = arranged page (x.entries page) e x.frames; pending = settle (readable e) (writable e) page x.pending }) refl
      (arranged-limit page (x.entries page) e x.frames h))

  book-limit : (page : PageId) (outcome : Outcome) → Goal (to_book s page outcome x)
  book-limit page Ignored = h
  book-limit page UsedUp = h
  book-limit page (Taken b os) = h

  note-limit : (from : ℕ) (page : PageId) (note : Note) → Goal (on_note sites s from page note x)
  note-limit from page (Ask r kind) = book-limit page (on_ask from r kind (x.books page))
  note-limit from page (Clear n) = entry-limit page (on_clear n (x.entries page))
  note-limit from page (Cleared n) = book-limit page (on_cleared from n (x.books page))
  note-limit from page (Hand n kind to) = entry-limit page (on_hand s n kind to (x.entries page))
  note-limit from page (Page n kind b) = entry-limit page (on_page n kind b (x.entries page))
  note-limit from page (Confirm n) = book-limit page (on_confirm from n (x.books page))

  message-limit : (from : ℕ) (m : Message) → Goal (on_message sites s from m x)
  message-limit from (Of page note) = cond_both (x.purged page.seg) _ _ Goal (λ e. h) (λ e. note-limit from page note)
  message-limit from (Call number op) = same-limit (call-quiet sites s from number op x).frames
  message-limit from (Replies number reply) = same-limit (reply-quiet number reply x).frames
  message-limit from (Purge id) = cond_both (is_attached x id) _ _ Goal (λ e. h) (λ e. without-limit id x.frames h)
  message-limit from (Purged id) = same-limit (purged-quiet from id x).frames

  step-limit : (input : Input) → Goal (step sites s x input)
  step-limit (Load a offset) = load-limit (right x.attachments a offset false)
  step-limit (Store a offset byte) = store-limit (right x.attachments a offset true) byte
  step-limit (Begin request) = same-limit (begin-quiet sites s request x).frames
  step-limit (Deliver e) = cond_both (foreign sites s e) _ _ Goal (λ k. h) (λ k. message-limit e.from e.message)
  step-limit Tick = h
  step-limit Restart = h

opened-limit : (o : Opening) → IsOpening o → (s : ℕ) → Limited (opened_site o s).frames
opened-limit (New n) is s = tt
opened-limit (Preset n pages) is s = tt
opened-limit (Framed n pages frames) is s = is.4

pub run-limit : (o : Opening) → IsOpening o → (events : List Event) (s : ℕ) (x : Site) → slice_get (run o events).world.sites s ≡ Some x → Limited x.frames
run-limit o is events s x found = run-sites o (λ s x. Limited x.frames) (λ t small. opened-limit o is t) (λ t y input small h. step-limit (sites_of o) t y h input) events s x found
