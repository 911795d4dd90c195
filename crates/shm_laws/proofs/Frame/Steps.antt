-- Every step of a site leaves what it counts as copies copies.
use Rattle.std.proofs.Common.{◌≡◌, ℕ, true, false, not, ◌==◌, Option, Some, None, Result, Ok, Err, List, [], ◌∷◌, length, nat_lt, refl, sym, ◌∙◌, ap, subst}
use Rattle.std.proofs.lemmas.Bool.{cond_both, cond-false}
use Rattle.shm_place.specs.declared.page_id.PageId.{PageId}
use Rattle.shm_model.specs.declared.request_kind.Kind.{Kind}
use Rattle.shm_model.specs.declared.request_kind.Kind.TheVariants.{Read, Write}
use Rattle.shm_model.specs.Entry.{Entry, Nil, Copy, OwnRead, OwnWrite, Handed, Note, Ask, Clear, Cleared, Hand, Page, Confirm, Out, forget, is_copy, on_clear, on_hand, on_page, readable, writable}
use Rattle.shm_model.specs.Book.{Outcome, Ignored, UsedUp, Taken, on_ask, on_cleared, on_confirm}
use Rattle.shm_model.specs.Basics.{at_page, greatest}
use Rattle.shm_model.specs.Message.{Input, Load, Store, Begin, Deliver, Tick, Restart, Message, Of, Call, Replies, Purge, Purged}
use Rattle.shm_model.specs.Site.{Frames, Site, is_attached, Step}
use Rattle.shm_model.specs.Access.{Place, ask_for, is_pending, load_if, right, store_if, stored_entry}
use Rattle.shm_model.specs.Transfer.{arranged, drop_first, is_nothing, limited, on_note, settle, to_book, to_entry, with_entry}
use Rattle.shm_model.specs.SegmentCalls.{of_segment, on_purge, without_segment, frames_without}
use Rattle.shm_model.specs.Step.{foreign, on_message, step}
use Rattle.shm_laws.proofs.Page.Orders.{each-imp, each-filter}
use Rattle.shm_laws.proofs.Frame.Held.{CopiesHeld, FramesHeld, arranged-held, distinct-filter, not-true, rest-held, same-held}
use Rattle.shm_laws.proofs.Move.Calls.{IsQuiet, begin-quiet, call-quiet, purged-quiet, reply-quiet}

abbrev pub SiteHeld : Site → Type 0
SiteHeld site = FramesHeld site.entries site.frames

abbrev pub StepHeld : Step → Type 0
StepHeld st = SiteHeld st.site

held-same : (site : Site) (st : Step) → IsQuiet site st → SiteHeld site → StepHeld st
held-same site st k h = subst (λ f. FramesHeld st.site.entries f) (sym k.frames) (subst (λ e. FramesHeld e site.frames) (sym k.entries) h)

stored-copy : (within byte : ℕ) (e : Entry) → is_copy (stored_entry within byte e) ≡ is_copy e
stored-copy within byte (Nil n) = refl
stored-copy within byte (Copy n b) = refl
stored-copy within byte (OwnRead n b) = refl
stored-copy within byte (OwnWrite n b) = refl
stored-copy within byte (Handed n to b) = refl

module _ (sites s : ℕ) (site : Site) (h : SiteHeld site) where
  ask-held : (kind : Kind) (page : PageId) → StepHeld (ask_for sites s kind page site)
  ask-held kind page = cond_both (is_pending kind page site.pending) _ _ StepHeld (λ e. h) (λ e. cond_both (site.requests == greatest) _ _ StepHeld (λ f. h) (λ f. h))

  load-held : (r : Result Place ℕ) → StepHeld (load_if sites s r site)
  load-held (Err refusal) = h
  load-held (Ok place) = cond_both (readable (site.entries place.page)) _ _ StepHeld (λ e. h) (λ e. ask-held Read place.page)

  store-held : (r : Result Place ℕ) (byte : ℕ) → StepHeld (store_if sites s r byte site)
  store-held (Err refusal) byte = h
  store-held (Ok place) byte =
      cond_both (writable (site.entries place.page)) _ _ StepHeld
      (λ e. same-held site.entries place.page (stored_entry place.within byte (site.entries place.page)) site.frames (stored-copy place.within byte (site.entries place.page)) h) (λ e. ask-held Write place.page)

  drop-held : (placed : Site) (copies : List PageId) (f : Frames) → placed.frames ≡ Some f → f.copies ≡ copies → SiteHeld placed → CopiesHeld placed.entries copies → SiteHeld (drop_first copies f placed)
  drop-held placed [] f is same k c = k
  drop-held placed (first ∷ rest) f is same k c = rest-held placed.entries first rest (forget (placed.entries first)) c

  limited-held : (placed : Site) (frames : Option Frames) → placed.frames ≡ frames → SiteHeld placed → FramesHeld placed.entries frames → SiteHeld (limited frames placed)
  limited-held placed None is k c = k
  limited-held placed (Some f) is k c = cond_both (nat_lt f.limit (length f.copies)) (drop_first f.copies f placed) placed SiteHeld (λ e. drop-held placed f.copies f is refl k c) (λ e. k)

  placed-held : (page : PageId) (e : Entry) → SiteHeld (with_entry page e site)
  placed-held page e =
      let a : FramesHeld (at_page site.entries page e) (arranged page (site.entries page) e site.frames) = arranged-held site.entries page e (site.entries page) site.frames h in
      limited-held (record site { entries = at_page site.entries page e; frames = arranged page (site.entries page) e site.frames; pending = settle (readable e) (writable e) page site.pending })
      (arranged page (site.entries page) e site.frames) refl a a

  entry-held : (page : PageId) (row : Entry × Out) → StepHeld (to_entry sites s page row site)
  entry-held page (e, out) = cond_both (is_nothing out) _ _ StepHeld (λ x. h) (λ x. placed-held page e)

  book-held : (page : PageId) (outcome : Outcome) → StepHeld (to_book s page outcome site)
  book-held page Ignored = h
  book-held page UsedUp = h
  book-held page (Taken b os) = h

  note-held : (from : ℕ) (page : PageId) (note : Note) → StepHeld (on_note sites s from page note site)
  note-held from page (Ask r kind) = book-held page (on_ask from r kind (site.books page))
  note-held from page (Clear n) = entry-held page (on_clear n (site.entries page))
  note-held from page (Cleared n) = book-held page (on_cleared from n (site.books page))
  note-held from page (Hand n kind to) = entry-held page (on_hand s n kind to (site.entries page))
  note-held from page (Page n kind b) = entry-held page (on_page n kind b (site.entries page))
  note-held from page (Confirm n) = book-held page (on_confirm from n (site.books page))

  kept-copy : (id : ℕ) (p : PageId) → is_copy (site.entries p) ≡ true → not (id == p.seg) ≡ true → is_copy (of_segment id (Nil 0) site.entries p) ≡ true
  kept-copy id p c e = ap is_copy (cond-false (id == p.seg) (Nil 0) (site.entries p) (not-true (id == p.seg) e)) ∙ c

  without-held : (id : ℕ) (frames : Option Frames) → FramesHeld site.entries frames → FramesHeld (of_segment id (Nil 0) site.entries) (frames_without id frames)
  without-held id None c = tt
  without-held id (Some f) c = record {
    once = distinct-filter (λ p. not (id == p.seg)) f.copies c.once;
    held = each-imp (λ p. (is_copy (site.entries p) ≡ true) × (not (id == p.seg) ≡ true)) (λ p. is_copy (of_segment id (Nil 0) site.entries p) ≡ true) (without_segment id f.copies)
        (λ p r. kept-copy id p r.0 r.1) (each-filter (λ p. is_copy (site.entries p) ≡ true) (λ p. not (id == p.seg)) f.copies c.held);
  }

  purge-held : (id : ℕ) → StepHeld (on_purge sites s id site)
  purge-held id = cond_both (is_attached site id) _ _ StepHeld (λ e. h) (λ e. without-held id site.frames h)

  message-held : (from : ℕ) (m : Message) → StepHeld (on_message sites s from m site)
  message-held from (Of page note) = cond_both (site.purged page.seg) _ _ StepHeld (λ e. h) (λ e. note-held from page note)
  message-held from (Call number op) = held-same site _ (call-quiet sites s from number op site) h
  message-held from (Replies number reply) = held-same site _ (reply-quiet number reply site) h
  message-held from (Purge id) = purge-held id
  message-held from (Purged id) = held-same site _ (purged-quiet from id site) h

  pub step-held : (input : Input) → StepHeld (step sites s site input)
  step-held (Load a offset) = load-held (right site.attachments a offset false)
  step-held (Store a offset byte) = store-held (right site.attachments a offset true) byte
  step-held (Begin request) = held-same site _ (begin-quiet sites s request site) h
  step-held (Deliver e) = cond_both (foreign sites s e) _ _ StepHeld (λ x. h) (λ x. message-held e.from e.message)
  step-held Tick = h
  step-held Restart = h
