-- A step of a site leaves what it has met of a page, or settles what is pending of it when the site meets its own transaction.
use Rattle.std.proofs.Common.{◌≡◌, ℕ, ◌<◌, ◌⊎◌, inl, inr, Bool, true, false, if◌then◌else◌, ◌==◌, Option, Some, None, Result, Ok, Err, List, [], ◌∷◌, length, nat_lt, refl, sym, ◌∙◌, ap, subst, Contains}
use Rattle.std.proofs.lemmas.Bool.{cond_both}
use Rattle.shm_place.specs.declared.page_id.PageId.{PageId}
use Rattle.shm_place.specs.Page.{same_page}
use Rattle.shm_model.specs.declared.request_kind.Kind.{Kind}
use Rattle.shm_model.specs.declared.request_kind.Kind.TheVariants.{Read, Write}
use Rattle.shm_model.specs.Entry.{Entry, Nil, Copy, OwnRead, OwnWrite, Handed, Note, Ask, Clear, Cleared, Hand, Page, Confirm, Out, forget, on_clear, on_hand, on_page, readable, seen, writable}
use Rattle.shm_model.specs.Book.{Outcome, Ignored, UsedUp, Taken, on_ask, on_cleared, on_confirm}
use Rattle.shm_model.specs.Basics.{at_page, greatest}
use Rattle.shm_model.specs.Message.{Envelope, Input, Load, Store, Begin, Deliver, Tick, Restart, Message, Of, Call, Replies, Purge, Purged}
use Rattle.shm_model.specs.Site.{Frames, Pending, Site, is_attached, Step}
use Rattle.shm_model.specs.Access.{Place, ask_for, is_pending, load_if, right, store_if, stored_entry}
use Rattle.shm_model.specs.Transfer.{arranged, drop_first, is_nothing, is_settled, limited, on_note, settle, to_book, to_entry}
use Rattle.shm_model.specs.Step.{foreign, on_message, step}
use Rattle.shm_laws.proofs.Page.View.{Fits, View}
use Rattle.shm_laws.proofs.Page.Moves.{page-same}
use Rattle.shm_laws.proofs.Move.Calls.{IsQuiet, begin-quiet, call-quiet, purged-quiet, reply-quiet}
use Rattle.shm_progress.proofs.Request.Met.{SettlesBy, clear-settles, hand-settles, page-settles}
use Rattle.shm_progress.proofs.Request.Once.{Once, settle-left}
use Rattle.shm_progress.proofs.Request.Pending.{limited-pending}

seen-stored : (within byte : ℕ) (e : Entry) → seen (stored_entry within byte e) ≡ seen e
seen-stored within byte (Nil n) = refl
seen-stored within byte (Copy n b) = refl
seen-stored within byte (OwnRead n b) = refl
seen-stored within byte (OwnWrite n b) = refl
seen-stored within byte (Handed n to b) = refl

-- a copy that is given up stays met
limited-seen : (frames : Option Frames) (y : Site) (q : PageId) → seen ((limited frames y).entries q) ≡ seen (y.entries q)
limited-seen None y q = refl
limited-seen (Some f) y q = cond_both (nat_lt f.limit (length f.copies)) (drop_first f.copies f y) y (λ z. seen (z.entries q) ≡ seen (y.entries q)) (λ e. dropped-seen f.copies) (λ e. refl)
  where
    dropped-seen : (copies : List PageId) → seen ((drop_first copies f y).entries q) ≡ seen (y.entries q)
    dropped-seen [] = refl
    dropped-seen (first ∷ rest) =
        cond_both (same_page first q) (forget (y.entries first)) (y.entries q) (λ e. seen e ≡ seen (y.entries q)) (λ e. ap (λ k. seen (y.entries k)) (page-same first q e)) (λ e. refl)

module _ (Now : List ℕ → Type 0) (v : View) (sites s : ℕ) (q : PageId) (p : Pending) (of : p.page ≡ q) (x : Site) (entry : v.entries s ≡ x.entries q) (once : Once x.pending) where
  -- as met as before; or no book changed, and the site still hasn't met what runs for it
  abbrev pub Meets : Step → Type 0
  Meets st = Contains st.site.pending p → st.site.purged q.seg ≡ false → (seen (st.site.entries q) ≡ seen (x.entries q))
      ⊎ ((st.site.books ≡ x.books) × (v.book.running ≡ Some (record { kind = p.kind; requester = s }) → seen (v.entries s) < v.book.number → seen (st.site.entries q) < v.book.number))

  same-meets : (st : Step) → seen (st.site.entries q) ≡ seen (x.entries q) → Meets st
  same-meets st is = λ here free. inl is

  quiet-meets : (st : Step) → IsQuiet x st → Meets st
  quiet-meets st k = same-meets st (ap (λ (f : PageId → Entry). seen (f q)) k.entries)

  ask_for-meets : (kind : Kind) (page : PageId) → Meets (ask_for sites s kind page x)
  ask_for-meets kind page =
      cond_both (is_pending kind page x.pending) _ _ Meets (λ e here free. inl refl) (λ e. cond_both (x.requests == greatest) _ _ Meets (λ f here free. inl refl) (λ f here free. inl refl))

  load-meets : (place : Result Place ℕ) → Meets (load_if sites s place x)
  load-meets (Err refusal) = λ here free. inl refl
  load-meets (Ok place) = cond_both (readable (x.entries place.page)) _ _ Meets (λ e here free. inl refl) (λ e. ask_for-meets Read place.page)

  store-meets : (place : Result Place ℕ) (byte : ℕ) → Meets (store_if sites s place byte x)
  store-meets (Err refusal) byte = λ here free. inl refl
  store-meets (Ok place) byte =
      cond_both (writable (x.entries place.page)) _ _ Meets
      (λ e here free. inl (cond_both (same_page place.page q) (stored_entry place.within byte (x.entries place.page)) (x.entries q) (λ k. seen k ≡ seen (x.entries q))
      (λ f. seen-stored place.within byte (x.entries place.page) ∙ ap (λ k. seen (x.entries k)) (page-same place.page q f)) (λ f. refl)))
      (λ e. ask_for-meets Write place.page)

  -- a row of the page's entry, which settles what it meets
  abbrev RowSettles : Entry → Type 0
  RowSettles e = (runs : v.book.running ≡ Some (record { kind = p.kind; requester = s })) (unmet : seen (v.entries s) < v.book.number) → SettlesBy Now v s p runs unmet e

  entry-meets : (page : PageId) (row : Entry × Out) → (page ≡ q → RowSettles row.0) → Meets (to_entry sites s page row x)
  entry-meets page (e, out) settles =
      cond_both (is_nothing out) _ _ Meets (λ h here free. inl refl) (λ h. taken)
    where
      y : Site
      y = record x { entries = at_page x.entries page e; frames = arranged page (x.entries page) e x.frames; pending = settle (readable e) (writable e) page x.pending }

      z : Site
      z = limited (arranged page (x.entries page) e x.frames) y

      books_same : z.books ≡ x.books
      books_same = limited-same (arranged page (x.entries page) e x.frames)
        where
          limited-same : (frames : Option Frames) → (limited frames y).books ≡ x.books
          limited-same None = refl
          limited-same (Some f) = cond_both (nat_lt f.limit (length f.copies)) (drop_first f.copies f y) y (λ k. k.books ≡ x.books) (λ e. dropped f.copies) (λ e. refl)
            where
              dropped : (copies : List PageId) → (drop_first copies f y).books ≡ x.books
              dropped [] = refl
              dropped (first ∷ rest) = refl

      seen_is : seen (z.entries q) ≡ seen (y.entries q)
      seen_is = limited-seen (arranged page (x.entries page) e x.frames) y q

      unsettled : page ≡ q → Contains z.pending p → is_settled (readable e) (writable e) p ≡ false
      unsettled same here =
          settle-left (readable e) (writable e) page x.pending p once (subst (λ l. Contains l p) (limited-pending (arranged page (x.entries page) e x.frames) y) here) (of ∙ sym same)

      taken : Contains z.pending p → z.purged q.seg ≡ false → (seen (z.entries q) ≡ seen (x.entries q))
          ⊎ ((z.books ≡ x.books) × (v.book.running ≡ Some (record { kind = p.kind; requester = s }) → seen (v.entries s) < v.book.number → seen (z.entries q) < v.book.number))
      taken here free =
          cond_both (same_page page q) e (x.entries q) (λ k. seen (z.entries q) ≡ seen k → (seen (z.entries q) ≡ seen (x.entries q))
          ⊎ ((z.books ≡ x.books) × (v.book.running ≡ Some (record { kind = p.kind; requester = s }) → seen (v.entries s) < v.book.number → seen (z.entries q) < v.book.number)))
          (λ f is. inr (books_same, λ runs unmet. by-row is (settles (page-same page q f) runs unmet) (unsettled (page-same page q f) here)))
          (λ f is. inl is) seen_is
        where
          by-row : seen (z.entries q) ≡ seen e → (seen e < v.book.number) ⊎ (is_settled (readable e) (writable e) p ≡ true) → is_settled (readable e) (writable e) p ≡ false → seen (z.entries q) < v.book.number
          by-row is (inl less) left = subst (λ k. k < v.book.number) (sym is) less
          by-row is (inr settled) left = let both : true ≡ false = sym settled ∙ left in cc

  book-meets : (page : PageId) (outcome : Outcome) → Meets (to_book s page outcome x)
  book-meets page Ignored = λ here free. inl refl
  book-meets page UsedUp = λ here free. inl refl
  book-meets page (Taken b os) = λ here free. inl refl

  module _ (from : ℕ) (msg : Message) (fits : (note : Note) → msg ≡ Of q note → Fits Now v from s note) where
    note-of : (page : PageId) (note : Note) → msg ≡ Of page note → page ≡ q → Fits Now v from s note
    note-of page note is same = fits note (subst (λ k. msg ≡ Of k note) same is)

    at-entry : (page : PageId) (row : Entry → Entry × Out) → page ≡ q → RowSettles (row (v.entries s)).0 → RowSettles (row (x.entries page)).0
    at-entry page row same h = subst (λ e. RowSettles (row e).0) (entry ∙ ap x.entries (sym same)) h

    note-meets : (page : PageId) (note : Note) → msg ≡ Of page note → Meets (on_note sites s from page note x)
    note-meets page (Ask r kind) is = book-meets page (on_ask from r kind (x.books page))
    note-meets page (Clear n) is = entry-meets page (on_clear n (x.entries page)) (λ same. at-entry page (on_clear n) same (λ runs unmet. clear-settles Now v s p runs unmet n (note-of page (Clear n) is same)))
    note-meets page (Cleared n) is = book-meets page (on_cleared from n (x.books page))
    note-meets page (Hand n kind to) is = entry-meets page (on_hand s n kind to (x.entries page)) (λ same. at-entry page (on_hand s n kind to) same (λ runs unmet. hand-settles Now v s p runs unmet n kind to (note-of page (Hand n kind to) is same)))
    note-meets page (Page n kind b) is = entry-meets page (on_page n kind b (x.entries page)) (λ same. at-entry page (on_page n kind b) same (λ runs unmet. page-settles Now v s p runs unmet n kind b (note-of page (Page n kind b) is same)))
    note-meets page (Confirm n) is = book-meets page (on_confirm from n (x.books page))

  message-meets : (from : ℕ) (m : Message) → ((note : Note) → m ≡ Of q note → Fits Now v from s note) → Meets (on_message sites s from m x)
  message-meets from (Of page note) fits = cond_both (x.purged page.seg) _ _ Meets (λ e here free. inl refl) (λ e. note-meets from (Of page note) fits page note refl)
  message-meets from (Call number op) fits = quiet-meets _ (call-quiet sites s from number op x)
  message-meets from (Replies number reply) fits = quiet-meets _ (reply-quiet number reply x)
  message-meets from (Purge id) fits =
      cond_both (is_attached x id) _ _ Meets (λ e here free. inl refl) (λ e here free. inl (by-segment (id == q.seg) (x.purged q.seg) free))
    where
      by-segment : (b gone : Bool) → (if b then true else gone) ≡ false → seen (if b then Nil 0 else x.entries q) ≡ seen (x.entries q)
      by-segment true gone h = cc
      by-segment false gone h = refl
  message-meets from (Purged id) fits = quiet-meets _ (purged-quiet from id x)

  pub step-meets : (input : Input) → ((e : Envelope) → input ≡ Deliver e → (note : Note) → e.message ≡ Of q note → Fits Now v e.from s note) → Meets (step sites s x input)
  step-meets (Load a offset) fits = load-meets (right x.attachments a offset false)
  step-meets (Store a offset byte) fits = store-meets (right x.attachments a offset true) byte
  step-meets (Begin request) fits = quiet-meets _ (begin-quiet sites s request x)
  step-meets (Deliver e) fits = cond_both (foreign sites s e) _ _ Meets (λ h here free. inl refl) (λ h. message-meets e.from e.message (fits e refl))
  step-meets Tick fits = λ here free. inl refl
  step-meets Restart fits = λ here free. inl refl
