-- A note that is handed over moves its page by its row, and leaves every other page.
use Rattle.std.proofs.Common.{◌≡◌, ℕ, ◌<◌, Bool, true, false, List, [], ◌∷◌, refl, sym, ◌∙◌, ap, subst}
use Rattle.std.proofs.lemmas.Bool.{cond_both, cond-false}
use Rattle.shm_place.specs.declared.page_id.PageId.{PageId}
use Rattle.shm_place.specs.Page.{manager_of, same_page}
use Rattle.shm_model.specs.declared.answer.Answer.TheVariants.{Dropped, Refused}
use Rattle.shm_model.specs.Entry.{Entry, Note, Ask, Clear, Cleared, Hand, Page, Confirm, Out, on_clear, on_hand, on_page}
use Rattle.shm_model.specs.Book.{Book, Order, ClearTo, HandTo, Outcome, Ignored, UsedUp, Taken, max_sites, on_ask, on_cleared, on_confirm}
use Rattle.shm_model.specs.Refusal.{numbers_used_up}
use Rattle.shm_model.specs.Message.{Of}
use Rattle.shm_model.specs.Basics.{at_page}
use Rattle.shm_model.specs.Site.{Site}
use Rattle.shm_model.specs.Transfer.{on_note, on_note_of, order_envelope, order_envelopes, to_book, to_entry}
use Rattle.shm_model.specs.Step.{is_to_manager}
use Rattle.shm_laws.proofs.Page.View.{View, Holds, Fits}
use Rattle.shm_laws.proofs.Page.Entry.{false-true}
use Rattle.shm_laws.proofs.Page.Orders.{Each, OrderFits, each-imp, each-map}
use Rattle.shm_laws.proofs.Page.Book.{OutcomeFits, taken, with_book}
use Rattle.shm_laws.proofs.Page.Books.{ask-keeps, cleared-keeps, confirm-keeps}
use Rattle.shm_laws.proofs.Page.Rows.{RowFits, clear-keeps, hand-keeps, page-keeps}
use Rattle.shm_laws.proofs.Page.Moves.{EnvelopeFits, Local, StepMoves, page-same, quiet-moves}
use Rattle.shm_laws.proofs.Move.Access.{still-moves}
use Rattle.shm_laws.proofs.Move.Transfer.{apart-fits, at-page-here, note-fits, row-apart, row-here}
use Rattle.shm_laws.proofs.Frame.Held.{FramesHeld}

-- what a book asks for fits as envelopes
pub order-fits : (Now : List ℕ → Type 0) (page q : PageId) (v : View) (s : ℕ) (o : Order) → OrderFits Now v o → EnvelopeFits Now q v (order_envelope s page v.book.number o)
order-fits Now page q v s (ClearTo x) f = note-fits Now page q v s x (Clear v.book.number) f
order-fits Now page q v s (HandTo owner to kind) f = note-fits Now page q v s owner (Hand v.book.number kind to) f

pub order-apart : (Now : List ℕ → Type 0) (page q : PageId) (v : View) (s n : ℕ) (o : Order) → same_page page q ≡ false → EnvelopeFits Now q v (order_envelope s page n o)
order-apart Now page q v s n (ClearTo x) a = apart-fits Now page q v s x (Clear n) a
order-apart Now page q v s n (HandTo owner to kind) a = apart-fits Now page q v s owner (Hand n kind to) a

all-orders : (P : Order → Type 0) (os : List Order) → ((o : Order) → P o) → Each P os
all-orders P [] f = tt
all-orders P (o ∷ os) f = (f o, all-orders P os f)

pub orders-apart : (Now : List ℕ → Type 0) (page q : PageId) (v : View) (s : ℕ) (b : Book) (os : List Order) → same_page page q ≡ false → Each (EnvelopeFits Now q v) (order_envelopes s page b os)
orders-apart Now page q v s b os a = each-map (EnvelopeFits Now q v) (order_envelope s page b.number) os (all-orders (λ o. EnvelopeFits Now q v (order_envelope s page b.number o)) os (λ o. order-apart Now page q v s b.number o a))

pub orders-here : (Now : List ℕ → Type 0) (page q : PageId) (v : View) (s : ℕ) (os : List Order) → Each (OrderFits Now v) os → Each (EnvelopeFits Now q v) (order_envelopes s page v.book os)
orders-here Now page q v s os f = each-map (EnvelopeFits Now q v) (order_envelope s page v.book.number) os (each-imp (OrderFits Now v) (λ o. EnvelopeFits Now q v (order_envelope s page v.book.number o)) os (order-fits Now page q v s) f)

module _ (Now : List ℕ → Type 0) (sites s : ℕ) (q : PageId) (v : View) (site : Site) (h : Holds Now v) (l : Local sites s q site v) (page : PageId) where
  book-here : (outcome : Outcome) → page ≡ q → manager_of sites q ≡ s → site.purged q.seg ≡ false → OutcomeFits Now v outcome → StepMoves Now Now sites s q v (to_book s page outcome site)
  book-here Ignored is m open_here f = still-moves Now sites s q v site h l Dropped
  book-here UsedUp is m open_here f = still-moves Now sites s q v site h l (Refused numbers_used_up)
  book-here (Taken b os) is m open_here (taken _ _ goes orders_fit) = record {
    view = with_book v b;
    local = record {
      entry = l.entry;
      gone = l.gone;
      book = λ e p. sym (subst (λ p. at_page site.books p b q ≡ b) (sym is) (at-page-here site.books q b));
      elsewhere = λ other. absurd (other m);
      closed = λ p. absurd (false-true (sym open_here ∙ p));
    };
    others = λ x other. refl;
    book_stays = λ other. absurd (other m);
    holds = goes.holds;
    fits = goes.fits;
    new = orders-here Now page q (with_book v b) s os orders_fit;
  }

  book-apart : (outcome : Outcome) → same_page page q ≡ false → StepMoves Now Now sites s q v (to_book s page outcome site)
  book-apart Ignored a = still-moves Now sites s q v site h l Dropped
  book-apart UsedUp a = still-moves Now sites s q v site h l (Refused numbers_used_up)
  book-apart (Taken b os) a = quiet-moves Now sites s q v site (to_book s page (Taken b os) site).site (order_envelopes s page b os) h l refl (cond-false (same_page page q) _ _ a) refl (orders-apart Now page q v s b os a)

  module _ (held : FramesHeld site.entries site.frames) (small : s < max_sites) (from : ℕ) where
    note-apart : (note : Note) → same_page page q ≡ false → StepMoves Now Now sites s q v (on_note sites s from page note site)
    note-apart (Ask r kind) a = book-apart (on_ask from r kind (site.books page)) a
    note-apart (Clear n) a = row-apart Now sites s q v site h l held page (on_clear n (site.entries page)) a
    note-apart (Cleared n) a = book-apart (on_cleared from n (site.books page)) a
    note-apart (Hand n kind to) a = row-apart Now sites s q v site h l held page (on_hand s n kind to (site.entries page)) a
    note-apart (Page n kind b) a = row-apart Now sites s q v site h l held page (on_page n kind b (site.entries page)) a
    note-apart (Confirm n) a = book-apart (on_confirm from n (site.books page)) a

    module _ (is : page ≡ q) (open_here : site.purged q.seg ≡ false) where
      entry-is : v.entries s ≡ site.entries page
      entry-is = l.entry open_here ∙ ap site.entries (sym is)

      row-of : (row : Entry → Entry × Out) → RowFits Now v s (row (v.entries s)) → StepMoves Now Now sites s q v (to_entry sites s page (row (site.entries page)) site)
      row-of row f = row-here Now sites s q v site h l held page (row (site.entries page)) is open_here (subst (λ e. RowFits Now v s (row e)) entry-is f)

      book-of : (row : Book → Outcome) → manager_of sites q ≡ s → OutcomeFits Now v (row v.book) → StepMoves Now Now sites s q v (to_book s page (row (site.books page)) site)
      book-of row m f =
          let same : v.book ≡ site.books page = l.book m open_here ∙ ap site.books (sym is) in
          book-here (row (site.books page)) is m open_here (subst (λ b. OutcomeFits Now v (row b)) same f)

      note-here : (note : Note) → (is_to_manager note ≡ true → manager_of sites q ≡ s) → Fits Now v from s note → StepMoves Now Now sites s q v (on_note sites s from page note site)
      note-here (Ask r kind) m f = book-of (on_ask from r kind) (m refl) (ask-keeps Now v h from r kind)
      note-here (Clear n) m f = row-of (on_clear n) (clear-keeps Now v h s n f)
      note-here (Cleared n) m f = book-of (on_cleared from n) (m refl) (cleared-keeps Now v h from n f)
      note-here (Hand n kind to) m f = row-of (on_hand s n kind to) (hand-keeps Now v h s n kind to f)
      note-here (Page n kind b) m f = row-of (on_page n kind b) (page-keeps Now v h s n kind b small f)
      note-here (Confirm n) m f = book-of (on_confirm from n) (m refl) (confirm-keeps Now v h from n f)

    open-moves : (note : Note) → (is_to_manager note ≡ true → manager_of sites page ≡ s) → EnvelopeFits Now q v (record { from = from; to = s; message = Of page note })
        → (same : Bool) → same_page page q ≡ same → site.purged page.seg ≡ false → StepMoves Now Now sites s q v (on_note sites s from page note site)
    open-moves note m f true e p =
        let is : page ≡ q = page-same page q e in
        note-here is (subst (λ (x : PageId). site.purged x.seg ≡ false) is p) note (λ t. ap (manager_of sites) (sym is) ∙ m t) (f.fits note (ap (λ x. Of x note) is))
    open-moves note m f false e p = note-apart note e

    pub note-moves : (note : Note) → (is_to_manager note ≡ true → manager_of sites page ≡ s) → EnvelopeFits Now q v (record { from = from; to = s; message = Of page note })
        → StepMoves Now Now sites s q v (on_note_of sites s from page note site)
    note-moves note m f =
        cond_both (site.purged page.seg) _ _ (StepMoves Now Now sites s q v) (λ p. still-moves Now sites s q v site h l Dropped)
        (λ p. open-moves note m f (same_page page q) refl p)
