-- What any step of a manager but a restart does to the running transaction of one of its books; and what was purged stays so.
use Rattle.std.proofs.Common.{◌≡◌, ◌≢◌, ℕ, ◌<◌, Bool, true, false, ◌==◌, ◌&&◌, ◌||◌, not, if◌then◌else◌, Result, Ok, Err, List, [], ◌∷◌, refl, sym, ◌∙◌, ap, subst}
use Rattle.std.proofs.lemmas.Bool.{and_parts, cond_both, cond-true, cond-false, eq-eqb}
use Rattle.shm_place.specs.declared.page_id.PageId.{PageId}
use Rattle.shm_place.specs.Home.{home_of_id}
use Rattle.shm_place.specs.Page.{manager_of, same_page}
use Rattle.shm_model.specs.declared.request_kind.Kind.{Kind}
use Rattle.shm_model.specs.declared.request_kind.Kind.TheVariants.{Read, Write}
use Rattle.shm_model.specs.Entry.{Entry, Note, Ask, Clear, Cleared, Hand, Page, Confirm, Out, on_clear, on_hand, on_page, readable, writable}
use Rattle.shm_model.specs.Book.{Book, Outcome, Ignored, UsedUp, Taken, is_write, on_ask, on_cleared, on_confirm, untouched_book}
use Rattle.shm_model.specs.Basics.{at_page, greatest}
use Rattle.shm_model.specs.Message.{Envelope, Input, Load, Store, Begin, Deliver, Tick, Restart, Message, Of, Call, Replies, Purge, Purged}
use Rattle.shm_model.specs.Site.{Site, is_attached, Step}
use Rattle.shm_model.specs.Access.{Place, ask_for, is_pending, load_if, right, store_if}
use Rattle.shm_model.specs.Transfer.{arranged, is_nothing, on_note, order_envelopes, settle, to_book, to_entry}
use Rattle.shm_model.specs.Step.{foreign, is_to_manager, on_message, step}
use Rattle.shm_laws.proofs.Page.Moves.{page-same, same-page}
use Rattle.shm_laws.proofs.Move.Calls.{begin-quiet, call-quiet, purged-quiet, reply-quiet}
use Rattle.shm_progress.proofs.Ending.Steps.{limited-books}
use Rattle.shm_progress.proofs.Transfer.Bounds.{Asker, Bounds}
use Rattle.shm_progress.proofs.Transfer.Heard.{not-foreign}
use Rattle.shm_progress.proofs.Transfer.Rows.{BookMove, OutcomeMove, Unheard, ask-move, cleared-move, confirm-move, deliver-same, keeps, note_envelope, stops, unheard-by}

about : (p q : PageId) (note other : Note) → Of p note ≡ Of q other → p ≡ q
about p q note other e = cc

-- books and purged segments of a step that isn't about them
pub record Aside (x : Site) (st : Step) : Type 0 where
  pub books : st.site.books ≡ x.books
  pub purged : st.site.purged ≡ x.purged

module _ (sites m : ℕ) (x : Site) where
  ask_for-aside : (kind : Kind) (page : PageId) → Aside x (ask_for sites m kind page x)
  ask_for-aside kind page =
      cond_both (is_pending kind page x.pending) _ _ (Aside x) (λ e. record { books = refl; purged = refl })
      (λ e. cond_both (x.requests == greatest) _ _ (Aside x) (λ f. record { books = refl; purged = refl }) (λ f. record { books = refl; purged = refl }))

  pub load-aside : (place : Result Place ℕ) → Aside x (load_if sites m place x)
  load-aside (Err refusal) = record { books = refl; purged = refl }
  load-aside (Ok place) = cond_both (readable (x.entries place.page)) _ _ (Aside x) (λ e. record { books = refl; purged = refl }) (λ e. ask_for-aside Read place.page)

  pub store-aside : (place : Result Place ℕ) (byte : ℕ) → Aside x (store_if sites m place byte x)
  store-aside (Err refusal) byte = record { books = refl; purged = refl }
  store-aside (Ok place) byte = cond_both (writable (x.entries place.page)) _ _ (Aside x) (λ e. record { books = refl; purged = refl }) (λ e. ask_for-aside Write place.page)

  pub entry-aside : (page : PageId) (row : Entry × Out) → Aside x (to_entry sites m page row x)
  entry-aside page (e, out) =
      cond_both (is_nothing out) _ _ (Aside x) (λ h. record { books = refl; purged = refl })
      (λ h. let same = limited-books (arranged page (x.entries page) e x.frames)
      (record x { entries = at_page x.entries page e; frames = arranged page (x.entries page) e x.frames; pending = settle (readable e) (writable e) page x.pending }) in
      record { books = same.0; purged = same.1 })

-- what was purged stays so
module _ (sites s : ℕ) (x : Site) (id : ℕ) (gone : x.purged id ≡ true) where
  abbrev StaysGone : Step → Type 0
  StaysGone st = st.site.purged id ≡ true

  aside-gone : {g : ℕ → Bool} → g ≡ x.purged → g id ≡ true
  aside-gone same = ap (λ (f : ℕ → Bool). f id) same ∙ gone

  book-gone : (page : PageId) (outcome : Outcome) → StaysGone (to_book s page outcome x)
  book-gone page Ignored = gone
  book-gone page UsedUp = gone
  book-gone page (Taken b os) = gone

  note-gone : (from : ℕ) (page : PageId) (note : Note) → StaysGone (on_note sites s from page note x)
  note-gone from page (Ask r kind) = book-gone page _
  note-gone from page (Clear n) = aside-gone (entry-aside sites s x page (on_clear n (x.entries page))).purged
  note-gone from page (Cleared n) = book-gone page _
  note-gone from page (Hand n kind to) = aside-gone (entry-aside sites s x page (on_hand s n kind to (x.entries page))).purged
  note-gone from page (Page n kind b) = aside-gone (entry-aside sites s x page (on_page n kind b (x.entries page))).purged
  note-gone from page (Confirm n) = book-gone page _

  message-gone : (from : ℕ) (msg : Message) → StaysGone (on_message sites s from msg x)
  message-gone from (Of page note) = cond_both (x.purged page.seg) _ _ StaysGone (λ e. gone) (λ e. note-gone from page note)
  message-gone from (Call number op) = aside-gone (call-quiet sites s from number op x).purged
  message-gone from (Replies number reply) = aside-gone (reply-quiet number reply x).purged
  message-gone from (Purge i) = cond_both (is_attached x i) _ _ StaysGone (λ e. gone) (λ e. cond_both (i == id) true (x.purged id) (λ b. b ≡ true) (λ f. refl) (λ f. gone))
  message-gone from (Purged i) = aside-gone (purged-quiet from i x).purged

  pub step-gone : (input : Input) → StaysGone (step sites s x input)
  step-gone (Load a offset) = aside-gone (load-aside sites s x (right x.attachments a offset false)).purged
  step-gone (Store a offset byte) = aside-gone (store-aside sites s x (right x.attachments a offset true) byte).purged
  step-gone (Begin request) = aside-gone (begin-quiet sites s request x).purged
  step-gone (Deliver e) = cond_both (foreign sites s e) _ _ StaysGone (λ h. gone) (λ h. message-gone e.from e.message)
  step-gone Tick = gone
  step-gone Restart = gone

-- the book of one page
module _ (sites m : ℕ) (q : PageId) (x : Site) (bounds : Bounds sites m q (x.books q)) (open_here : x.purged q.seg ≡ false) where
  abbrev Moves : Input → Step → Type 0
  Moves input st = BookMove m q (x.books q) input (st.site.books q) st.sent

  same-moves : {c : Book} {sent : List Envelope} (input : Input) → c ≡ x.books q → Unheard m q (x.books q) input → BookMove m q (x.books q) input c sent
  same-moves input same unheard = keeps (x.books q).waiting same unheard

  aside-moves : {g : PageId → Book} {sent : List Envelope} (input : Input) → g ≡ x.books → Unheard m q (x.books q) input → BookMove m q (x.books q) input (g q) sent
  aside-moves input same unheard = same-moves input (ap (λ (f : PageId → Book). f q) same) unheard

  outcome-moves : (input : Input) (outcome : Outcome) → OutcomeMove m q (x.books q) input outcome → Moves input (to_book m q outcome x)
  outcome-moves input Ignored h = same-moves input refl h
  outcome-moves input UsedUp h = same-moves input refl h
  outcome-moves input (Taken c os) h = subst (λ (b : Book). BookMove m q (x.books q) input b (order_envelopes m q c os)) (sym (cond-true (same_page q q) c (x.books q) (same-page q))) h

  apart-moves : (input : Input) (page : PageId) (outcome : Outcome) → same_page page q ≡ false → Unheard m q (x.books q) input → Moves input (to_book m page outcome x)
  apart-moves input page Ignored apart h = same-moves input refl h
  apart-moves input page UsedUp apart h = same-moves input refl h
  apart-moves input page (Taken c os) apart h = same-moves input (cond-false (same_page page q) c (x.books q) apart) h

  module _ (from : ℕ) where
    abbrev Given : Message → Input
    Given msg = Deliver (record { from = from; to = m; message = msg })

    unheard : (msg : Message) → ((n : ℕ) → msg ≡ Of q (Cleared n) → ⊥) → ((n : ℕ) → msg ≡ Of q (Confirm n) → ⊥) → Unheard m q (x.books q) (Given msg)
    unheard msg f g = unheard-by m q (x.books q) (record { from = from; to = m; message = msg }) f g

    -- a note of another page
    elsewhere : (page : PageId) (note : Note) → (page ≡ q → ⊥) → Unheard m q (x.books q) (Given (Of page note))
    elsewhere page note other = unheard (Of page note) (λ n h. other (about page q note (Cleared n) h)) (λ n h. other (about page q note (Confirm n) h))

    note-here : (note : Note) → Moves (Given (Of q note)) (on_note sites m from q note x)
    note-here (Ask r kind) = outcome-moves (Given (Of q (Ask r kind))) (on_ask from r kind (x.books q)) (ask-move m q (x.books q) from r kind)
    note-here (Clear n) = aside-moves (Given (Of q (Clear n))) (entry-aside sites m x q (on_clear n (x.entries q))).books (unheard (Of q (Clear n)) (λ k h. cc) (λ k h. cc))
    note-here (Cleared n) = outcome-moves (Given (Of q (Cleared n))) (on_cleared from n (x.books q)) (cleared-move m q (x.books q) from n (x.books q).running refl)
    note-here (Hand n kind to) = aside-moves (Given (Of q (Hand n kind to))) (entry-aside sites m x q (on_hand m n kind to (x.entries q))).books (unheard (Of q (Hand n kind to)) (λ k h. cc) (λ k h. cc))
    note-here (Page n kind b) = aside-moves (Given (Of q (Page n kind b))) (entry-aside sites m x q (on_page n kind b (x.entries q))).books (unheard (Of q (Page n kind b)) (λ k h. cc) (λ k h. cc))
    note-here (Confirm n) = outcome-moves (Given (Of q (Confirm n))) (on_confirm from n (x.books q)) (confirm-move m q (x.books q) from n (x.books q).running refl)

    note-there : (page : PageId) (note : Note) → same_page page q ≡ false → (page ≡ q → ⊥) → Moves (Given (Of page note)) (on_note sites m from page note x)
    note-there page (Ask r kind) apart other = apart-moves (Given (Of page (Ask r kind))) page _ apart (elsewhere page (Ask r kind) other)
    note-there page (Clear n) apart other = aside-moves (Given (Of page (Clear n))) (entry-aside sites m x page (on_clear n (x.entries page))).books (elsewhere page (Clear n) other)
    note-there page (Cleared n) apart other = apart-moves (Given (Of page (Cleared n))) page _ apart (elsewhere page (Cleared n) other)
    note-there page (Hand n kind to) apart other = aside-moves (Given (Of page (Hand n kind to))) (entry-aside sites m x page (on_hand m n kind to (x.entries page))).books (elsewhere page (Hand n kind to) other)
    note-there page (Page n kind b) apart other = aside-moves (Given (Of page (Page n kind b))) (entry-aside sites m x page (on_page n kind b (x.entries page))).books (elsewhere page (Page n kind b) other)
    note-there page (Confirm n) apart other = apart-moves (Given (Of page (Confirm n))) page _ apart (elsewhere page (Confirm n) other)

    note-moves : (page : PageId) (note : Note) (same : Bool) → same_page page q ≡ same → Moves (Given (Of page note)) (on_note sites m from page note x)
    note-moves page note true e = subst (λ p. Moves (Given (Of p note)) (on_note sites m from p note x)) (sym (page-same page q e)) (note-here note)
    note-moves page note false e = note-there page note e (λ h. let both : true ≡ false = sym (same-page q) ∙ (ap (λ p. same_page p q) (sym h) ∙ e) in cc)

    message-moves : (msg : Message) → Moves (Given msg) (on_message sites m from msg x)
    message-moves (Of page note) =
        cond_both (x.purged page.seg) _ _ (Moves (Given (Of page note)))
        (λ e. same-moves (Given (Of page note)) refl (elsewhere page note (λ h. let both : true ≡ false = sym e ∙ (ap (λ (p : PageId). x.purged p.seg) h ∙ open_here) in cc)))
        (λ e. note-moves page note (same_page page q) refl)
    message-moves (Call number op) = aside-moves (Given (Call number op)) (call-quiet sites m from number op x).books (unheard (Call number op) (λ k h. cc) (λ k h. cc))
    message-moves (Replies number reply) = aside-moves (Given (Replies number reply)) (reply-quiet number reply x).books (unheard (Replies number reply) (λ k h. cc) (λ k h. cc))
    message-moves (Purge id) =
        cond_both (is_attached x id) _ _ (Moves (Given (Purge id))) (λ e. same-moves (Given (Purge id)) refl none)
        (λ e. by-segment (id == q.seg) refl)
      where
        none : Unheard m q (x.books q) (Given (Purge id))
        none = unheard (Purge id) (λ k h. cc) (λ k h. cc)

        by-segment : (b : Bool) → (id == q.seg) ≡ b → BookMove m q (x.books q) (Given (Purge id)) (if id == q.seg then untouched_book m else x.books q) (record { from = m; to = home_of_id sites id; message = Purged id } ∷ [])
        by-segment true e = stops (ap (λ (b : Book). b.running) (cond-true (id == q.seg) (untouched_book m) (x.books q) e))
        by-segment false e = keeps (x.books q).waiting (cond-false (id == q.seg) (untouched_book m) (x.books q) e) none
    message-moves (Purged id) = aside-moves (Given (Purged id)) (purged-quiet from id x).books (unheard (Purged id) (λ k h. cc) (λ k h. cc))

  -- what is waited for isn't foreign
  foreign-unheard : (e : Envelope) → foreign sites m e ≡ true → Unheard m q (x.books q) (Deliver e)
  foreign-unheard e refused = record {
    cleared = λ run t is waits h. refuse t (Cleared (x.books q).number) (bounds.copies t (copied (is_write run.kind) ((x.books q).copies t) (not (t == run.requester)) (not ((x.books q).cleared t)) waits))
        (bounds.running run is) h refl;
    confirmed = λ run is h. refuse run.requester (Confirm (x.books q).number) (bounds.running run is).small (bounds.running run is) h refl;
  }
    where
      copied : (a b c d : Bool) → ((a && b) && c) && d ≡ true → b ≡ true
      copied a b c d h = (and_parts a b (and_parts (a && b) c (and_parts ((a && b) && c) d h).0).0).1

      refuse : {r : ℕ} (t : ℕ) (note : Note) → t < sites → Asker sites m q r → Deliver e ≡ Deliver (note_envelope t m q note) → is_to_manager note ≡ true → ⊥
      refuse t note small asker h to_manager =
          let proper : foreign sites m (note_envelope t m q note) ≡ false = not-foreign sites m t q note small asker.limits (known (is_to_manager note) (manager_of sites q == m) (eq-eqb (manager_of sites q) m asker.manager)) in
          let both : true ≡ false = sym refused ∙ (ap (foreign sites m) (deliver-same e (note_envelope t m q note) h) ∙ proper) in
          cc
        where
          known : (a b : Bool) → b ≡ true → not a || b ≡ true
          known true b h = h
          known false b h = refl

  deliver-moves : (e : Envelope) → e.to ≡ m → Moves (Deliver e) (step sites m x (Deliver e))
  deliver-moves e here =
      cond_both (foreign sites m e) _ _ (Moves (Deliver e)) (λ h. same-moves (Deliver e) refl (foreign-unheard e h))
      (λ h. subst (λ t. Moves (Deliver (record { from = e.from; to = t; message = e.message })) (on_message sites m e.from e.message x)) (sym here) (message-moves e.from e.message))

  pub step-moves : (input : Input) → ((e : Envelope) → input ≡ Deliver e → e.to ≡ m) → input ≢ Restart → Moves input (step sites m x input)
  step-moves (Load a offset) to go = aside-moves (Load a offset) (load-aside sites m x (right x.attachments a offset false)).books (record { cleared = λ run t is waits h. cc; confirmed = λ run is h. cc })
  step-moves (Store a offset byte) to go = aside-moves (Store a offset byte) (store-aside sites m x (right x.attachments a offset true) byte).books (record { cleared = λ run t is waits h. cc; confirmed = λ run is h. cc })
  step-moves (Begin request) to go = aside-moves (Begin request) (begin-quiet sites m request x).books (record { cleared = λ run t is waits h. cc; confirmed = λ run is h. cc })
  step-moves (Deliver e) to go = deliver-moves e (to e refl)
  step-moves Tick to go = same-moves Tick refl (record { cleared = λ run t is waits h. cc; confirmed = λ run is h. cc })
  step-moves Restart to go = absurd (go refl)
