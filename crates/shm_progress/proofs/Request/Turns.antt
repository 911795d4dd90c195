-- A step of the manager keeps that a request that is pending and was started is the transaction that runs.
use Rattle.std.proofs.Common.{◌≡◌, ℕ, ◌≤◌, Bool, true, false, ◌==◌, if◌then◌else◌, arith, refl, sym, subst}
use Rattle.std.proofs.lemmas.Bool.{cond_both}
use Rattle.shm_place.specs.declared.page_id.PageId.{PageId}
use Rattle.shm_place.specs.Page.{same_page}
use Rattle.shm_model.specs.Entry.{Note, Ask, Clear, Cleared, Hand, Page, Confirm, on_clear, on_hand, on_page}
use Rattle.shm_model.specs.Book.{Book, Outcome, Ignored, UsedUp, Taken, on_ask, on_cleared, on_confirm, untouched_book}
use Rattle.shm_model.specs.Message.{Envelope, Input, Load, Store, Begin, Deliver, Tick, Restart, Message, Of, Call, Replies, Purge, Purged}
use Rattle.shm_model.specs.Site.{Pending, Site, is_attached, Step}
use Rattle.shm_model.specs.Access.{right}
use Rattle.shm_model.specs.Transfer.{on_note, to_book}
use Rattle.shm_model.specs.Step.{foreign, on_message, step}
use Rattle.shm_laws.proofs.Page.Moves.{page-same}
use Rattle.shm_laws.proofs.Move.Calls.{begin-quiet, call-quiet, purged-quiet, reply-quiet}
use Rattle.shm_progress.proofs.Ending.Books.{AllAsked}
use Rattle.shm_progress.proofs.BooksKept.{OutcomeHolds}
use Rattle.shm_progress.proofs.Request.Turn.{InTurn, IsBehind, ask-turn, cleared-turn, confirm-turn, same-turn}
use Rattle.shm_progress.proofs.Transfer.Steps.{entry-aside, load-aside, store-aside}

module _ (sites m : ℕ) (q : PageId) (x : Site) (s : ℕ) (p : Pending) (met : ℕ) where
  -- what an Ask and a Confirm say of the request
  abbrev pub Says : ℕ → Note → Type 0
  Says from (Ask r kind) = IsBehind s p from r kind
  Says from (Confirm n) = from ≡ s → n ≤ met
  Says from _ = Unit {0}

  module _ (some : 1 ≤ p.request) (low : x.purged q.seg ≡ false → met ≤ (x.books q).number) (behind : AllAsked (IsBehind s p) (x.books q).waiting) (turn : InTurn s p met (x.books q)) where
    abbrev Keeps : Step → Type 0
    Keeps st = InTurn s p met (st.site.books q)

    same-keeps : {f : PageId → Book} → f ≡ x.books → InTurn s p met (f q)
    same-keeps same = subst (λ (f : PageId → Book). InTurn s p met (f q)) (sym same) turn

    outcome-keeps : (page : PageId) (outcome : Outcome) → (page ≡ q → OutcomeHolds (InTurn s p met) outcome) → Keeps (to_book m page outcome x)
    outcome-keeps page Ignored h = turn
    outcome-keeps page UsedUp h = turn
    outcome-keeps page (Taken c os) h = cond_both (same_page page q) c (x.books q) (λ (b : Book). InTurn s p met b) (λ e. h (page-same page q e)) (λ e. turn)

    at-page : (page : PageId) (row : Book → Outcome) → OutcomeHolds (InTurn s p met) (row (x.books q)) → page ≡ q → OutcomeHolds (InTurn s p met) (row (x.books page))
    at-page page row h same = subst (λ k. OutcomeHolds (InTurn s p met) (row (x.books k))) (sym same) h

    module _ (from : ℕ) (msg : Message) (says : (note : Note) → msg ≡ Of q note → Says from note) where
      said : (page : PageId) (note : Note) → msg ≡ Of page note → page ≡ q → Says from note
      said page note is same = says note (subst (λ k. msg ≡ Of k note) same is)

      opened : (page : PageId) → x.purged page.seg ≡ false → page ≡ q → met ≤ (x.books q).number
      opened page open_here same = low (subst (λ (k : PageId). x.purged k.seg ≡ false) same open_here)

      note-keeps : (page : PageId) (note : Note) → msg ≡ Of page note → x.purged page.seg ≡ false → Keeps (on_note sites m from page note x)
      note-keeps page (Ask r kind) is free =
          outcome-keeps page _ (λ same. at-page page (on_ask from r kind) (ask-turn s p met (x.books q) (opened page free same) turn from r kind (said page (Ask r kind) is same)) same)
      note-keeps page (Clear n) is free = same-keeps (entry-aside sites m x page (on_clear n (x.entries page))).books
      note-keeps page (Cleared n) is free = outcome-keeps page _ (λ same. at-page page (on_cleared from n) (cleared-turn s p met (x.books q) (opened page free same) turn from n) same)
      note-keeps page (Hand n kind to) is free = same-keeps (entry-aside sites m x page (on_hand m n kind to (x.entries page))).books
      note-keeps page (Page n kind b) is free = same-keeps (entry-aside sites m x page (on_page n kind b (x.entries page))).books
      note-keeps page (Confirm n) is free =
          outcome-keeps page _ (λ same. at-page page (on_confirm from n) (confirm-turn s p met (x.books q) (opened page free same) turn from n (said page (Confirm n) is same) behind) same)

    message-keeps : (from : ℕ) (msg : Message) → ((note : Note) → msg ≡ Of q note → Says from note) → Keeps (on_message sites m from msg x)
    message-keeps from (Of page note) says = cond_both (x.purged page.seg) _ _ Keeps (λ e. turn) (λ e. note-keeps from (Of page note) says page note refl e)
    message-keeps from (Call number op) says = same-keeps (call-quiet sites m from number op x).books
    message-keeps from (Replies number reply) says = same-keeps (reply-quiet number reply x).books
    message-keeps from (Purge id) says =
        cond_both (is_attached x id) _ _ Keeps (λ e. turn) (λ e. by-segment (id == q.seg))
      where
        by-segment : (b : Bool) → InTurn s p met (if b then untouched_book m else x.books q)
        by-segment true = λ reached. absurd (omega (arith, reached, some))
        by-segment false = turn
    message-keeps from (Purged id) says = same-keeps (purged-quiet from id x).books

    pub step-turns : (input : Input) → ((e : Envelope) → input ≡ Deliver e → (note : Note) → e.message ≡ Of q note → Says e.from note) → Keeps (step sites m x input)
    step-turns (Load a offset) says = same-keeps (load-aside sites m x (right x.attachments a offset false)).books
    step-turns (Store a offset byte) says = same-keeps (store-aside sites m x (right x.attachments a offset true) byte).books
    step-turns (Begin request) says = same-keeps (begin-quiet sites m request x).books
    step-turns (Deliver e) says = cond_both (foreign sites m e) _ _ Keeps (λ h. turn) (λ h. message-keeps e.from e.message (says e refl))
    step-turns Tick says = turn
    step-turns Restart says = same-turn s p met (x.books q) _ refl refl refl turn
