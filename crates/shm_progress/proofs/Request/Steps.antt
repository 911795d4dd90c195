-- What a step of a manager does to a request that it has taken up, and to an Ask.
use Rattle.std.proofs.Common.{◌≡◌, ◌≢◌, ℕ, ◌<◌, ◌⊎◌, inl, inr, Bool, true, false, ◌==◌, if◌then◌else◌, refl, sym, subst}
use Rattle.std.proofs.lemmas.Bool.{cond_both, cond-true, eq-eqb}
use Rattle.shm_place.specs.declared.page_id.PageId.{PageId}
use Rattle.shm_place.specs.Page.{in_limits, manager_of, same_page}
use Rattle.shm_model.specs.declared.request_kind.Kind.{Kind}
use Rattle.shm_model.specs.Entry.{Note, Ask, Clear, Cleared, Hand, Page, Confirm, on_clear, on_hand, on_page}
use Rattle.shm_model.specs.Book.{Book, Outcome, Ignored, UsedUp, Taken, on_ask, on_cleared, on_confirm, untouched_book}
use Rattle.shm_model.specs.Basics.{greatest}
use Rattle.shm_model.specs.Message.{Input, Load, Store, Begin, Deliver, Tick, Restart, Message, Of, Call, Replies, Purge, Purged}
use Rattle.shm_model.specs.Site.{Site, is_attached, Step}
use Rattle.shm_model.specs.Access.{right}
use Rattle.shm_model.specs.Transfer.{on_note, to_book}
use Rattle.shm_model.specs.Step.{deliver, foreign, on_message, step}
use Rattle.shm_laws.proofs.Page.Moves.{page-same, same-page}
use Rattle.shm_laws.proofs.Move.Calls.{begin-quiet, call-quiet, purged-quiet, reply-quiet}
use Rattle.shm_progress.specs.Requests.{IsTakenUp, TakesNone}
use Rattle.shm_progress.proofs.BooksKept.{OutcomeHolds}
use Rattle.shm_progress.proofs.Transfer.Heard.{note-heard}
use Rattle.shm_progress.proofs.Transfer.Rows.{note_envelope}
use Rattle.shm_progress.proofs.Transfer.Steps.{entry-aside, load-aside, store-aside}
use Rattle.shm_progress.proofs.Request.Books.{AskHeard, ask-heard, ask-taken, cleared-taken, confirm-taken}

module _ (sites m : ℕ) (q : PageId) (x : Site) (s r : ℕ) where
  -- an Ask of the request that is handed over is taken up, unless the book takes none
  pub ask-handed : (kind : Kind) → s < sites → in_limits sites q ≡ true → manager_of sites q ≡ m → x.purged q.seg ≡ false
      → IsTakenUp ((deliver sites m (note_envelope s m q (Ask r kind)) x).site.books q) s r ⊎ TakesNone (x.books q)
  ask-handed kind small limits manager open_here =
      subst (λ (st : Step). IsTakenUp (st.site.books q) s r ⊎ TakesNone (x.books q)) (sym (note-heard sites m s q (Ask r kind) x small limits (eq-eqb (manager_of sites q) m manager) open_here))
      (by-outcome (on_ask s r kind (x.books q)) (ask-heard s r kind (x.books q)))
    where
      by-outcome : (outcome : Outcome) → AskHeard s r (x.books q) outcome → IsTakenUp ((to_book m q outcome x).site.books q) s r ⊎ TakesNone (x.books q)
      by-outcome Ignored h = h
      by-outcome UsedUp h = inr h
      by-outcome (Taken c os) h = inl (subst (λ (b : Book). IsTakenUp b s r) (sym (cond-true (same_page q q) c (x.books q) (same-page q))) h)

  module _ (taken : IsTakenUp (x.books q) s r) (few : ((x.books q).number == greatest) ≡ false) where
    abbrev Keeps : Step → Type 0
    Keeps st = IsTakenUp (st.site.books q) s r ⊎ (st.site.purged q.seg ≡ true)

    same-keeps : {f : PageId → Book} (gone : Bool) → f ≡ x.books → IsTakenUp (f q) s r ⊎ (gone ≡ true)
    same-keeps gone same = inl (subst (λ (f : PageId → Book). IsTakenUp (f q) s r) (sym same) taken)

    outcome-keeps : (page : PageId) (outcome : Outcome) → (page ≡ q → OutcomeHolds (λ b. IsTakenUp b s r) outcome) → Keeps (to_book m page outcome x)
    outcome-keeps page Ignored h = inl taken
    outcome-keeps page UsedUp h = inl taken
    outcome-keeps page (Taken c os) h = inl (cond_both (same_page page q) c (x.books q) (λ (b : Book). IsTakenUp b s r) (λ e. h (page-same page q e)) (λ e. taken))

    at-page : (page : PageId) (row : Book → Outcome) → OutcomeHolds (λ b. IsTakenUp b s r) (row (x.books q)) → page ≡ q → OutcomeHolds (λ b. IsTakenUp b s r) (row (x.books page))
    at-page page row h same = subst (λ p. OutcomeHolds (λ b. IsTakenUp b s r) (row (x.books p))) (sym same) h

    note-keeps : (from : ℕ) (page : PageId) (note : Note) → Keeps (on_note sites m from page note x)
    note-keeps from page (Ask n kind) = outcome-keeps page _ (at-page page (on_ask from n kind) (ask-taken s r from n kind (x.books q) taken))
    note-keeps from page (Clear n) = same-keeps _ (entry-aside sites m x page (on_clear n (x.entries page))).books
    note-keeps from page (Cleared n) = outcome-keeps page _ (at-page page (on_cleared from n) (cleared-taken s r (x.books q).running from n (x.books q) taken))
    note-keeps from page (Hand n kind to) = same-keeps _ (entry-aside sites m x page (on_hand m n kind to (x.entries page))).books
    note-keeps from page (Page n kind b) = same-keeps _ (entry-aside sites m x page (on_page n kind b (x.entries page))).books
    note-keeps from page (Confirm n) = outcome-keeps page _ (at-page page (on_confirm from n) (confirm-taken s r (x.books q).running from n (x.books q) few taken))

    message-keeps : (from : ℕ) (msg : Message) → Keeps (on_message sites m from msg x)
    message-keeps from (Of page note) = cond_both (x.purged page.seg) _ _ Keeps (λ e. inl taken) (λ e. note-keeps from page note)
    message-keeps from (Call number op) = same-keeps _ (call-quiet sites m from number op x).books
    message-keeps from (Replies number reply) = same-keeps _ (reply-quiet number reply x).books
    message-keeps from (Purge id) =
        cond_both (is_attached x id) _ _ Keeps (λ e. inl taken) (λ e. by-segment (id == q.seg) (x.purged q.seg))
      where
        by-segment : (b gone : Bool) → IsTakenUp (if b then untouched_book m else x.books q) s r ⊎ ((if b then true else gone) ≡ true)
        by-segment true gone = inr refl
        by-segment false gone = inl taken
    message-keeps from (Purged id) = same-keeps _ (purged-quiet from id x).books

    pub step-keeps : (input : Input) → input ≢ Restart → Keeps (step sites m x input)
    step-keeps (Load a offset) go = same-keeps _ (load-aside sites m x (right x.attachments a offset false)).books
    step-keeps (Store a offset byte) go = same-keeps _ (store-aside sites m x (right x.attachments a offset true) byte).books
    step-keeps (Begin request) go = same-keeps _ (begin-quiet sites m request x).books
    step-keeps (Deliver e) go = cond_both (foreign sites m e) _ _ Keeps (λ h. inl taken) (λ h. message-keeps e.from e.message)
    step-keeps Tick go = inl taken
    step-keeps Restart go = absurd (go refl)
