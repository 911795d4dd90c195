-- What a book has served was asked for.
use Rattle.std.proofs.Common.{◌≡◌, ℕ, ◌⊎◌, inl, inr, ◌==◌, Some, List, ◌++◌, slice_get, sym, subst, refl, Contains}
use Rattle.std.proofs.lemmas.Bool.{cond_both, eqb-true}
use Rattle.std.proofs.lemmas.List.Elements.{Contains-append_left}
use Rattle.shm_place.specs.declared.page_id.PageId.{PageId}
use Rattle.shm_model.specs.declared.event.Event.{Event}
use Rattle.shm_model.specs.declared.request_kind.Kind.{Kind}
use Rattle.shm_model.specs.Entry.{Ask}
use Rattle.shm_model.specs.Book.{Book, Outcome, Ignored, UsedUp, Taken, Waiting, on_ask, on_cleared, on_confirm}
use Rattle.shm_model.specs.Basics.{at}
use Rattle.shm_model.specs.Message.{Envelope}
use Rattle.shm_model.specs.Site.{Site}
use Rattle.shm_model.specs.World.{Opening, run, sites_of}
use Rattle.shm_laws.proofs.Page.Orders.{each-imp}
use Rattle.shm_progress.proofs.Ending.Books.{AllAsked, BookFalls, ignored, used_up, goes_on, starts, ask-falls, cleared-falls, confirm-falls}
use Rattle.shm_progress.proofs.Ending.Waiting.{ask-waits, cleared-waits-while, confirm-waits-while}
use Rattle.shm_progress.proofs.BooksKept.{OutcomeHolds, WorldRule, run-books}
use Rattle.shm_progress.proofs.Transfer.Rows.{note_envelope}

module _ (A : ℕ → ℕ → Kind → Type 0) where
  abbrev pub AllServed : Book → Type 0
  AllServed b = (u : ℕ) → (b.served u ≡ 0) ⊎ ((kind : Kind) × A u (b.served u) kind)

  pub record Asked (b : Book) : Type 0 where
    pub served : AllServed b
    pub waiting : AllAsked A b.waiting

  module _ (b : Book) (h : AllServed b) where
    same-served : (c : Book) → c.served ≡ b.served → AllServed c
    same-served c is = λ u. subst (λ (f : ℕ → ℕ). (f u ≡ 0) ⊎ ((kind : Kind) × A u (f u) kind)) (sym is) (h u)

    started-served : (c : Book) (from request : ℕ) (kind : Kind) → A from request kind → c.served ≡ at b.served from request → AllServed c
    started-served c from request kind asked is = λ u.
        subst (λ (f : ℕ → ℕ). (f u ≡ 0) ⊎ ((k : Kind) × A u (f u) k)) (sym is)
        (cond_both (from == u) request (b.served u) (λ n. (n ≡ 0) ⊎ ((k : Kind) × A u n k)) (λ e. inr (kind, subst (λ t. A t request kind) (eqb-true from u e) asked)) (λ e. h u))

    falls-served : (left : ℕ) (outcome : Outcome) → BookFalls A b left outcome → OutcomeHolds AllServed outcome
    falls-served left Ignored ignored = tt
    falls-served left UsedUp used_up = tt
    falls-served left (Taken _ _) (goes_on c os same less) = same-served c same
    falls-served left (Taken _ _) (starts c os from request kind asked above same few) = started-served c from request kind asked same

both : (A : ℕ → ℕ → Kind → Type 0) (outcome : Outcome) → OutcomeHolds (AllServed A) outcome → OutcomeHolds (λ b. AllAsked A b.waiting) outcome → OutcomeHolds (Asked A) outcome
both A Ignored h k = tt
both A UsedUp h k = tt
both A (Taken b os) h k = record { served = h; waiting = k }

-- in every run
abbrev WasAsked : List Envelope → ℕ → PageId → ℕ → ℕ → Kind → Type 0
WasAsked sent m q from r kind = Contains sent (note_envelope from m q (Ask r kind))

abbrev pub BookAsked : List Envelope → ℕ → PageId → Book → Type 0
BookAsked sent m q b = Asked (WasAsked sent m q) b

asked-rule : (sites : ℕ) → WorldRule sites BookAsked
asked-rule sites = record {
  rule = λ sent m small. record {
    fresh = λ q. record { served = λ u. inl refl; waiting = tt };
    restarted = λ q b h. record { served = h.served; waiting = tt };
    asked = λ q b from r kind h was proper.
        both (WasAsked sent m q) (on_ask from r kind b) (falls-served (WasAsked sent m q) b h.served 1 _ (ask-falls (WasAsked sent m q) b from r kind was)) (ask-waits (WasAsked sent m q) from r kind b was h.waiting);
    cleared = λ q b from n h.
        both (WasAsked sent m q) (on_cleared from n b) (falls-served (WasAsked sent m q) b h.served 4 _ (cleared-falls (WasAsked sent m q) b from n)) (cleared-waits-while (WasAsked sent m q) b.running from n b h.waiting);
    confirmed = λ q b from n h.
        both (WasAsked sent m q) (on_confirm from n b) (falls-served (WasAsked sent m q) b h.served 1 _ (confirm-falls (WasAsked sent m q) b from n h.waiting)) (confirm-waits-while (WasAsked sent m q) b.running from n b h.waiting);
  };
  more = λ sent new m q b h. record {
    served = λ u. longer sent new m q b u (h.served u);
    waiting = each-imp (λ (w : Waiting). WasAsked sent m q w.from w.request w.kind) (λ (w : Waiting). WasAsked (sent ++ new) m q w.from w.request w.kind) b.waiting (λ w was. Contains-append_left sent new _ was) h.waiting;
  };
}
  where
    longer : (sent new : List Envelope) (m : ℕ) (q : PageId) (b : Book) (u : ℕ) → (b.served u ≡ 0) ⊎ ((kind : Kind) × WasAsked sent m q u (b.served u) kind)
        → (b.served u ≡ 0) ⊎ ((kind : Kind) × WasAsked (sent ++ new) m q u (b.served u) kind)
    longer sent new m q b u (inl none) = inl none
    longer sent new m q b u (inr (kind, was)) = inr (kind, Contains-append_left sent new _ was)

pub run-asked : (o : Opening) (events : List Event) (m : ℕ) (y : Site) → slice_get (run o events).world.sites m ≡ Some y → (q : PageId) → BookAsked (run o events).world.sent m q (y.books q)
run-asked o events m y found q = (run-books BookAsked o (asked-rule (sites_of o)) events).each m y found q
