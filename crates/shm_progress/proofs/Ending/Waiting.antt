-- Whoever waits in a book has asked: its Ask was sent to the book's site.
use Rattle.std.proofs.Common.{◌≡◌, ℕ, ◌==◌, ◌&&◌, Option, Some, None, List, [], ◌∷◌, ◌++◌, length, nat_le, slice_get, Contains}
use Rattle.std.proofs.lemmas.Bool.{cond_both}
use Rattle.std.proofs.lemmas.List.Elements.{Contains-append_left}
use Rattle.shm_place.specs.declared.page_id.PageId.{PageId}
use Rattle.shm_model.specs.declared.event.Event.{Event}
use Rattle.shm_model.specs.declared.request_kind.Kind.{Kind}
use Rattle.shm_model.specs.Entry.{Ask}
use Rattle.shm_model.specs.Book.{Book, Outcome, Running, Waiting, ask_while, awaits, cleared_while, confirm_while, ended, is_waiting, is_write, max_waiting, on_ask, serve_next, start, start_first, unserved}
use Rattle.shm_model.specs.Basics.{greatest}
use Rattle.shm_model.specs.Message.{Envelope, Of}
use Rattle.shm_model.specs.Site.{Site}
use Rattle.shm_model.specs.World.{Opening, run, sites_of}
use Rattle.shm_laws.proofs.Page.Orders.{Each, each-imp}
use Rattle.shm_progress.proofs.Ending.Books.{AllAsked}
use Rattle.shm_progress.proofs.Ending.Steps.{WaitingAsked}
use Rattle.shm_progress.proofs.BooksKept.{OutcomeHolds, WorldRule, run-books}

-- a book's rows
abbrev OutcomeWaits : (ℕ → ℕ → Kind → Type 0) → Outcome → Type 0
OutcomeWaits A outcome = OutcomeHolds (λ b. AllAsked A b.waiting) outcome

pub each-push : {X : Type 0} (P : X → Type 0) (xs : List X) (y : X) → Each P xs → P y → Each P (xs ++ (y ∷ []))
each-push P [] y a p = (p, tt)
each-push P (x ∷ xs) y a p = (a.0, each-push P xs y a.1 p)

module _ (A : ℕ → ℕ → Kind → Type 0) where
  start-waits : (s r : ℕ) (kind : Kind) (b : Book) → AllAsked A b.waiting → OutcomeWaits A (start s r kind b)
  start-waits s r kind b waits = cond_both (b.number == greatest) _ _ (OutcomeWaits A) (λ e. tt) (λ e. waits)

  while-waits : (running : Option Running) (s r : ℕ) (kind : Kind) (b : Book) → A s r kind → AllAsked A b.waiting → OutcomeWaits A (ask_while running s r kind b)
  while-waits None s r kind b asked waits = start-waits s r kind b waits
  while-waits (Some run) s r kind b asked waits =
      cond_both (is_waiting s r b.waiting) _ _ (OutcomeWaits A) (λ e. tt)
      (λ e. cond_both (nat_le max_waiting (length b.waiting)) _ _ (OutcomeWaits A) (λ f. tt)
      (λ f. each-push (λ (w : Waiting). A w.from w.request w.kind) b.waiting (record { from = s; request = r; kind = kind }) waits asked))

  pub ask-waits : (s r : ℕ) (kind : Kind) (b : Book) → A s r kind → AllAsked A b.waiting → OutcomeWaits A (on_ask s r kind b)
  ask-waits s r kind b asked waits = cond_both (nat_le r (b.served s)) _ _ (OutcomeWaits A) (λ e. tt) (λ e. while-waits b.running s r kind b asked waits)

  pub cleared-waits-while : (running : Option Running) (s n : ℕ) (b : Book) → AllAsked A b.waiting → OutcomeWaits A (cleared_while running s n b)
  cleared-waits-while None s n b waits = tt
  cleared-waits-while (Some run) s n b waits = cond_both ((n == b.number) && awaits b run s) _ _ (OutcomeWaits A) (λ e. waits) (λ e. tt)

  pub unserved-waits : (served : ℕ → ℕ) (ws : List Waiting) → AllAsked A ws → AllAsked A (unserved served ws)
  unserved-waits served [] waits = tt
  unserved-waits served (w ∷ ws) waits = cond_both (nat_le w.request (served w.from)) _ _ (AllAsked A) (λ e. unserved-waits served ws waits.1) (λ e. waits)

  first-waits : (ws : List Waiting) (b : Book) → AllAsked A ws → OutcomeWaits A (start_first ws b)
  first-waits [] b waits = tt
  first-waits (w ∷ ws) b waits = start-waits w.from w.request w.kind (record b { waiting = ws }) waits.1

  serve-waits : (b : Book) → AllAsked A b.waiting → OutcomeWaits A (serve_next b)
  serve-waits b waits = cond_both (b.number == greatest) _ _ (OutcomeWaits A) (λ e. tt) (λ e. first-waits (unserved b.served b.waiting) b (unserved-waits b.served b.waiting waits))

  pub ended-waits : (run : Running) (b : Book) → AllAsked A b.waiting → AllAsked A (ended run b).waiting
  ended-waits run b waits =
      cond_both (is_write run.kind) _ _ (λ (c : Book). AllAsked A c.waiting) (λ e. waits) (λ e. cond_both (run.requester == b.owner) _ _ (λ (c : Book). AllAsked A c.waiting) (λ f. waits) (λ f. waits))

  pub confirm-waits-while : (running : Option Running) (s n : ℕ) (b : Book) → AllAsked A b.waiting → OutcomeWaits A (confirm_while running s n b)
  confirm-waits-while None s n b waits = tt
  confirm-waits-while (Some run) s n b waits =
      cond_both ((n == b.number) && (s == run.requester)) _ _ (OutcomeWaits A) (λ e. serve-waits (ended run b) (ended-waits run b waits)) (λ e. tt)

-- in every run
abbrev pub Waits : List Envelope → ℕ → PageId → Book → Type 0
Waits sent s q b = AllAsked (λ from r kind. Contains sent (record { from = from; to = s; message = Of q (Ask r kind) })) b.waiting

waits-rule : (sites : ℕ) → WorldRule sites Waits
waits-rule sites = record {
  rule = λ sent s small. record {
    fresh = λ q. tt;
    restarted = λ q b h. tt;
    asked = λ q b from r kind h was proper. ask-waits (λ from r kind. Contains sent (record { from = from; to = s; message = Of q (Ask r kind) })) from r kind b was h;
    cleared = λ q b from n h. cleared-waits-while (λ from r kind. Contains sent (record { from = from; to = s; message = Of q (Ask r kind) })) b.running from n b h;
    confirmed = λ q b from n h. confirm-waits-while (λ from r kind. Contains sent (record { from = from; to = s; message = Of q (Ask r kind) })) b.running from n b h;
  };
  more = λ sent new s q b h. each-imp (λ (w : Waiting). Contains sent (record { from = w.from; to = s; message = Of q (Ask w.request w.kind) }))
      (λ (w : Waiting). Contains (sent ++ new) (record { from = w.from; to = s; message = Of q (Ask w.request w.kind) })) b.waiting (λ w was. Contains-append_left sent new _ was) h;
}

pub run-waits : (o : Opening) (events : List Event) (sites s : ℕ) (x : Site) → slice_get (run o events).world.sites s ≡ Some x → WaitingAsked sites s (run o events).world.sent x
run-waits o events sites s x found = record { asked = λ page. (run-books Waits o (waits-rule (sites_of o)) events).each s x found page }
