-- Whom a manager's book names are sites, and a page that was asked for is in the limits and at its manager.
use Rattle.std.proofs.Common.{◌≡◌, ℕ, ◌<◌, Bool, true, false, ◌==◌, ◌&&◌, not, ◌||◌, Option, Some, None, List, [], ◌∷◌, length, nat_le, nat_lt, slice_get, refl, ap, subst}
use Rattle.std.proofs.lemmas.Bool.{cond_both, eqb-true, ltb-true}
use Rattle.shm_place.specs.declared.page_id.PageId.{PageId}
use Rattle.shm_place.specs.Page.{in_limits, manager_of}
use Rattle.shm_model.specs.declared.event.Event.{Event}
use Rattle.shm_model.specs.declared.request_kind.Kind.{Kind}
use Rattle.shm_model.specs.Entry.{Ask}
use Rattle.shm_model.specs.Book.{Book, Running, Waiting, ask_while, awaits, cleared_while, confirm_while, ended, is_waiting, is_write, max_waiting, on_ask, serve_next, start, start_first, unserved}
use Rattle.shm_model.specs.Basics.{at, greatest}
use Rattle.shm_model.specs.Message.{Of}
use Rattle.shm_model.specs.Site.{Site}
use Rattle.shm_model.specs.Step.{foreign}
use Rattle.shm_model.specs.World.{Opening, run, sites_of}
use Rattle.shm_progress.proofs.Ending.Books.{AllAsked}
use Rattle.shm_progress.proofs.Ending.Waiting.{ask-waits, unserved-waits}
use Rattle.shm_progress.proofs.BooksKept.{OutcomeHolds, WorldRule, run-books}

-- a site that can have asked for the page
pub record Asker (sites s : ℕ) (q : PageId) (from : ℕ) : Type 0 where
  pub small : from < sites
  pub limits : in_limits sites q ≡ true
  pub manager : manager_of sites q ≡ s

pub record Bounds (sites s : ℕ) (q : PageId) (b : Book) : Type 0 where
  pub owner : b.owner < sites
  pub copies : (t : ℕ) → b.copies t ≡ true → t < sites
  pub running : (run : Running) → b.running ≡ Some run → Asker sites s q run.requester
  pub waiting : AllAsked (λ from r kind. Asker sites s q from) b.waiting

-- an Ask that isn't foreign
proper-asker : (sites s : ℕ) (q : PageId) (from r : ℕ) (kind : Kind) → foreign sites s (record { from = from; to = s; message = Of q (Ask r kind) }) ≡ false → Asker sites s q from
proper-asker sites s q from r kind e = parts (s == s) (nat_lt from sites) (in_limits sites q) (manager_of sites q == s) e refl refl refl
  where
    parts : (a b c d : Bool) → not ((a && b) && (c && (not true || d))) ≡ false → (nat_lt from sites) ≡ b → in_limits sites q ≡ c → (manager_of sites q == s) ≡ d → Asker sites s q from
    parts true true true true e f g h = record { small = ltb-true from sites f; limits = g; manager = eqb-true (manager_of sites q) s h }
    parts true true true false e f g h = cc
    parts true true false d e f g h = cc
    parts true false c d e f g h = cc
    parts false b c d e f g h = cc

some-none : (run : Running) → None ≡ Some run → ⊥
some-none run e = cc

module _ (sites s : ℕ) (q : PageId) where
  abbrev Asks : ℕ → ℕ → Kind → Type 0
  Asks from r kind = Asker sites s q from

  start-bounds : (from r : ℕ) (kind : Kind) (b : Book) → Bounds sites s q b → Asker sites s q from → OutcomeHolds (Bounds sites s q) (start from r kind b)
  start-bounds from r kind b h asker =
      cond_both (b.number == greatest) _ _ (OutcomeHolds (Bounds sites s q)) (λ e. tt)
      (λ e. record { owner = h.owner; copies = h.copies; running = λ run is. let same : from ≡ run.requester = the-requester run is in subst (Asker sites s q) same asker; waiting = h.waiting })
    where
      the-requester : (run : Running) → ◌≡◌ {A = Option Running} (Some (record { kind = kind; requester = from })) (Some run) → from ≡ run.requester
      the-requester run is = let same : ◌≡◌ {A = Running} (record { kind = kind; requester = from }) run = cc in ap (λ (x : Running). x.requester) same

  while-bounds : (running : Option Running) (from r : ℕ) (kind : Kind) (b : Book) → Bounds sites s q b → Asker sites s q from → OutcomeHolds (λ (c : Book). AllAsked Asks c.waiting) (ask_while running from r kind b)
      → OutcomeHolds (Bounds sites s q) (ask_while running from r kind b)
  while-bounds None from r kind b h asker w = start-bounds from r kind b h asker
  while-bounds (Some run) from r kind b h asker w =
      cond_both (is_waiting from r b.waiting) _ _ (λ o. OutcomeHolds (λ (c : Book). AllAsked Asks c.waiting) o → OutcomeHolds (Bounds sites s q) o) (λ e w. tt)
      (λ e. cond_both (nat_le max_waiting (length b.waiting)) _ _ (λ o. OutcomeHolds (λ (c : Book). AllAsked Asks c.waiting) o → OutcomeHolds (Bounds sites s q) o) (λ f w. tt)
      (λ f w. record { owner = h.owner; copies = h.copies; running = h.running; waiting = w })) w

  ask-bounds : (from r : ℕ) (kind : Kind) (b : Book) → Bounds sites s q b → Asker sites s q from → OutcomeHolds (Bounds sites s q) (on_ask from r kind b)
  ask-bounds from r kind b h asker =
      cond_both (nat_le r (b.served from)) _ _ (λ o. OutcomeHolds (λ (c : Book). AllAsked Asks c.waiting) o → OutcomeHolds (Bounds sites s q) o) (λ e w. tt)
      (λ e w. while-bounds b.running from r kind b h asker w) (ask-waits Asks from r kind b asker h.waiting)

  cleared-bounds : (running : Option Running) (from n : ℕ) (b : Book) → Bounds sites s q b → OutcomeHolds (Bounds sites s q) (cleared_while running from n b)
  cleared-bounds None from n b h = tt
  cleared-bounds (Some run) from n b h =
      cond_both ((n == b.number) && awaits b run from) _ _ (OutcomeHolds (Bounds sites s q)) (λ e. record { owner = h.owner; copies = h.copies; running = h.running; waiting = h.waiting }) (λ e. tt)

  first-bounds : (ws : List Waiting) (b : Book) → Bounds sites s q b → AllAsked Asks ws → OutcomeHolds (Bounds sites s q) (start_first ws b)
  first-bounds [] b h waits = record { owner = h.owner; copies = h.copies; running = h.running; waiting = tt }
  first-bounds (w ∷ ws) b h waits =
      start-bounds w.from w.request w.kind (record b { waiting = ws }) (record { owner = h.owner; copies = h.copies; running = h.running; waiting = waits.1 }) waits.0

  serve-bounds : (b : Book) → Bounds sites s q b → OutcomeHolds (Bounds sites s q) (serve_next b)
  serve-bounds b h =
      cond_both (b.number == greatest) _ _ (OutcomeHolds (Bounds sites s q)) (λ e. record { owner = h.owner; copies = h.copies; running = h.running; waiting = tt })
      (λ e. first-bounds (unserved b.served b.waiting) b h (unserved-waits Asks b.served b.waiting h.waiting))

  at-small : (f : ℕ → Bool) (k : ℕ) → k < sites → ((t : ℕ) → f t ≡ true → t < sites) → (t : ℕ) → at f k true t ≡ true → t < sites
  at-small f k small all t = cond_both (k == t) true (f t) (λ b. b ≡ true → t < sites) (λ e g. subst (λ x. x < sites) (eqb-true k t e) small) (λ e g. all t g)

  ended-bounds : (run : Running) (b : Book) → b.running ≡ Some run → Bounds sites s q b → Bounds sites s q (ended run b)
  ended-bounds run b is h =
      cond_both (is_write run.kind) _ _ (Bounds sites s q)
      (λ e. record { owner = (h.running run is).small; copies = λ t f. cc; running = λ r f. absurd (some-none r f); waiting = h.waiting })
      (λ e. cond_both (run.requester == b.owner) _ _ (Bounds sites s q)
      (λ f. record { owner = h.owner; copies = h.copies; running = λ r g. absurd (some-none r g); waiting = h.waiting })
      (λ f. record { owner = h.owner; copies = at-small b.copies run.requester (h.running run is).small h.copies; running = λ r g. absurd (some-none r g); waiting = h.waiting }))

  confirm-bounds : (running : Option Running) (from n : ℕ) (b : Book) → b.running ≡ running → Bounds sites s q b → OutcomeHolds (Bounds sites s q) (confirm_while running from n b)
  confirm-bounds None from n b is h = tt
  confirm-bounds (Some run) from n b is h =
      cond_both ((n == b.number) && (from == run.requester)) _ _ (OutcomeHolds (Bounds sites s q)) (λ e. serve-bounds (ended run b) (ended-bounds run b is h)) (λ e. tt)

bounds-rule : (sites : ℕ) → WorldRule sites (λ sent s q b. Bounds sites s q b)
bounds-rule sites = record {
  rule = λ sent s small. record {
    fresh = λ q. record { owner = small; copies = λ t f. cc; running = λ r f. absurd (some-none r f); waiting = tt };
    restarted = λ q b h. record { owner = h.owner; copies = h.copies; running = h.running; waiting = tt };
    asked = λ q b from r kind h was proper. ask-bounds sites s q from r kind b h (proper-asker sites s q from r kind proper);
    cleared = λ q b from n h. cleared-bounds sites s q b.running from n b h;
    confirmed = λ q b from n h. confirm-bounds sites s q b.running from n b refl h;
  };
  more = λ sent new s q b h. h;
}

pub run-bounds : (o : Opening) (events : List Event) (s : ℕ) (x : Site) → slice_get (run o events).world.sites s ≡ Some x → (q : PageId) → Bounds (sites_of o) s q (x.books q)
run-bounds o events s x found q = (run-books (λ sent s q b. Bounds (sites_of o) s q b) o (bounds-rule (sites_of o)) events).each s x found q
