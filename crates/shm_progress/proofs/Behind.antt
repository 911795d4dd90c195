-- An Ask waits only behind a transaction that runs: where one ends, the next one starts.
use Rattle.std.proofs.Common.{◌≡◌, ℕ, ◌==◌, ◌&&◌, Option, Some, None, List, [], ◌∷◌, length, nat_le, refl}
use Rattle.std.proofs.lemmas.Bool.{cond_both}
use Rattle.shm_model.specs.declared.event.Event.{Event}
use Rattle.shm_model.specs.declared.request_kind.Kind.{Kind}
use Rattle.shm_model.specs.Book.{Book, Running, Waiting, ask_while, awaits, cleared_while, confirm_while, ended, is_waiting, max_waiting, on_ask, serve_next, start, start_first, unserved}
use Rattle.shm_model.specs.Basics.{greatest}
use Rattle.shm_model.specs.World.{Opening, run, sites_of}
use Rattle.shm_progress.specs.Queues.{NoneWaitsForNothing}
use Rattle.shm_progress.proofs.BooksKept.{OutcomeHolds, WorldRule, run-books}

pub record Behind (b : Book) : Type 0 where
  pub behind : b.running ≡ None → b.waiting ≡ []

some-none : (found : Option Running) (run : Running) → found ≡ Some run → found ≡ None → ⊥
some-none found run p q = cc

runs-behind : (b : Book) (run : Running) → b.running ≡ Some run → Behind b
runs-behind b run is = record { behind = λ none. absurd (some-none b.running run is none) }

start-behind : (s r : ℕ) (kind : Kind) (b : Book) → OutcomeHolds Behind (start s r kind b)
start-behind s r kind b = cond_both (b.number == greatest) _ _ (OutcomeHolds Behind) (λ e. tt) (λ e. runs-behind _ (record { kind = kind; requester = s }) refl)

while-behind : (running : Option Running) (s r : ℕ) (kind : Kind) (b : Book) → b.running ≡ running → OutcomeHolds Behind (ask_while running s r kind b)
while-behind None s r kind b is = start-behind s r kind b
while-behind (Some run) s r kind b is =
    cond_both (is_waiting s r b.waiting) _ _ (OutcomeHolds Behind) (λ e. tt)
    (λ e. cond_both (nat_le max_waiting (length b.waiting)) _ _ (OutcomeHolds Behind) (λ f. tt) (λ f. runs-behind _ run is))

ask-behind : (s r : ℕ) (kind : Kind) (b : Book) → OutcomeHolds Behind (on_ask s r kind b)
ask-behind s r kind b = cond_both (nat_le r (b.served s)) _ _ (OutcomeHolds Behind) (λ e. tt) (λ e. while-behind b.running s r kind b refl)

cleared-behind : (running : Option Running) (s n : ℕ) (b : Book) → Behind b → OutcomeHolds Behind (cleared_while running s n b)
cleared-behind None s n b h = tt
cleared-behind (Some run) s n b h = cond_both ((n == b.number) && awaits b run s) _ _ (OutcomeHolds Behind) (λ e. record { behind = h.behind }) (λ e. tt)

first-behind : (ws : List Waiting) (b : Book) → OutcomeHolds Behind (start_first ws b)
first-behind [] b = record { behind = λ none. refl }
first-behind (w ∷ ws) b = start-behind w.from w.request w.kind (record b { waiting = ws })

serve-behind : (b : Book) → OutcomeHolds Behind (serve_next b)
serve-behind b = cond_both (b.number == greatest) _ _ (OutcomeHolds Behind) (λ e. record { behind = λ none. refl }) (λ e. first-behind (unserved b.served b.waiting) b)

confirm-behind : (running : Option Running) (s n : ℕ) (b : Book) → OutcomeHolds Behind (confirm_while running s n b)
confirm-behind None s n b = tt
confirm-behind (Some run) s n b = cond_both ((n == b.number) && (s == run.requester)) _ _ (OutcomeHolds Behind) (λ e. serve-behind (ended run b)) (λ e. tt)

behind-rule : (sites : ℕ) → WorldRule sites (λ sent s q b. Behind b)
behind-rule sites = record {
  rule = λ sent s small. record {
    fresh = λ q. record { behind = λ none. refl };
    restarted = λ q b h. record { behind = λ none. refl };
    asked = λ q b from r kind h was proper. ask-behind from r kind b;
    cleared = λ q b from n h. cleared-behind b.running from n b h;
    confirmed = λ q b from n h. confirm-behind b.running from n b;
  };
  more = λ sent new s q b h. h;
}

pub none-waits : (o : Opening) (events : List Event) → NoneWaitsForNothing (run o events).world
none-waits o events = λ page site x found none. ((run-books (λ sent s q b. Behind b) o (behind-rule (sites_of o)) events).each site x found page).behind none
