-- A request that is pending and was started is the transaction that runs, and its site hasn't met it: the rows of the book keep that.
use Rattle.std.proofs.Common.{◌≡◌, ◌≢◌, ℕ, ◌<◌, ◌≤◌, ◌⊎◌, inl, inr, true, ◌==◌, ◌&&◌, Option, Some, None, List, [], ◌∷◌, length, nat_le, arith, refl, ◌∙◌, ap, subst}
use Rattle.std.proofs.lemmas.Bool.{and_parts, cases_eq, cond_both, cond-false, cond-true, eq-eqb, eqb-true}
use Rattle.std.proofs.lemmas.Bool.Decides.{nat_tests}
use Rattle.shm_model.specs.declared.request_kind.Kind.{Kind}
use Rattle.shm_model.specs.Book.{Book, Running, Waiting, ask_while, awaits, cleared_while, confirm_while, is_waiting, is_write, max_waiting, on_ask, on_cleared, on_confirm, serve_next, start, start_first, started, unserved}
use Rattle.shm_model.specs.Basics.{at, greatest}
use Rattle.shm_model.specs.Site.{Pending}
use Rattle.shm_progress.proofs.Ending.Books.{AllAsked}
use Rattle.shm_progress.proofs.Ending.Waiting.{unserved-waits}
use Rattle.shm_progress.proofs.BooksKept.{OutcomeHolds}

-- the request's transaction runs, and the site has met none as new
pub record IsRunning (s : ℕ) (p : Pending) (met : ℕ) (b : Book) : Type 0 where
  pub runs : b.running ≡ Some (record { kind = p.kind; requester = s })
  pub unmet : met < b.number

-- an Ask of the site is no newer than the one that is pending, and of its kind where it is that one
abbrev pub IsBehind : ℕ → Pending → ℕ → ℕ → Kind → Type 0
IsBehind s p from r kind = from ≡ s → (r ≤ p.request) × (r ≡ p.request → kind ≡ p.kind)

module _ (s : ℕ) (p : Pending) (met : ℕ) where
  -- once it was started it runs
  abbrev pub InTurn : Book → Type 0
  InTurn b = p.request ≤ b.served s → IsRunning s p met b

  pub same-turn : (b c : Book) → c.running ≡ b.running → c.number ≡ b.number → c.served ≡ b.served → InTurn b → InTurn c
  same-turn b c running number served t low =
      let is = t (subst (λ (f : ℕ → ℕ). p.request ≤ f s) served low) in
      let unmet = is.unmet in
      record { runs = running ∙ is.runs; unmet = omega (arith, unmet, number) }

  not-started : (b : Book) → InTurn b → b.running ≡ None → p.request ≤ b.served s → ⊥
  not-started b t idle low = some-none b.running _ (t low).runs idle
    where
      some-none : (found : Option Running) (run : Running) → found ≡ Some run → found ≡ None → ⊥
      some-none found run e f = cc

  started-turn : (from r : ℕ) (kind : Kind) (b : Book) → met ≤ b.number → IsBehind s p from r kind → (p.request ≤ b.served s → ⊥) → InTurn (started from r kind b)
  started-turn from r kind b low behind waits = by-site (cases_eq from s)
    where
      by-site : (from ≡ s) ⊎ (from ≢ s) → InTurn (started from r kind b)
      by-site (inl here) = λ reached.
          let now : at b.served from r s ≡ r = cond-true (from == s) r (b.served s) (eq-eqb from s here) in
          let parts = behind here in
          let first = parts.0 in
          let same : r ≡ p.request = omega (arith, reached, now, first) in
          record {
            runs = ap (λ k. Some (record { kind = k; requester = from })) (parts.1 same) ∙ ap (λ u. Some (record { kind = p.kind; requester = u })) here;
            unmet = omega (arith, low);
          }
      by-site (inr there) = λ reached.
          let kept : at b.served from r s ≡ b.served s = cond-false (from == s) r (b.served s) (grind (arith, nat_tests)) in
          absurd (waits (omega (arith, reached, kept)))

  start-turn : (from r : ℕ) (kind : Kind) (b : Book) → met ≤ b.number → IsBehind s p from r kind → (p.request ≤ b.served s → ⊥) → OutcomeHolds InTurn (start from r kind b)
  start-turn from r kind b low behind waits = cond_both (b.number == greatest) _ _ (OutcomeHolds InTurn) (λ e. tt) (λ e. started-turn from r kind b low behind waits)

  module _ (b : Book) (low : met ≤ b.number) (turn : InTurn b) where
    pub ask-turn : (from r : ℕ) (kind : Kind) → IsBehind s p from r kind → OutcomeHolds InTurn (on_ask from r kind b)
    ask-turn from r kind behind = cond_both (nat_le r (b.served from)) _ _ (OutcomeHolds InTurn) (λ e. tt) (λ e. by-running b.running refl)
      where
        by-running : (running : Option Running) → b.running ≡ running → OutcomeHolds InTurn (ask_while running from r kind b)
        by-running None idle = start-turn from r kind b low behind (not-started b turn idle)
        by-running (Some run) is =
            cond_both (is_waiting from r b.waiting) _ _ (OutcomeHolds InTurn) (λ e. tt)
            (λ e. cond_both (nat_le max_waiting (length b.waiting)) _ _ (OutcomeHolds InTurn) (λ f. tt) (λ f. same-turn b _ refl refl refl turn))

    pub cleared-turn : (from n : ℕ) → OutcomeHolds InTurn (on_cleared from n b)
    cleared-turn from n = by-running b.running
      where
        by-running : (running : Option Running) → OutcomeHolds InTurn (cleared_while running from n b)
        by-running None = tt
        by-running (Some run) = cond_both ((n == b.number) && awaits b run from) _ _ (OutcomeHolds InTurn) (λ e. same-turn b _ refl refl refl turn) (λ e. tt)

    -- where it wasn't started, the next one may be it
    first-turn : (ws : List Waiting) (c : Book) → met ≤ c.number → (p.request ≤ c.served s → ⊥) → AllAsked (IsBehind s p) ws → OutcomeHolds InTurn (start_first ws c)
    first-turn [] c low waits behind = λ reached. absurd (waits reached)
    first-turn (w ∷ ws) c low waits behind = start-turn w.from w.request w.kind (record c { waiting = ws }) low behind.0 waits

    serve-turn : (c : Book) → met ≤ c.number → (p.request ≤ c.served s → ⊥) → AllAsked (IsBehind s p) c.waiting → OutcomeHolds InTurn (serve_next c)
    serve-turn c low waits behind =
        cond_both (c.number == greatest) _ _ (OutcomeHolds InTurn) (λ e reached. absurd (waits reached))
        (λ e. first-turn (unserved c.served c.waiting) c low waits (unserved-waits (IsBehind s p) c.served c.waiting behind))

    pub confirm-turn : (from n : ℕ) → (from ≡ s → n ≤ met) → AllAsked (IsBehind s p) b.waiting → OutcomeHolds InTurn (on_confirm from n b)
    confirm-turn from n fits behind = by-running b.running refl
      where
        by-running : (running : Option Running) → b.running ≡ running → OutcomeHolds InTurn (confirm_while running from n b)
        by-running None idle = tt
        by-running (Some run) is =
            cond_both ((n == b.number) && (from == run.requester)) _ _ (OutcomeHolds InTurn)
            (λ e. cond_both (is_write run.kind) _ _ (λ (c : Book). OutcomeHolds InTurn (serve_next c)) (λ f. serve-turn _ low (waits e) behind)
            (λ f. cond_both (run.requester == b.owner) _ _ (λ (c : Book). OutcomeHolds InTurn (serve_next c)) (λ g. serve-turn _ low (waits e) behind) (λ g. serve-turn _ low (waits e) behind)))
            (λ e. tt)
          where
            same-run : (found : Option Running) (x y : Running) → found ≡ Some x → found ≡ Some y → x ≡ y
            same-run found x y e f = cc

            waits : ((n == b.number) && (from == run.requester)) ≡ true → p.request ≤ b.served s → ⊥
            waits e reached =
                let parts = and_parts (n == b.number) (from == run.requester) e in
                let number : n ≡ b.number = eqb-true n b.number parts.0 in
                let t = turn reached in
                let unmet = t.unmet in
                let one = same-run b.running run (record { kind = p.kind; requester = s }) is t.runs in
                let who : from ≡ s = eqb-true from run.requester parts.1 ∙ ap (λ (k : Running). k.requester) one in
                let reached_it = fits who in
                omega (arith, unmet, number, reached_it)
