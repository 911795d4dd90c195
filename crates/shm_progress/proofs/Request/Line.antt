-- Where each site asks for a page with one request alone, no two of those that wait in its book are of one site, and none of the site that
-- is served: so fewer wait than there are sites.
use Rattle.std.proofs.Common.{◌≡◌, ◌≢◌, ℕ, ◌<◌, Bool, true, false, ◌==◌, ◌&&◌, ◌||◌, Option, Some, None, List, [], ◌∷◌, ◌++◌, length, nat_le, arith, refl, sym, ◌∙◌, subst}
use Rattle.std.proofs.lemmas.Bool.{and_from, cond_both, cond-true, eq-eqb, leb-false}
use Rattle.shm_model.specs.declared.request_kind.Kind.{Kind}
use Rattle.shm_model.specs.Book.{Book, Running, Waiting, ask_while, awaits, cleared_while, confirm_while, is_waiting, is_write, max_waiting, on_ask, on_cleared, on_confirm, serve_next, start, start_first, started, unserved, without_volatile}
use Rattle.shm_model.specs.Basics.{at, greatest}
use Rattle.shm_laws.proofs.Page.Orders.{Each}
use Rattle.shm_progress.proofs.Ending.Books.{AllAsked}
use Rattle.shm_progress.proofs.Ending.Waiting.{each-push, unserved-waits}
use Rattle.shm_progress.proofs.BooksKept.{OutcomeHolds}

abbrev pub NoneFrom : ℕ → List Waiting → Type 0
NoneFrom f ws = Each (λ (k : Waiting). k.from ≢ f) ws

-- each is of another site
abbrev pub Apart : List Waiting → Type 0
Apart [] = Unit {0}
Apart (w ∷ ws) = NoneFrom w.from ws × Apart ws

apart-push : (ws : List Waiting) (k : Waiting) → Apart ws → NoneFrom k.from ws → Apart (ws ++ (k ∷ []))
apart-push [] k apart none = (tt, tt)
apart-push (w ∷ ws) k apart none = (each-push (λ (j : Waiting). j.from ≢ w.from) ws k apart.0 (λ is. none.0 (sym is)), apart-push ws k apart.1 none.1)

apart-unserved : (served : ℕ → ℕ) (ws : List Waiting) → Apart ws → Apart (unserved served ws)
apart-unserved served [] apart = tt
apart-unserved served (w ∷ ws) apart = cond_both (nat_le w.request (served w.from)) _ _ Apart (λ e. apart-unserved served ws apart.1) (λ e. apart)

some-none : (found : Option Running) (run : Running) → found ≡ Some run → found ≡ None → ⊥
some-none found run e f = cc

same-run : (found : Option Running) (x y : Running) → found ≡ Some x → found ≡ Some y → x ≡ y
same-run found x y e f = cc

-- A: the site asks with this request alone
module _ (A : ℕ → ℕ → Kind → Type 0) (one : (s r n : ℕ) (kind other : Kind) → A s r kind → A s n other → r ≡ n) where
  pub record Line (b : Book) : Type 0 where
    pub waits : AllAsked A b.waiting
    pub apart : Apart b.waiting
    pub aside : (run : Running) → b.running ≡ Some run → NoneFrom run.requester b.waiting
    pub served : (run : Running) → b.running ≡ Some run → (kind : Kind) × A run.requester (b.served run.requester) kind
    pub behind : b.running ≡ None → b.waiting ≡ []

  pub empty-line : (c : Book) → c.running ≡ None → c.waiting ≡ [] → Line c
  empty-line c idle none = record {
    waits = subst (AllAsked A) (sym none) tt;
    apart = subst Apart (sym none) tt;
    aside = λ run is. absurd (some-none c.running run is idle);
    served = λ run is. absurd (some-none c.running run is idle);
    behind = λ is. none;
  }

  started-line : (from r : ℕ) (kind : Kind) (c : Book) → A from r kind → AllAsked A c.waiting → Apart c.waiting → NoneFrom from c.waiting → Line (started from r kind c)
  started-line from r kind c asked waits apart none = record {
    waits = waits;
    apart = apart;
    aside = λ run is. subst (λ (k : Running). NoneFrom k.requester c.waiting) (same-run (started from r kind c).running (record { kind = kind; requester = from }) run refl is) none;
    served = λ run is. subst (λ (k : Running). (t : Kind) × A k.requester (at c.served from r k.requester) t) (same-run (started from r kind c).running (record { kind = kind; requester = from }) run refl is)
        (kind, subst (λ n. A from n kind) (sym (cond-true (from == from) r (c.served from) (eq-eqb from from refl))) asked);
    behind = λ is. absurd (some-none (started from r kind c).running (record { kind = kind; requester = from }) refl is);
  }

  start-line : (from r : ℕ) (kind : Kind) (c : Book) → A from r kind → AllAsked A c.waiting → Apart c.waiting → NoneFrom from c.waiting → OutcomeHolds Line (start from r kind c)
  start-line from r kind c asked waits apart none = cond_both (c.number == greatest) _ _ (OutcomeHolds Line) (λ e. tt) (λ e. started-line from r kind c asked waits apart none)

  -- whose request doesn't wait has none waiting
  none-waits : (from r : ℕ) (kind : Kind) → A from r kind → (ws : List Waiting) → AllAsked A ws → is_waiting from r ws ≡ false → NoneFrom from ws
  none-waits from r kind asked [] waits absent = tt
  none-waits from r kind asked (w ∷ ws) waits absent = (λ is. there is, none-waits from r kind asked ws waits.1 (either ((w.from == from) && (w.request == r)) (is_waiting from r ws) absent).1)
    where
      either : (a b : Bool) → (a || b) ≡ false → (a ≡ false) × (b ≡ false)
      either true b h = cc
      either false b h = (refl, h)

      there : w.from ≡ from → ⊥
      there is =
          let same : w.request ≡ r = one from w.request r w.kind kind (subst (λ t. A t w.request w.kind) is waits.0) asked in
          let yes = and_from (w.from == from) (w.request == r) (eq-eqb w.from from is) (eq-eqb w.request r same) in
          let both : true ≡ false = sym yes ∙ (either ((w.from == from) && (w.request == r)) (is_waiting from r ws) absent).0 in
          cc

  module _ (b : Book) (h : Line b) where
    pub ask-line : (from r : ℕ) (kind : Kind) → A from r kind → OutcomeHolds Line (on_ask from r kind b)
    ask-line from r kind asked = cond_both (nat_le r (b.served from)) _ _ (OutcomeHolds Line) (λ e. tt) (λ e. by-running b.running refl (leb-false r (b.served from) e))
      where
        by-running : (running : Option Running) → b.running ≡ running → b.served from < r → OutcomeHolds Line (ask_while running from r kind b)
        by-running None idle new = start-line from r kind b asked h.waits h.apart (subst (NoneFrom from) (sym (h.behind idle)) tt)
        by-running (Some run) is new =
            cond_both (is_waiting from r b.waiting) _ _ (OutcomeHolds Line) (λ e. tt)
            (λ e. cond_both (nat_le max_waiting (length b.waiting)) _ _ (OutcomeHolds Line) (λ f. tt) (λ f. record {
              waits = each-push (λ (k : Waiting). A k.from k.request k.kind) b.waiting (record { from = from; request = r; kind = kind }) h.waits asked;
              apart = apart-push b.waiting (record { from = from; request = r; kind = kind }) h.apart (none-waits from r kind asked b.waiting h.waits e);
              aside = λ other at. each-push (λ (k : Waiting). k.from ≢ other.requester) b.waiting (record { from = from; request = r; kind = kind }) (h.aside other at) (λ here. late other at here);
              served = h.served;
              behind = λ idle. absurd (some-none b.running run is idle);
            }))
          where
            late : (other : Running) → b.running ≡ Some other → from ≡ other.requester → ⊥
            late other at here =
                let (k, was) = h.served other at in
                let same : b.served from ≡ r = one from (b.served from) r k kind (subst (λ t. A t (b.served t) k) (sym here) was) asked in
                omega (arith, same, new)

    pub cleared-line : (from n : ℕ) → OutcomeHolds Line (on_cleared from n b)
    cleared-line from n = by-running b.running
      where
        by-running : (running : Option Running) → OutcomeHolds Line (cleared_while running from n b)
        by-running None = tt
        by-running (Some run) =
            cond_both ((n == b.number) && awaits b run from) _ _ (OutcomeHolds Line)
            (λ e. record { waits = h.waits; apart = h.apart; aside = h.aside; served = h.served; behind = h.behind }) (λ e. tt)

    first-line : (ws : List Waiting) (c : Book) → c.running ≡ None → AllAsked A ws → Apart ws → OutcomeHolds Line (start_first ws c)
    first-line [] c idle waits apart = empty-line (record c { waiting = [] }) idle refl
    first-line (w ∷ ws) c idle waits apart = start-line w.from w.request w.kind (record c { waiting = ws }) waits.0 waits.1 apart.1 apart.0

    serve-line : (c : Book) → c.running ≡ None → AllAsked A c.waiting → Apart c.waiting → OutcomeHolds Line (serve_next c)
    serve-line c idle waits apart =
        cond_both (c.number == greatest) _ _ (OutcomeHolds Line) (λ e. empty-line (record c { waiting = [] }) idle refl)
        (λ e. first-line (unserved c.served c.waiting) c idle (unserved-waits A c.served c.waiting waits) (apart-unserved c.served c.waiting apart))

    pub confirm-line : (from n : ℕ) → OutcomeHolds Line (on_confirm from n b)
    confirm-line from n = by-running b.running
      where
        by-running : (running : Option Running) → OutcomeHolds Line (confirm_while running from n b)
        by-running None = tt
        by-running (Some run) =
            cond_both ((n == b.number) && (from == run.requester)) _ _ (OutcomeHolds Line)
            (λ e. cond_both (is_write run.kind) _ _ (λ (c : Book). OutcomeHolds Line (serve_next c)) (λ f. serve-line _ refl h.waits h.apart)
            (λ f. cond_both (run.requester == b.owner) _ _ (λ (c : Book). OutcomeHolds Line (serve_next c)) (λ g. serve-line _ refl h.waits h.apart) (λ g. serve-line _ refl h.waits h.apart))) (λ e. tt)

    pub restart-line : Line (without_volatile b)
    restart-line = record { waits = tt; apart = tt; aside = λ run is. tt; served = h.served; behind = λ idle. refl }
