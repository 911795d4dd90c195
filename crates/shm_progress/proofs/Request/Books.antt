-- A request that a book has taken up stays so, and an Ask that is heard is taken up unless the book takes none.
use Rattle.std.proofs.Common.{◌≡◌, ℕ, ◌<◌, ◌≤◌, ◌⊎◌, inl, inr, Bool, true, false, ◌==◌, ◌&&◌, ◌||◌, Option, Some, None, List, [], ◌∷◌, ◌++◌, length, nat_le, arith, refl, sym, ◌∙◌, ap, subst}
use Rattle.std.proofs.lemmas.Bool.{and_parts, cond_both, cond-true, cond-false, eq-eqb, eqb-true, leb-true, leb-false}
use Rattle.std.proofs.lemmas.Bool.Decides.{nat_tests}
use Rattle.shm_model.specs.declared.request_kind.Kind.{Kind}
use Rattle.shm_model.specs.Book.{Book, Outcome, Ignored, UsedUp, Taken, Running, Waiting, ask_while, awaits, cleared_while, confirm_while, is_waiting, is_write, max_waiting, on_ask, serve_next, start, start_first, started, unserved}
use Rattle.shm_model.specs.Basics.{at, greatest}
use Rattle.shm_progress.specs.Requests.{IsTakenUp, TakesNone}
use Rattle.shm_progress.proofs.BooksKept.{OutcomeHolds}

-- the test of one who waits
abbrev is_it : ℕ → ℕ → Waiting → Bool
is_it s r w = (w.from == s) && (w.request == r)

at-grows : (f : ℕ → ℕ) (k n j : ℕ) → f k < n → f j ≤ at f k n j
at-grows f k n j l = cond_both (k == j) n (f j) (λ y. f j ≤ y) (λ e. let same : f k ≡ f j = ap f (eqb-true k j e) in omega (arith, same, l)) (λ e. omega arith)

at-now : (f : ℕ → ℕ) (k n : ℕ) → at f k n k ≡ n
at-now f k n = cond-true (k == k) n (f k) (eq-eqb k k refl)

module _ (s r : ℕ) where
  abbrev T : Book → Type 0
  T b = IsTakenUp b s r

  waits-first : (w : Waiting) (ws : List Waiting) → is_waiting s r (w ∷ ws) ≡ true → (is_it s r w ≡ true) ⊎ (is_waiting s r ws ≡ true)
  waits-first w ws h = by-test (is_it s r w) (is_waiting s r ws) refl refl (list_is h)
    where
      list_is : is_waiting s r (w ∷ ws) ≡ true → (is_it s r w || is_waiting s r ws) ≡ true
      list_is h = grind (arith, nat_tests)

      by-test : (a b : Bool) → is_it s r w ≡ a → is_waiting s r ws ≡ b → a || b ≡ true → (is_it s r w ≡ true) ⊎ (is_waiting s r ws ≡ true)
      by-test true b p q e = inl p
      by-test false true p q e = inr q
      by-test false false p q e = cc

  waits-more : (ws : List Waiting) (w : Waiting) → is_waiting s r ws ≡ true → is_waiting s r (ws ++ (w ∷ [])) ≡ true
  waits-more [] w h = cc
  waits-more (v ∷ vs) w h = by-first (waits-first v vs h) (waits-more vs w)
    where
      by-first : (is_it s r v ≡ true) ⊎ (is_waiting s r vs ≡ true) → (is_waiting s r vs ≡ true → is_waiting s r (vs ++ (w ∷ [])) ≡ true) → is_waiting s r ((v ∷ vs) ++ (w ∷ [])) ≡ true
      by-first (inl here) more = grind (arith, nat_tests)
      by-first (inr there) more = let later = more there in grind (arith, nat_tests)

  waits-last : (ws : List Waiting) (kind : Kind) → is_waiting s r (ws ++ (record { from = s; request = r; kind = kind } ∷ [])) ≡ true
  waits-last [] kind = let a = eq-eqb s s refl in let b = eq-eqb r r refl in grind (arith, nat_tests)
  waits-last (v ∷ vs) kind = let rest = waits-last vs kind in grind (arith, nat_tests)

  started-taken : (from request : ℕ) (kind : Kind) (b : Book) → b.served from < request → T b → T (started from request kind b)
  started-taken from request kind b low (inl waits) = inl waits
  started-taken from request kind b low (inr served) = let grows = at-grows b.served from request s low in inr (omega (arith, served, grows))

  start-taken : (from request : ℕ) (kind : Kind) (b : Book) → T (started from request kind b) → OutcomeHolds T (start from request kind b)
  start-taken from request kind b t = cond_both (b.number == greatest) _ _ (OutcomeHolds T) (λ e. tt) (λ e. t)

  pub ask-taken : (from request : ℕ) (kind : Kind) (b : Book) → T b → OutcomeHolds T (on_ask from request kind b)
  ask-taken from request kind b t = cond_both (nat_le request (b.served from)) _ _ (OutcomeHolds T) (λ e. tt) (λ e. by-running b.running (leb-false request (b.served from) e))
    where
      more : T b → T (record b { waiting = b.waiting ++ (record { from = from; request = request; kind = kind } ∷ []) })
      more (inl waits) = inl (waits-more b.waiting (record { from = from; request = request; kind = kind }) waits)
      more (inr served) = inr served

      by-running : (running : Option Running) → b.served from < request → OutcomeHolds T (ask_while running from request kind b)
      by-running None low = start-taken from request kind b (started-taken from request kind b low t)
      by-running (Some run) low =
          cond_both (is_waiting from request b.waiting) _ _ (OutcomeHolds T) (λ e. tt) (λ e. cond_both (nat_le max_waiting (length b.waiting)) _ _ (OutcomeHolds T) (λ f. tt) (λ f. more t))

  pub cleared-taken : (running : Option Running) (from n : ℕ) (b : Book) → T b → OutcomeHolds T (cleared_while running from n b)
  cleared-taken None from n b t = tt
  cleared-taken (Some run) from n b t = cond_both ((n == b.number) && awaits b run from) _ _ (OutcomeHolds T) (λ e. t) (λ e. tt)

  -- who leaves the queue was served
  unserved-taken : (served : ℕ → ℕ) (ws : List Waiting) → (is_waiting s r ws ≡ true) ⊎ (r ≤ served s) → (is_waiting s r (unserved served ws) ≡ true) ⊎ (r ≤ served s)
  unserved-taken served ws (inr done) = inr done
  unserved-taken served [] (inl waits) = inl waits
  unserved-taken served (w ∷ ws) (inl waits) =
      cond_both (nat_le w.request (served w.from)) _ _ (λ vs. (is_waiting s r vs ≡ true) ⊎ (r ≤ served s))
      (λ e. passed (waits-first w ws waits) (leb-true w.request (served w.from) e) (λ h. unserved-taken served ws (inl h))) (λ e. inl waits)
    where
      passed : (is_it s r w ≡ true) ⊎ (is_waiting s r ws ≡ true) → w.request ≤ served w.from → (is_waiting s r ws ≡ true → (is_waiting s r (unserved served ws) ≡ true) ⊎ (r ≤ served s))
          → (is_waiting s r (unserved served ws) ≡ true) ⊎ (r ≤ served s)
      passed (inl here) low rest =
          let parts = and_parts (w.from == s) (w.request == r) here in
          let request : w.request ≡ r = eqb-true w.request r parts.1 in
          let of : served w.from ≡ served s = ap served (eqb-true w.from s parts.0) in
          inr (omega (arith, low, request, of))
      passed (inr there) low rest = rest there

  head-low : (served : ℕ → ℕ) (ws : List Waiting) (w : Waiting) (rest : List Waiting) → unserved served ws ≡ w ∷ rest → served w.from < w.request
  head-low served [] w rest is = cc
  head-low served (v ∷ vs) w rest is =
      cond_both (nat_le v.request (served v.from)) (unserved served vs) (v ∷ vs) (λ l. l ≡ w ∷ rest → served w.from < w.request) (λ e h. head-low served vs w rest h)
      (λ e h. let same : v ≡ w = cc in subst (λ (u : Waiting). served u.from < u.request) same (leb-false v.request (served v.from) e)) is

  first-taken : (ws : List Waiting) (b : Book) → ((w : Waiting) (rest : List Waiting) → ws ≡ w ∷ rest → b.served w.from < w.request) → (is_waiting s r ws ≡ true) ⊎ (r ≤ b.served s) → OutcomeHolds T (start_first ws b)
  first-taken [] b low t = t
  first-taken (w ∷ ws) b low t = start-taken w.from w.request w.kind (record b { waiting = ws }) (now t)
    where
      now : (is_waiting s r (w ∷ ws) ≡ true) ⊎ (r ≤ b.served s) → T (started w.from w.request w.kind (record b { waiting = ws }))
      now (inr served) = let grows = at-grows b.served w.from w.request s (low w ws refl) in inr (omega (arith, served, grows))
      now (inl waits) = by-first (waits-first w ws waits)
        where
          by-first : (is_it s r w ≡ true) ⊎ (is_waiting s r ws ≡ true) → T (started w.from w.request w.kind (record b { waiting = ws }))
          by-first (inl here) =
              let parts = and_parts (w.from == s) (w.request == r) here in
              let request : w.request ≡ r = eqb-true w.request r parts.1 in
              let of : at b.served w.from w.request s ≡ w.request = ap (at b.served w.from w.request) (sym (eqb-true w.from s parts.0)) ∙ at-now b.served w.from w.request in
              inr (omega (arith, request, of))
          by-first (inr there) = inl there

  pub serve-taken : (b : Book) → (b.number == greatest) ≡ false → T b → OutcomeHolds T (serve_next b)
  serve-taken b few t =
      subst (OutcomeHolds T) (sym (cond-false (b.number == greatest) (Taken (record b { waiting = [] }) []) (start_first (unserved b.served b.waiting) b) few))
      (first-taken (unserved b.served b.waiting) b (λ w rest is. head-low b.served b.waiting w rest is) (unserved-taken b.served b.waiting t))

  pub confirm-taken : (running : Option Running) (from n : ℕ) (b : Book) → (b.number == greatest) ≡ false → T b → OutcomeHolds T (confirm_while running from n b)
  confirm-taken None from n b few t = tt
  confirm-taken (Some run) from n b few t =
      cond_both ((n == b.number) && (from == run.requester)) _ _ (OutcomeHolds T)
      (λ e. cond_both (is_write run.kind) _ _ (λ (c : Book). OutcomeHolds T (serve_next c)) (λ f. serve-taken _ few t)
      (λ f. cond_both (run.requester == b.owner) _ _ (λ (c : Book). OutcomeHolds T (serve_next c)) (λ g. serve-taken _ few t) (λ g. serve-taken _ few t)))
      (λ e. tt)

  -- the Ask is heard
  abbrev pub AskHeard : Book → Outcome → Type 0
  AskHeard b Ignored = T b ⊎ TakesNone b
  AskHeard b UsedUp = TakesNone b
  AskHeard b (Taken c os) = T c

  pub ask-heard : (kind : Kind) (b : Book) → AskHeard b (on_ask s r kind b)
  ask-heard kind b = cond_both (nat_le r (b.served s)) _ _ (AskHeard b) (λ e. inl (inr (leb-true r (b.served s) e))) (λ e. by-running b.running)
    where
      by-running : (running : Option Running) → AskHeard b (ask_while running s r kind b)
      by-running None =
          cond_both (b.number == greatest) _ _ (AskHeard b) (λ e. inr (eqb-true b.number greatest e)) (λ e. let now = at-now b.served s r in inr (omega (arith, now)))
      by-running (Some run) =
          cond_both (is_waiting s r b.waiting) _ _ (AskHeard b) (λ e. inl (inl e))
          (λ e. cond_both (nat_le max_waiting (length b.waiting)) _ _ (AskHeard b) (λ f. inr (inl (leb-true max_waiting (length b.waiting) f))) (λ f. inl (waits-last b.waiting kind)))
