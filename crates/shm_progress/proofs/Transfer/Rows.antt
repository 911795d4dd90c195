-- What a step of a manager does to the running transaction of one of its books.
use Rattle.std.proofs.Common.{◌≡◌, ℕ, Bool, true, false, ◌==◌, ◌&&◌, Option, Some, None, List, [], ◌∷◌, length, nat_le, refl, sym, ◌∙◌, ap, subst, Contains}
use Rattle.std.proofs.lemmas.Bool.{and_parts, cond_both, cond-true, cond-false, eqb-true, eq-eqb, and_from}
use Rattle.shm_place.specs.declared.page_id.PageId.{PageId}
use Rattle.shm_model.specs.declared.request_kind.Kind.{Kind}
use Rattle.shm_model.specs.Entry.{Note, Ask, Cleared, Confirm}
use Rattle.shm_model.specs.Book.{Book, Outcome, Ignored, UsedUp, Taken, Running, Waiting, ask_while, awaited, awaits, cleared_while, confirm_while, ended, hand_if_cleared, is_waiting, is_write, max_waiting, on_ask, orders, serve_next, start, start_first, started, unserved}
use Rattle.shm_model.specs.Basics.{at, greatest}
use Rattle.shm_model.specs.Message.{Envelope, Input, Deliver, Of}
use Rattle.shm_model.specs.Transfer.{order_envelopes}

abbrev pub note_envelope : ℕ → ℕ → PageId → Note → Envelope
note_envelope from to q note = record { from = from; to = to; message = Of q note }

-- what is handed over is neither an answer that the transaction waits for nor its confirmation
pub record Unheard (m : ℕ) (q : PageId) (b : Book) (input : Input) : Type 0 where
  pub cleared : (run : Running) (t : ℕ) → b.running ≡ Some run → awaits b run t ≡ true → input ≡ Deliver (note_envelope t m q (Cleared b.number)) → ⊥
  pub confirmed : (run : Running) → b.running ≡ Some run → input ≡ Deliver (note_envelope run.requester m q (Confirm b.number)) → ⊥

-- nothing runs any more; a transaction starts and asks; it goes on as before; or a site answered that it was cleared
pub data BookMove (m : ℕ) (q : PageId) (b : Book) (input : Input) (c : Book) (sent : List Envelope) : Type 0 where
  stops : c.running ≡ None → BookMove m q b input c sent
  asks : ((f : Envelope) → Contains (order_envelopes m q c (orders c)) f → Contains sent f) → BookMove m q b input c sent
  keeps : (ws : List Waiting) → c ≡ record b { waiting = ws } → Unheard m q b input → BookMove m q b input c sent
  clears : (run : Running) (t : ℕ) → b.running ≡ Some run → input ≡ Deliver (note_envelope t m q (Cleared b.number)) → c ≡ record b { cleared = at b.cleared t true }
      → (awaited c run ≡ [] → (f : Envelope) → Contains (order_envelopes m q c (orders c)) f → Contains sent f) → BookMove m q b input c sent

abbrev pub OutcomeMove : ℕ → PageId → Book → Input → Outcome → Type 0
OutcomeMove m q b input Ignored = Unheard m q b input
OutcomeMove m q b input UsedUp = Unheard m q b input
OutcomeMove m q b input (Taken c os) = BookMove m q b input c (order_envelopes m q c os)

same-running : (found : Option Running) (x y : Running) → found ≡ Some x → found ≡ Some y → x ≡ y
same-running found x y p q = cc

pub deliver-same : (e f : Envelope) → Deliver e ≡ Deliver f → e ≡ f
deliver-same e f h = cc

some-none : (found : Option Running) (run : Running) → found ≡ None → found ≡ Some run → ⊥
some-none found run p q = cc

-- an envelope that isn't of these two kinds
pub unheard-by : (m : ℕ) (q : PageId) (b : Book) (e : Envelope) → ((n : ℕ) → e.message ≡ Of q (Cleared n) → ⊥) → ((n : ℕ) → e.message ≡ Of q (Confirm n) → ⊥) → Unheard m q b (Deliver e)
unheard-by m q b e f g = record {
  cleared = λ run t is waits h. f b.number (ap (λ (x : Envelope). x.message) (deliver-same e (note_envelope t m q (Cleared b.number)) h));
  confirmed = λ run is h. g b.number (ap (λ (x : Envelope). x.message) (deliver-same e (note_envelope run.requester m q (Confirm b.number)) h));
}

-- the rows of the book
module _ (m : ℕ) (q : PageId) (b : Book) where
  start-move : (input : Input) (from r : ℕ) (kind : Kind) (c : Book) → (c.number == greatest) ≡ false → OutcomeMove m q b input (start from r kind c)
  start-move input from r kind c few =
      subst (OutcomeMove m q b input) (sym (cond-false (c.number == greatest) UsedUp (Taken (started from r kind c) (orders (started from r kind c))) few)) (asks (λ f here. here))

  pub ask-move : (from r : ℕ) (kind : Kind) → OutcomeMove m q b (Deliver (note_envelope from m q (Ask r kind))) (on_ask from r kind b)
  ask-move from r kind =
      cond_both (nat_le r (b.served from)) _ _ (OutcomeMove m q b (Deliver (note_envelope from m q (Ask r kind)))) (λ e. unheard) (λ e. by-running b.running)
    where
      unheard : Unheard m q b (Deliver (note_envelope from m q (Ask r kind)))
      unheard = unheard-by m q b (note_envelope from m q (Ask r kind)) (λ n h. cc) (λ n h. cc)

      by-full : (full : Bool) → (b.number == greatest) ≡ full → OutcomeMove m q b (Deliver (note_envelope from m q (Ask r kind))) (start from r kind b)
      by-full true e = subst (OutcomeMove m q b (Deliver (note_envelope from m q (Ask r kind)))) (sym (cond-true (b.number == greatest) UsedUp (Taken (started from r kind b) (orders (started from r kind b))) e)) unheard
      by-full false e = start-move (Deliver (note_envelope from m q (Ask r kind))) from r kind b e

      by-running : (running : Option Running) → OutcomeMove m q b (Deliver (note_envelope from m q (Ask r kind))) (ask_while running from r kind b)
      by-running None = by-full (b.number == greatest) refl
      by-running (Some run) =
          cond_both (is_waiting from r b.waiting) _ _ (OutcomeMove m q b (Deliver (note_envelope from m q (Ask r kind)))) (λ e. unheard)
          (λ e. cond_both (nat_le max_waiting (length b.waiting)) _ _ (OutcomeMove m q b (Deliver (note_envelope from m q (Ask r kind)))) (λ f. unheard) (λ f. keeps _ refl unheard))

  hands : (c : Book) (run : Running) (ss : List ℕ) → ss ≡ [] → (f : Envelope) → Contains (order_envelopes m q c (orders c)) f → Contains (order_envelopes m q c (hand_if_cleared c run ss)) f
  hands c run [] e f here = here
  hands c run (s ∷ ss) e f here = cc

  pub cleared-move : (from n : ℕ) (running : Option Running) → b.running ≡ running → OutcomeMove m q b (Deliver (note_envelope from m q (Cleared n))) (cleared_while running from n b)
  cleared-move from n None is = record { cleared = λ run t r waits h. some-none b.running run is r; confirmed = λ run r h. some-none b.running run is r }
  cleared-move from n (Some run) is =
      cond_both ((n == b.number) && awaits b run from) _ _ (OutcomeMove m q b (Deliver (note_envelope from m q (Cleared n))))
      (λ e. clears run from is (ap (λ k. Deliver (note_envelope from m q (Cleared k))) (eqb-true n b.number (and_parts (n == b.number) (awaits b run from) e).0)) refl
      (λ none. hands (record b { cleared = at b.cleared from true }) run (awaited (record b { cleared = at b.cleared from true }) run) none))
      (λ e. record {
        cleared = λ r t i waits h. not-heard r t i waits h e;
        confirmed = λ r i h. no-confirm r h;
      })
    where
      no-confirm : (r : Running) → Deliver (note_envelope from m q (Cleared n)) ≡ Deliver (note_envelope r.requester m q (Confirm b.number)) → ⊥
      no-confirm r h = let same : Of q (Cleared n) ≡ Of q (Confirm b.number) = ap (λ (x : Envelope). x.message) (deliver-same _ _ h) in cc

      not-heard : (r : Running) (t : ℕ) → b.running ≡ Some r → awaits b r t ≡ true → Deliver (note_envelope from m q (Cleared n)) ≡ Deliver (note_envelope t m q (Cleared b.number))
          → ((n == b.number) && awaits b run from) ≡ false → ⊥
      not-heard r t i waits h e =
          let env = deliver-same (note_envelope from m q (Cleared n)) (note_envelope t m q (Cleared b.number)) h in
          let who : from ≡ t = ap (λ (x : Envelope). x.from) env in
          let what : Of q (Cleared n) ≡ Of q (Cleared b.number) = ap (λ (x : Envelope). x.message) env in
          let number : n ≡ b.number = cc in
          let it : r ≡ run = same-running b.running r run i is in
          let heard : awaits b run from ≡ true = ap (λ k. awaits b run k) who ∙ (ap (λ k. awaits b k t) (sym it) ∙ waits) in
          let both : true ≡ false = sym (and_from (n == b.number) (awaits b run from) (eq-eqb n b.number number) heard) ∙ e in
          cc

  serve-move : (input : Input) (c : Book) → c.running ≡ None → OutcomeMove m q b input (serve_next c)
  serve-move input c idle = cond_both (c.number == greatest) _ _ (OutcomeMove m q b input) (λ e. stops idle) (λ e. first-move (unserved c.served c.waiting) e)
    where
      first-move : (ws : List Waiting) → (c.number == greatest) ≡ false → OutcomeMove m q b input (start_first ws c)
      first-move [] few = stops idle
      first-move (w ∷ ws) few = start-move input w.from w.request w.kind (record c { waiting = ws }) few

  ended-idle : (run : Running) → (ended run b).running ≡ None
  ended-idle run = cond_both (is_write run.kind) _ _ (λ (c : Book). c.running ≡ None) (λ e. refl) (λ e. cond_both (run.requester == b.owner) _ _ (λ (c : Book). c.running ≡ None) (λ f. refl) (λ f. refl))

  pub confirm-move : (from n : ℕ) (running : Option Running) → b.running ≡ running → OutcomeMove m q b (Deliver (note_envelope from m q (Confirm n))) (confirm_while running from n b)
  confirm-move from n None is = record { cleared = λ run t r waits h. some-none b.running run is r; confirmed = λ run r h. some-none b.running run is r }
  confirm-move from n (Some run) is =
      cond_both ((n == b.number) && (from == run.requester)) _ _ (OutcomeMove m q b (Deliver (note_envelope from m q (Confirm n))))
      (λ e. serve-move (Deliver (note_envelope from m q (Confirm n))) (ended run b) (ended-idle run))
      (λ e. record { cleared = λ r t i waits h. no-cleared t h; confirmed = λ r i h. not-heard r i h e })
    where
      no-cleared : (t : ℕ) → Deliver (note_envelope from m q (Confirm n)) ≡ Deliver (note_envelope t m q (Cleared b.number)) → ⊥
      no-cleared t h = let same : Of q (Confirm n) ≡ Of q (Cleared b.number) = ap (λ (x : Envelope). x.message) (deliver-same _ _ h) in cc

      not-heard : (r : Running) → b.running ≡ Some r → Deliver (note_envelope from m q (Confirm n)) ≡ Deliver (note_envelope r.requester m q (Confirm b.number))
          → ((n == b.number) && (from == run.requester)) ≡ false → ⊥
      not-heard r i h e =
          let env = deliver-same (note_envelope from m q (Confirm n)) (note_envelope r.requester m q (Confirm b.number)) h in
          let who : from ≡ r.requester = ap (λ (x : Envelope). x.from) env in
          let what : Of q (Confirm n) ≡ Of q (Confirm b.number) = ap (λ (x : Envelope). x.message) env in
          let number : n ≡ b.number = cc in
          let it : r ≡ run = same-running b.running r run i is in
          let mine : from ≡ run.requester = who ∙ ap (λ (k : Running). k.requester) it in
          let both : true ≡ false = sym (and_from (n == b.number) (from == run.requester) (eq-eqb n b.number number) (eq-eqb from run.requester mine)) ∙ e in
          cc
