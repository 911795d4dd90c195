-- A running transaction that goes on still does after any site's step.
use Rattle.std.proofs.Common.{◌≡◌, ◌≢◌, ℕ, ◌<◌, ◌⊎◌, inl, inr, Bool, true, false, not, ◌==◌, ◌&&◌, ◌||◌, Some, List, [], arith, refl, sym, ◌∙◌, ap, subst, Contains}
use Rattle.std.proofs.lemmas.Bool.{and_from, and_parts, cond_both}
use Rattle.std.proofs.lemmas.Bool.Decides.{nat_tests}
use Rattle.shm_place.specs.declared.page_id.PageId.{PageId}
use Rattle.shm_place.specs.Page.{manager_of}
use Rattle.shm_model.specs.declared.request_kind.Kind.TheVariants.{Write}
use Rattle.shm_model.specs.Entry.{Note, Clear, Cleared, Hand, Page, Confirm}
use Rattle.shm_model.specs.Book.{Book, Running, Waiting, awaited, awaits, is_write}
use Rattle.shm_model.specs.Basics.{at}
use Rattle.shm_model.specs.Message.{Envelope, Input, Deliver, Of}
use Rattle.shm_model.specs.Site.{Site, Step}
use Rattle.shm_model.specs.Step.{is_to_manager, step}
use Rattle.shm_model.specs.Transfer.{on_note}
use Rattle.shm_model.specs.World.{World, stepped}
use Rattle.shm_laws.proofs.Page.View.{Fits, Holds, Runs, View}
use Rattle.shm_laws.proofs.Page.Orders.{write-of}
use Rattle.shm_laws.proofs.Page.Book.{with_book}
use Rattle.shm_progress.specs.OnTheWay.{IsOnItsWay}
use Rattle.shm_progress.specs.Transactions.{IsBeingCleared, IsBeingHanded, TransactionGoesOn}
use Rattle.shm_progress.proofs.OnTheWay.{Fresh, OnlySent, Takes, joins, live-sent, stays}
use Rattle.shm_progress.proofs.Transfer.Bounds.{Asker, Bounds}
use Rattle.shm_progress.proofs.Transfer.Heard.{clear-answered, hand-answered, note-heard, page-answered}
use Rattle.shm_progress.proofs.Transfer.Rows.{Unheard, note_envelope}
use Rattle.shm_progress.proofs.Transfer.Told.{Told, awaited-has, has-awaited}

-- whom a transaction waits for: a write, for the copies but the requester's
pub record Awaited (b : Book) (run : Running) (t : ℕ) : Type 0 where
  pub write : run.kind ≡ Write
  pub copy : b.copies t ≡ true
  pub other : t ≢ run.requester
  pub uncleared : b.cleared t ≡ false

pub awaited-is : (b : Book) (run : Running) (t : ℕ) → awaits b run t ≡ true → Awaited b run t
awaited-is b run t is =
    let outer = and_parts ((is_write run.kind && b.copies t) && not (t == run.requester)) (not (b.cleared t)) is in
    let inner = and_parts (is_write run.kind && b.copies t) (not (t == run.requester)) outer.0 in
    let core = and_parts (is_write run.kind) (b.copies t) inner.0 in
    record { write = write-of run.kind core.0; copy = core.1; other = λ e. self t run.requester inner.1 e; uncleared = unset (b.cleared t) outer.1 }
  where
    self : (t r : ℕ) → not (t == r) ≡ true → t ≡ r → ⊥
    self t r h e = grind (arith, nat_tests)

    unset : (c : Bool) → not c ≡ true → c ≡ false
    unset true h = cc
    unset false h = refl

same-awaited : (b : Book) (ws : List Waiting) (run : Running) → awaited (record b { waiting = ws }) run ≡ awaited b run
unfolding awaited
same-awaited b ws run = refl

-- waiting requests count for nothing
pub waiting-goes : (w : World) (m : ℕ) (q : PageId) (b : Book) (ws : List Waiting) (run : Running) → TransactionGoesOn w m q b run → TransactionGoesOn w m q (record b { waiting = ws }) run
waiting-goes w m q b ws run g = record {
  clearing = λ t here. g.clearing t (subst (λ ts. Contains ts t) (same-awaited b ws run) here);
  handing = λ none. g.handing (sym (same-awaited b ws run) ∙ none);
}

-- a step of site s at the world w: the book b is its manager's, and the view says what site s has of the page
module _ (w : World) (fresh : Fresh w) (gone : ℕ → Bool) (s : ℕ) (x : Site) (input : Input) (takes : Takes w gone s input) (only : OnlySent w gone) (m : ℕ) (q : PageId) where
  abbrev st : Step
  st = step w.count s x input

  abbrev u : World
  u = (stepped (record w { gone = gone }) s input st).world

  -- what the book asks for now is on its way
  pub told-goes : (c : Book) (run : Running) → Told m q c run st.sent → TransactionGoesOn u m q c run
  told-goes c run told = record {
    clearing = λ t here. inl (joins w fresh gone s x input only (note_envelope m t q (Clear c.number)) (told.clears t here));
    handing = λ none. inl (joins w fresh gone s x input only (note_envelope m c.owner q (Hand c.number run.kind run.requester)) (told.hands none));
  }

  -- an envelope stays on its way, or was handed over
  way : (f : Envelope) → IsOnItsWay w f → IsOnItsWay u f ⊎ ((input ≡ Deliver f) × (f.to ≡ s))
  way f (j, h) = by-gone (takes j f h)
    where
      by-gone : (gone j ≡ false) ⊎ ((input ≡ Deliver f) × (f.to ≡ s)) → IsOnItsWay u f ⊎ ((input ≡ Deliver f) × (f.to ≡ s))
      by-gone (inl free) = inl (stays w fresh gone s x input only j f h free)
      by-gone (inr handed) = inr handed

  module _ (Now : List ℕ → Type 0) (v : View) (b : Book) (h : Holds Now (with_book v b)) (entry : v.entries s ≡ x.entries q) (open_here : x.purged q.seg ≡ false)
      (fits : (from to : ℕ) (note : Note) → Contains w.sent (note_envelope from to q note) → Fits Now (with_book v b) from to note)
      (small : m < w.count) (bounds : Bounds w.count m q b) (run : Running) (is : b.running ≡ Some run) (going : TransactionGoesOn w m q b run) where
    runs : Runs b run.kind run.requester
    runs = record { is = is }

    asker : Asker w.count m q run.requester
    asker = bounds.running run is

    -- what an entry's note makes the site send
    sends : (from : ℕ) (note : Note) (f : Envelope) → is_to_manager note ≡ false → from < w.count → input ≡ Deliver (note_envelope from s q note) → Contains (on_note w.count s from q note x).sent f → IsOnItsWay u f
    sends from note f plain low handed here =
        joins w fresh gone s x input only f
        (subst (λ i. Contains (step w.count s x i).sent f) (sym handed)
        (subst (λ (t : Step). Contains t.sent f) (sym (note-heard w.count s from q note x low asker.limits (any (is_to_manager note) (manager_of w.count q == s) plain) open_here)) here))
      where
        any : (a c : Bool) → a ≡ false → not a || c ≡ true
        any true c e = cc
        any false c e = refl

    cleared-now : (t : ℕ) → Awaited b run t → IsOnItsWay u (note_envelope m t q (Clear b.number)) ⊎ ((input ≡ Deliver (note_envelope m t q (Clear b.number))) × (t ≡ s)) → IsBeingCleared u m q b.number t
    cleared-now t a (inl goes) = inl goes
    cleared-now t a (inr (handed, here)) =
        inr (subst (λ k. IsOnItsWay u (note_envelope k m q (Cleared b.number))) (sym here)
        (sends m (Clear b.number) (note_envelope s m q (Cleared b.number)) refl small (subst (λ k. input ≡ Deliver (note_envelope m k q (Clear b.number))) here handed)
        (clear-answered Now w.count s m q (with_book v b) h x asker.manager entry run.requester (subst (λ k. Runs b k run.requester) a.write runs) (subst (λ k. b.copies k ≡ true) here a.copy) (subst (λ k. k ≢ run.requester) here a.other))))

    handed-now : IsOnItsWay u (note_envelope m b.owner q (Hand b.number run.kind run.requester)) ⊎ ((input ≡ Deliver (note_envelope m b.owner q (Hand b.number run.kind run.requester))) × (b.owner ≡ s))
        → IsBeingHanded u m q b run
    handed-now (inl goes) = inl goes
    handed-now (inr (handed, here)) = answer (hand-answered Now w.count s m q (with_book v b) h x asker.manager entry run.requester (sym here) run.kind runs)
      where
        hear : (f : Envelope) → Contains (on_note w.count s m q (Hand b.number run.kind run.requester) x).sent f → IsOnItsWay u f
        hear f = sends m (Hand b.number run.kind run.requester) f refl small (subst (λ k. input ≡ Deliver (note_envelope m k q (Hand b.number run.kind run.requester))) here handed)

        answer : ((y : List ℕ) × Contains (on_note w.count s m q (Hand b.number run.kind run.requester) x).sent (note_envelope s run.requester q (Page b.number run.kind y)))
            ⊎ ((run.requester ≡ s) × Contains (on_note w.count s m q (Hand b.number run.kind run.requester) x).sent (note_envelope s m q (Confirm b.number))) → IsBeingHanded u m q b run
        answer (inl (y, sent)) = inr (inl (y, subst (λ k. IsOnItsWay u (note_envelope k run.requester q (Page b.number run.kind y))) (sym here) (hear _ sent)))
        answer (inr (same, sent)) = inr (inr (subst (λ k. IsOnItsWay u (note_envelope k m q (Confirm b.number))) (sym same) (hear _ sent)))

    page-now : (y : List ℕ) → Contains w.sent (note_envelope b.owner run.requester q (Page b.number run.kind y))
        → IsOnItsWay u (note_envelope b.owner run.requester q (Page b.number run.kind y)) ⊎ ((input ≡ Deliver (note_envelope b.owner run.requester q (Page b.number run.kind y))) × (run.requester ≡ s))
        → IsBeingHanded u m q b run
    page-now y sent (inl goes) = inr (inl (y, goes))
    page-now y sent (inr (handed, here)) =
        inr (inr (subst (λ k. IsOnItsWay u (note_envelope k m q (Confirm b.number))) (sym here)
        (sends b.owner (Page b.number run.kind y) (note_envelope s m q (Confirm b.number)) refl bounds.owner (subst (λ k. input ≡ Deliver (note_envelope b.owner k q (Page b.number run.kind y))) here handed)
        (page-answered Now w.count s m q (with_book v b) h x asker.manager entry run.kind y (subst (λ k. Fits Now (with_book v b) b.owner k (Page b.number run.kind y)) here (fits b.owner run.requester (Page b.number run.kind y) sent))))))

    -- where no answer and no confirmation is heard it goes on as before
    module _ (unheard : m ≡ s → Unheard m q b input) where
      clearing-still : (t : ℕ) → awaits b run t ≡ true → IsBeingCleared w m q b.number t → IsBeingCleared u m q b.number t
      clearing-still t waits (inl asked) = cleared-now t (awaited-is b run t waits) (way _ asked)
      clearing-still t waits (inr answer) = by-way (way _ answer)
        where
          by-way : IsOnItsWay u (note_envelope t m q (Cleared b.number)) ⊎ ((input ≡ Deliver (note_envelope t m q (Cleared b.number))) × (m ≡ s)) → IsBeingCleared u m q b.number t
          by-way (inl goes) = inr goes
          by-way (inr (handed, here)) = absurd ((unheard here).cleared run t is waits handed)

      handing-still : IsBeingHanded w m q b run → IsBeingHanded u m q b run
      handing-still (inl asked) = handed-now (way _ asked)
      handing-still (inr (inl (y, (j, page)))) = page-now y (live-sent w j _ page) (way _ (j, page))
      handing-still (inr (inr confirm)) = by-way (way _ confirm)
        where
          by-way : IsOnItsWay u (note_envelope run.requester m q (Confirm b.number)) ⊎ ((input ≡ Deliver (note_envelope run.requester m q (Confirm b.number))) × (m ≡ s)) → IsBeingHanded u m q b run
          by-way (inl goes) = inr (inr goes)
          by-way (inr (handed, here)) = absurd ((unheard here).confirmed run is handed)

      pub goes-still : TransactionGoesOn u m q b run
      goes-still = record {
        clearing = λ t here. clearing-still t (awaited-has b run t here).1 (going.clearing t here);
        handing = λ none. handing-still (going.handing none);
      }

    -- a site answered that it was cleared: the others are still being cleared, or the owner is told to hand the page
    module _ (t : ℕ) (heard : input ≡ Deliver (note_envelope t m q (Cleared b.number))) where
      abbrev c : Book
      c = record b { cleared = at b.cleared t true }

      one-envelope : (e f : Envelope) → input ≡ Deliver e → input ≡ Deliver f → e ≡ f
      one-envelope e f p r = cc

      not-cleared : (k : ℕ) → at b.cleared t true k ≡ false → (t ≢ k) × (b.cleared k ≡ false)
      not-cleared k e = (grind (arith, nat_tests), cond_both (t == k) true (b.cleared k) (λ y. y ≡ false → b.cleared k ≡ false) (λ f g. cc) (λ f g. g) e)

      still-awaited : (k : ℕ) → Awaited c run k → awaits b run k ≡ true
      still-awaited k a =
          and_from _ _ (and_from _ _ (and_from _ _ (ap is_write a.write) a.copy) (apart k run.requester a.other)) (ap not (not-cleared k a.uncleared).1)
        where
          apart : (k r : ℕ) → k ≢ r → not (k == r) ≡ true
          apart k r o = grind (arith, nat_tests)

      clearing-others : (k : ℕ) → Awaited c run k → IsBeingCleared w m q b.number k → IsBeingCleared u m q b.number k
      clearing-others k a (inl asked) = by-way (way _ asked)
        where
          by-way : IsOnItsWay u (note_envelope m k q (Clear b.number)) ⊎ ((input ≡ Deliver (note_envelope m k q (Clear b.number))) × (k ≡ s)) → IsBeingCleared u m q b.number k
          by-way (inl goes) = inl goes
          by-way (inr (handed, here)) = absurd (let one : Of q (Clear b.number) ≡ Of q (Cleared b.number) = ap (λ (e : Envelope). e.message) (one-envelope _ _ handed heard) in cc)
      clearing-others k a (inr answer) = by-way (way _ answer)
        where
          by-way : IsOnItsWay u (note_envelope k m q (Cleared b.number)) ⊎ ((input ≡ Deliver (note_envelope k m q (Cleared b.number))) × (m ≡ s)) → IsBeingCleared u m q b.number k
          by-way (inl goes) = inr goes
          by-way (inr (handed, here)) = absurd ((not-cleared k a.uncleared).0 (ap (λ (e : Envelope). e.from) (one-envelope _ _ heard handed)))

      pub goes-cleared : (awaited c run ≡ [] → Told m q c run st.sent) → TransactionGoesOn u m q c run
      goes-cleared hands = record {
        clearing = λ k here. let (low, waits) = awaited-has c run k here in let a = awaited-is c run k waits in
            clearing-others k a (going.clearing k (has-awaited b run k low (still-awaited k a)));
        handing = λ none. (told-goes c run (hands none)).handing none;
      }
