-- A transaction goes on until it ends, as long as nothing is lost and its manager doesn't restart.
use Rattle.std.proofs.Common.{◌≡◌, ◌≢◌, ℕ, ◌<◌, ◌⊎◌, inl, inr, Bool, true, false, Option, Some, None, List, [], ◌∷◌, ◌++◌, slice_get, slice_set, arith, refl, sym, ◌∙◌, ap, subst, Contains}
use Rattle.std.proofs.lemmas.Bool.{cases_eq, cases_Bool, cond_both}
use Rattle.std.proofs.lemmas.Option.{slice_get_within}
use Rattle.shm_place.specs.declared.page_id.PageId.{PageId}
use Rattle.shm_place.specs.Page.{manager_of}
use Rattle.shm_model.specs.declared.event.Event.{Event}
use Rattle.shm_model.specs.declared.event.Event.TheVariants.{Tick as TickEvent, Restart as RestartEvent}
use Rattle.shm_model.specs.Entry.{Note, Cleared}
use Rattle.shm_model.specs.Book.{Book, Running, Waiting, awaited, orders}
use Rattle.shm_model.specs.Basics.{at}
use Rattle.shm_model.specs.Message.{Envelope, Input, Deliver, Restart, Tick}
use Rattle.shm_model.specs.Site.{Site, Step}
use Rattle.shm_model.specs.Step.{step}
use Rattle.shm_model.specs.Transfer.{order_envelopes}
use Rattle.shm_model.specs.World.{IsOpening, Next, Opening, Run, World, is_full, live, run, sites_of, step_site, stepped, without}
use Rattle.shm_laws.proofs.Run.Induction.{IsHonest, Shape, run-shape}
use Rattle.shm_laws.proofs.Page.View.{Fits, Holds, View}
use Rattle.shm_laws.proofs.Page.Orders.{Each}
use Rattle.shm_laws.proofs.Page.Book.{with_book}
use Rattle.shm_laws.proofs.Page.Moves.{EnvelopeFits, now_of}
use Rattle.shm_laws.proofs.Sound.{Sound, each-in, set-here, set-there}
use Rattle.shm_laws.proofs.Headline.{run-sound}
use Rattle.shm_progress.specs.Deliveries.{IsAtRest}
use Rattle.shm_progress.specs.OnTheWay.{IsOnItsWay, NothingLost, is_loss}
use Rattle.shm_progress.specs.Transactions.{IsBeingCleared, IsBeingHanded, IsPurgedSomewhere, NotRestarted, TransactionGoesOn, TransactionsGoOn}
use Rattle.shm_progress.proofs.OnTheWay.{Fresh, Moved, same, drops, steps, OnlySent, Takes, live-parts, moved, others-stay, run-fresh}
use Rattle.shm_progress.proofs.Purge.Answers.{contains-first}
use Rattle.shm_progress.proofs.Along.{since}
use Rattle.shm_progress.proofs.Transfer.Booked.{Booked, run-booked}
use Rattle.shm_progress.proofs.Transfer.Bounds.{Asker, Bounds, run-bounds}
use Rattle.shm_progress.proofs.Transfer.Gone.{purged-here, purged-still}
use Rattle.shm_progress.proofs.Transfer.Kept.{awaited-is, goes-cleared, goes-still, told-goes, waiting-goes}
use Rattle.shm_progress.proofs.Transfer.Rows.{BookMove, Unheard, asks, clears, keeps, note_envelope, stops}
use Rattle.shm_progress.proofs.Transfer.Steps.{step-moves}
use Rattle.shm_progress.proofs.Transfer.Told.{Told, awaited-has, tick-told, told}

same-site : (found : Option Site) (x y : Site) → found ≡ Some x → found ≡ Some y → x ≡ y
same-site found x y p q = cc

same-running : (found : Option Running) (x y : Running) → found ≡ Some x → found ≡ Some y → x ≡ y
same-running found x y p q = cc

-- what every world of a run has
module _ (o : Opening) (r : Run) (sound : Sound o r) (shape : Shape o r.world) (fresh : Fresh r.world)
    (bounded : (s : ℕ) (x : Site) → slice_get r.world.sites s ≡ Some x → (q : PageId) → Bounds (sites_of o) s q (x.books q)) (m : ℕ) where
  abbrev w : World
  w = r.world

  bounds-at : (z : Site) → slice_get w.sites m ≡ Some z → (q : PageId) → Bounds w.count m q (z.books q)
  bounds-at z found q = subst (λ n. Bounds n m q (z.books q)) (sym shape.count) (bounded m z found q)

  small-at : (s : ℕ) (z : Site) → slice_get w.sites s ≡ Some z → s < w.count
  small-at s z found = let within = slice_get_within w.sites s z found in let all = shape.sites in let count = shape.count in omega (arith, within, all, count)

  -- one envelope goes that was for no site
  module _ (goes : TransactionsGoOn w m) (k : ℕ) (e : Envelope) (gone : live w k ≡ Some e) (nowhere : slice_get w.sites e.to ≡ None) where
    still : (x : Site) (f : Envelope) → f.to < w.count → IsOnItsWay w f → IsOnItsWay (without w k) f
    still x f small way = others-stay w (shape.sites ∙ sym shape.count) k e gone nowhere f x small way

    module _ (x : Site) (q : PageId) (run : Running) (found : slice_get w.sites m ≡ Some x) (is : (x.books q).running ≡ Some run) where
      clearing : (t : ℕ) → t < w.count → IsBeingCleared w m q (x.books q).number t → IsBeingCleared (without w k) m q (x.books q).number t
      clearing t small (inl asked) = inl (still x _ small asked)
      clearing t small (inr answer) = inr (still x _ (small-at m x found) answer)

      handing : IsBeingHanded w m q (x.books q) run → IsBeingHanded (without w k) m q (x.books q) run
      handing (inl asked) = inl (still x _ (bounds-at x found q).owner asked)
      handing (inr (inl (y, page))) = inr (inl (y, still x _ ((bounds-at x found q).running run is).small page))
      handing (inr (inr confirm)) = inr (inr (still x _ (small-at m x found) confirm))

      dropped : TransactionGoesOn w m q (x.books q) run ⊎ IsPurgedSomewhere w q.seg → TransactionGoesOn (without w k) m q (x.books q) run ⊎ IsPurgedSomewhere (without w k) q.seg
      dropped (inl g) = inl (record {
        clearing = λ t here. clearing t ((bounds-at x found q).copies t (awaited-is (x.books q) run t (awaited-has (x.books q) run t here).1).copy) (g.clearing t here);
        handing = λ none. handing (g.handing none);
      })
      dropped (inr (s, y, at, gone)) = inr (s, y, at, gone)

    pub dropped-goes : TransactionsGoOn (without w k) m
    dropped-goes x q run found is = dropped x q run found is (goes x q run found is)

  -- a site steps
  module _ (goes : TransactionsGoOn w m) (gone : ℕ → Bool) (only : OnlySent w gone) where
    module _ (s : ℕ) (x : Site) (input : Input) (found : slice_get w.sites s ≡ Some x) (takes : Takes w gone s input) where
      abbrev st : Step
      st = step w.count s x input

      abbrev u : World
      u = (stepped (record w { gone = gone }) s input st).world

      -- the transaction that runs at the manager before the step
      module _ (q : PageId) (z : Site) (at_m : slice_get w.sites m ≡ Some z) (open_m : z.purged q.seg ≡ false) (open_s : x.purged q.seg ≡ false) (run : Running) (is : (z.books q).running ≡ Some run)
          (going : TransactionGoesOn w m q (z.books q) run) where
        abbrev v : View
        v = (sound.pages q).view

        asker : Asker w.count m q run.requester
        asker = (bounds-at z at_m q).running run is

        same-book : v.book ≡ z.books q
        same-book = ((sound.pages q).local m z at_m).book (ap (λ n. manager_of n q) (sym shape.count) ∙ asker.manager) open_m

        holds : Holds (now_of o q r.account) (with_book v (z.books q))
        holds = subst (λ b. Holds (now_of o q r.account) (with_book v b)) same-book (sound.pages q).holds

        entry : v.entries s ≡ x.entries q
        entry = ((sound.pages q).local s x found).entry open_s

        fits : (from to : ℕ) (note : Note) → Contains w.sent (note_envelope from to q note) → Fits (now_of o q r.account) (with_book v (z.books q)) from to note
        fits from to note sent =
            subst (λ b. Fits (now_of o q r.account) (with_book v b) from to note) same-book
            ((each-in (EnvelopeFits (now_of o q r.account) q v) w.sent (note_envelope from to q note) (sound.pages q).fits sent).fits note refl)

        still-going : (m ≡ s → Unheard m q (z.books q) input) → TransactionGoesOn u m q (z.books q) run
        still-going unheard =
            goes-still w fresh gone s x input takes only m q (now_of o q r.account) v (z.books q) holds entry open_s fits (small-at m z at_m) (bounds-at z at_m q) run is going unheard

        cleared-going : (t : ℕ) → input ≡ Deliver (note_envelope t m q (Cleared (z.books q).number))
            → (awaited (record (z.books q) { cleared = at (z.books q).cleared t true }) run ≡ [] → Told m q (record (z.books q) { cleared = at (z.books q).cleared t true }) run st.sent)
            → TransactionGoesOn u m q (record (z.books q) { cleared = at (z.books q).cleared t true }) run
        cleared-going t heard hands =
            goes-cleared w fresh gone s x input takes only m q (now_of o q r.account) v (z.books q) holds entry open_s fits (small-at m z at_m) (bounds-at z at_m q) run is going t heard hands

      -- another site steps than the manager
      elsewhere : m ≢ s → TransactionsGoOn u m
      elsewhere there y q run now is = by-going (goes y q run at_m is)
        where
          at_m : slice_get w.sites m ≡ Some y
          at_m = sym (set-there w.sites s m st.site there) ∙ now

          by-purged : TransactionGoesOn w m q (y.books q) run → (y.purged q.seg ≡ true) ⊎ (y.purged q.seg ≡ false) → (x.purged q.seg ≡ true) ⊎ (x.purged q.seg ≡ false)
              → TransactionGoesOn u m q (y.books q) run ⊎ IsPurgedSomewhere u q.seg
          by-purged g (inl p) other = inr (m, y, now, p)
          by-purged g (inr open_m) (inl p) = inr (purged-here w gone s x input found q.seg p)
          by-purged g (inr open_m) (inr open_s) = inl (still-going q y at_m open_m open_s run is g (λ here. absurd (there here)))

          by-going : TransactionGoesOn w m q (y.books q) run ⊎ IsPurgedSomewhere w q.seg → TransactionGoesOn u m q (y.books q) run ⊎ IsPurgedSomewhere u q.seg
          by-going (inl g) = by-purged g (cases_Bool (y.purged q.seg)) (cases_Bool (x.purged q.seg))
          by-going (inr p) = inr (purged-still w gone s x input found q.seg p)

    -- the manager steps
    module _ (x : Site) (input : Input) (found : slice_get w.sites m ≡ Some x) (takes : Takes w gone m input) (honest : (e : Envelope) → input ≡ Deliver e → e.to ≡ m) (unrestarted : input ≢ Restart) where
      abbrev st-m : Step
      st-m = step w.count m x input

      abbrev u-m : World
      u-m = (stepped (record w { gone = gone }) m input st-m).world

      module _ (q : PageId) (run : Running) (open_here : x.purged q.seg ≡ false) where
        abbrev Goal : Book → Type 0
        Goal c = c.running ≡ Some run → TransactionGoesOn u-m m q c run ⊎ IsPurgedSomewhere u-m q.seg

        waited : (ws : List Waiting) → Unheard m q (x.books q) input → Goal (record (x.books q) { waiting = ws })
        waited ws unheard is = by-going (goes x q run found is)
          where
            by-going : TransactionGoesOn w m q (x.books q) run ⊎ IsPurgedSomewhere w q.seg → TransactionGoesOn u-m m q (record (x.books q) { waiting = ws }) run ⊎ IsPurgedSomewhere u-m q.seg
            by-going (inl g) = inl (waiting-goes u-m m q (x.books q) ws run (still-going m x input found takes q x found open_here open_here run is g (λ here. unheard)))
            by-going (inr p) = inr (purged-still w gone m x input found q.seg p)

        cleared-one : (before : Running) (t : ℕ) → (x.books q).running ≡ Some before → input ≡ Deliver (note_envelope t m q (Cleared (x.books q).number))
            → (awaited (record (x.books q) { cleared = at (x.books q).cleared t true }) before ≡ [] → (f : Envelope)
            → Contains (order_envelopes m q (record (x.books q) { cleared = at (x.books q).cleared t true }) (orders (record (x.books q) { cleared = at (x.books q).cleared t true }))) f → Contains st-m.sent f)
            → Goal (record (x.books q) { cleared = at (x.books q).cleared t true })
        cleared-one before t was heard hands is = by-going (goes x q run found is)
          where
            one : before ≡ run
            one = same-running (x.books q).running before run was is

            by-going : TransactionGoesOn w m q (x.books q) run ⊎ IsPurgedSomewhere w q.seg → TransactionGoesOn u-m m q (record (x.books q) { cleared = at (x.books q).cleared t true }) run ⊎ IsPurgedSomewhere u-m q.seg
            by-going (inl g) = inl (cleared-going m x input found takes q x found open_here open_here run is g t heard
                (λ none. told m q (record (x.books q) { cleared = at (x.books q).cleared t true }) run st-m.sent is (hands (ap (awaited (record (x.books q) { cleared = at (x.books q).cleared t true })) one ∙ none))))
            by-going (inr p) = inr (purged-still w gone m x input found q.seg p)

        by-move : (c : Book) → BookMove m q (x.books q) input c st-m.sent → Goal c
        by-move c (stops idle) is = absurd (some-none c.running run idle is)
          where
            some-none : (found : Option Running) (run : Running) → found ≡ None → found ≡ Some run → ⊥
            some-none found run p q = cc
        by-move c (asks all) is = inl (told-goes w fresh gone m x input takes only m q c run (told m q c run st-m.sent is all))
        by-move c (keeps ws kept unheard) is = subst Goal (sym kept) (waited ws unheard) is
        by-move c (clears before t was heard kept hands) is =
            subst (λ b. (awaited b before ≡ [] → (f : Envelope) → Contains (order_envelopes m q b (orders b)) f → Contains st-m.sent f) → Goal b) (sym kept) (cleared-one before t was heard) hands is

      pub at-manager : TransactionsGoOn u-m m
      at-manager y q run now is = by-purged (cases_Bool (x.purged q.seg))
        where
          mine : st-m.site ≡ y
          mine = same-site (slice_get u-m.sites m) st-m.site y (set-here w.sites m x st-m.site found) now

          by-purged : (x.purged q.seg ≡ true) ⊎ (x.purged q.seg ≡ false) → TransactionGoesOn u-m m q (y.books q) run ⊎ IsPurgedSomewhere u-m q.seg
          by-purged (inl p) = inr (purged-here w gone m x input found q.seg p)
          by-purged (inr open_here) =
              subst (λ (t : Site). (t.books q).running ≡ Some run → TransactionGoesOn u-m m q (t.books q) run ⊎ IsPurgedSomewhere u-m q.seg) mine
              (by-move q run open_here (st-m.site.books q) (step-moves w.count m q x (bounds-at x found q) open_here input honest unrestarted)) is

    pub stepped-goes : (s : ℕ) (x : Site) (input : Input) → slice_get w.sites s ≡ Some x → Takes w gone s input → ((e : Envelope) → input ≡ Deliver e → e.to ≡ s) → (s ≡ m → input ≢ Restart)
        → TransactionsGoOn (stepped (record w { gone = gone }) s input (step w.count s x input)).world m
    stepped-goes s x input found takes honest unrestarted = by-site (cases_eq m s)
      where
        by-site : (m ≡ s) ⊎ (m ≢ s) → TransactionsGoOn (stepped (record w { gone = gone }) s input (step w.count s x input)).world m
        by-site (inl here) =
            subst (λ t. slice_get w.sites t ≡ Some x → Takes w gone t input → ((e : Envelope) → input ≡ Deliver e → e.to ≡ t) → TransactionsGoOn (stepped (record w { gone = gone }) t input (step w.count t x input)).world m)
            here (λ f t h. at-manager x input f t h (unrestarted (sym here))) found takes honest
        by-site (inr there) = elsewhere s x input found takes there

    honest-to : (s : ℕ) (input : Input) → IsHonest w s input → (e : Envelope) → input ≡ Deliver e → e.to ≡ s
    honest-to s input honest e is = (subst (IsHonest w s) is honest).1

  pub moved-goes : TransactionsGoOn w m → (v : Event) (u : World) → is_loss v ≡ false → v ≢ RestartEvent m → is_full w ≡ false → Moved w v u → TransactionsGoOn u m
  moved-goes goes v u kept unrestarted free same = goes
  moved-goes goes v u kept unrestarted free (drops k e h why) = dropped-goes goes k e h (why kept free)
  moved-goes goes v u kept unrestarted free (steps gone s x input found honest takes only restarts) =
      stepped-goes goes gone only s x input found takes (honest-to goes gone only s input honest) (λ here is. unrestarted (restarts is ∙ ap RestartEvent here))

  -- the manager's tick asks for all that runs
  pub tick-goes : ((x : Site) → slice_get w.sites m ≡ Some x → Booked x) → is_full w ≡ false → (found : Option Site) → slice_get w.sites m ≡ found → TransactionsGoOn (step_site found w m Tick).world m
  tick-goes booked free None none = λ x q run found is. absurd (some-none (slice_get w.sites m) x found none)
    where
      some-none : (found : Option Site) (y : Site) → found ≡ Some y → found ≡ None → ⊥
      some-none found y p q = cc
  tick-goes booked free (Some x) found =
      cond_both (is_full w) _ _ (λ (n : Next). TransactionsGoOn n.world m) (λ full. let both : true ≡ false = sym full ∙ free in cc)
      (λ e. λ z q run now is.
      let mine : x ≡ z = same-site (slice_get (slice_set w.sites m x) m) x z (set-here w.sites m x x found) now in
      subst (λ (y : Site). (y.books q).running ≡ Some run → TransactionGoesOn (stepped w m Tick (step w.count m x Tick)).world m q (y.books q) run ⊎ IsPurgedSomewhere (stepped w m Tick (step w.count m x Tick)).world q.seg) mine
      (λ runs. inl (told-goes w fresh w.gone m x Tick (λ j f h. inl (live-parts w j f h).0) (λ j past only. only) m q (x.books q) run (tick-told w.count m x q run (booked x found) runs))) is)

-- neither loses an envelope nor restarts the site
abbrev pub Keeps : ℕ → Event → Type 0
Keeps m e = (is_loss e ≡ false) × (e ≢ RestartEvent m)

pub both-kept : (m : ℕ) (events : List Event) → NothingLost events → NotRestarted m events → Each (Keeps m) events
both-kept m [] kept unrestarted = tt
both-kept m (e ∷ es) kept unrestarted = ((kept.0, unrestarted.0), both-kept m es kept.1 unrestarted.1)

pub transactions-go-on : (o : Opening) → IsOpening o → (m : ℕ) (earlier later : List Event) → NothingLost later → NotRestarted m later → is_full (run o (earlier ++ (TickEvent m ∷ later))).world ≡ false
    → TransactionsGoOn (run o (earlier ++ (TickEvent m ∷ later))).world m
transactions-go-on o opening m earlier later kept unrestarted free =
    since o (Keeps m) (λ w. TransactionsGoOn w m)
    (λ es e k not_full goes. moved-goes o (run o es) (run-sound o es opening) (run-shape o es) (run-fresh o es) (run-bounds o es) m goes e _ k.0 k.1 not_full (moved (run o es).world e))
    (TickEvent m)
    (λ es not_full. tick-goes o (run o es) (run-sound o es opening) (run-shape o es) (run-fresh o es) (run-bounds o es) m (run-booked o es m) not_full (slice_get (run o es).world.sites m) refl)
    earlier later (both-kept m later kept unrestarted) free

-- where nothing is on its way nothing runs
pub ended-at-rest : (w : World) (m : ℕ) (x : Site) (q : PageId) → TransactionsGoOn w m → IsAtRest w → slice_get w.sites m ≡ Some x → ((x.books q).running ≡ None) ⊎ IsPurgedSomewhere w q.seg
ended-at-rest w m x q goes rest found = by-running (x.books q).running refl
  where
    nothing : (f : Envelope) → IsOnItsWay w f → ⊥
    nothing f (k, h) = let none = rest k in cc

    cleared-none : (n t : ℕ) → IsBeingCleared w m q n t → ⊥
    cleared-none n t (inl asked) = nothing _ asked
    cleared-none n t (inr answer) = nothing _ answer

    handed-none : (run : Running) → IsBeingHanded w m q (x.books q) run → ⊥
    handed-none run (inl asked) = nothing _ asked
    handed-none run (inr (inl (y, page))) = nothing _ page
    handed-none run (inr (inr confirm)) = nothing _ confirm

    stuck : (run : Running) → TransactionGoesOn w m q (x.books q) run → (ts : List ℕ) → awaited (x.books q) run ≡ ts → ⊥
    stuck run g [] none = handed-none run (g.handing none)
    stuck run g (t ∷ ts) some = cleared-none (x.books q).number t (g.clearing t (subst (λ l. Contains l t) (sym some) (contains-first t ts)))

    by-going : (run : Running) → TransactionGoesOn w m q (x.books q) run ⊎ IsPurgedSomewhere w q.seg → ((x.books q).running ≡ None) ⊎ IsPurgedSomewhere w q.seg
    by-going run (inl g) = absurd (stuck run g (awaited (x.books q) run) refl)
    by-going run (inr p) = inr p

    by-running : (found : Option Running) → (x.books q).running ≡ found → ((x.books q).running ≡ None) ⊎ IsPurgedSomewhere w q.seg
    by-running None is = inl is
    by-running (Some run) is = by-going run (goes x q run found is)
