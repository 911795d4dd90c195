-- A request goes on until it is taken up, as long as nothing is lost and its manager doesn't restart.
use Rattle.std.proofs.Common.{◌≡◌, ◌≢◌, ℕ, ◌+◌, ◌%◌, ◌<◌, ◌≤◌, ◌⊎◌, inl, inr, Bool, true, false, ◌==◌, Option, Some, None, List, [], ◌∷◌, ◌++◌, append_assoc, slice_get, slice_set, arith, refl, sym, ◌∙◌, ap, subst, Contains}
use Rattle.std.proofs.lemmas.Bool.{cases_eq, cases_Bool, cond-true, cond_both, eqb-true}
use Rattle.std.proofs.lemmas.Option.{slice_get_within}
use Rattle.shm_place.specs.declared.page_id.PageId.{PageId}
use Rattle.shm_place.specs.Page.{in_limits, manager_of}
use Rattle.shm_model.specs.declared.event.Event.{Event}
use Rattle.shm_model.specs.declared.event.Event.TheVariants.{Tick as TickEvent, Restart as RestartEvent}
use Rattle.shm_model.specs.Entry.{Ask}
use Rattle.shm_model.specs.Basics.{greatest}
use Rattle.shm_model.specs.Message.{Envelope, Input, Deliver, Restart, Tick}
use Rattle.shm_model.specs.Site.{Pending, Site, Step}
use Rattle.shm_model.specs.Step.{ask_again, deliver, step}
use Rattle.shm_model.specs.World.{IsOpening, Next, Opening, Run, World, is_full, live, next, run, sites_of, step_site, stepped, without}
use Rattle.shm_laws.proofs.Run.Induction.{Shape, run-shape}
use Rattle.shm_laws.proofs.Sound.{set-here, set-there}
use Rattle.shm_laws.proofs.Headline.{size-of}
use Rattle.shm_progress.specs.Deliveries.{IsAtRest}
use Rattle.shm_progress.specs.OnTheWay.{IsOnItsWay, NothingLost, is_loss}
use Rattle.shm_progress.specs.Requests.{IsTakenUp, IsTakenUpAt, NumbersUsedUp, RequestGoesOn, RequestsGoOn, TakesNone, TookNone}
use Rattle.shm_progress.specs.Transactions.{IsPurgedSomewhere, NoteGoes, NotRestarted}
use Rattle.shm_progress.proofs.Along.{along, free-first, run-more, run-started}
use Rattle.shm_progress.proofs.OnTheWay.{Fresh, Moved, same, drops, steps, OnlySent, Takes, joins, moved, others-stay, run-fresh, stays}
use Rattle.shm_progress.proofs.Request.Limits.{pending-limits}
use Rattle.shm_progress.proofs.Request.Pending.{Placed, step-before, tick-asks}
use Rattle.shm_progress.proofs.Request.Steps.{ask-handed, step-keeps}
use Rattle.shm_progress.proofs.Transfer.Gone.{purged-here, purged-still}
use Rattle.shm_progress.proofs.Transfer.GoOn.{Keeps, both-kept}
use Rattle.shm_progress.proofs.Transfer.Rows.{note_envelope}

same-site : (found : Option Site) (x y : Site) → found ≡ Some x → found ≡ Some y → x ≡ y
same-site found x y p q = cc

-- what was turned away stays so
turned-longer : (o : Opening) (before done : List Event) (e : Event) (m s : ℕ) (p : Pending) → TookNone o before done m s p → TookNone o before (done ++ (e ∷ [])) m s p
turned-longer o before done e m s p (inl t) = inl (record {
  front = t.front;
  event = t.event;
  back = t.back ++ (e ∷ []);
  is = ap (λ es. es ++ (e ∷ [])) t.is ∙ append_assoc t.front (t.event ∷ t.back) (e ∷ []);
  site = t.site;
  found = t.found;
  full = t.full;
  number = t.number;
  asked = t.asked;
  gone = t.gone;
})
turned-longer o before done e m s p (inr t) = inr (record { front = t.front; back = t.back ++ (e ∷ []); is = ap (λ es. es ++ (e ∷ [])) t.is ∙ append_assoc t.front t.back (e ∷ []); site = t.site; found = t.found; last = t.last })

module _ (o : Opening) (opening : IsOpening o) (before : List Event) (m s : ℕ) (done : List Event) (e : Event) where
  abbrev w : World
  w = (run o (before ++ done)).world

  shape : Shape o w
  shape = run-shape o (before ++ done)

  -- where a request is in this world, or that it was turned away
  abbrev Is : World → Pending → Type 0
  Is u p = NoteGoes u p.page s m (Ask p.request p.kind) ⊎ (IsTakenUpAt u m s p ⊎ (TookNone o before (done ++ (e ∷ [])) m s p ⊎ IsPurgedSomewhere u p.page.seg))

  abbrev All : World → Type 0
  All u = (x : Site) (p : Pending) → slice_get u.sites s ≡ Some x → Contains x.pending p → manager_of (sites_of o) p.page ≡ m → Is u p

  used-up : (x : Site) (q : PageId) → slice_get w.sites m ≡ Some x → (x.books q).number ≡ greatest → NumbersUsedUp o before (done ++ (e ∷ [])) m q
  used-up x q found last = record { front = done; back = e ∷ []; is = refl; site = x; found = found; last = last }

  manager-small : (q : PageId) → manager_of (sites_of o) q ≡ m → m < w.count
  manager-small q is = let low = rest (sites_of o) q.seg q.index (size-of o opening).some_site in let count = shape.count in omega (arith, low, count, is)
    where
      rest : (n seg index : ℕ) → 1 ≤ n → (seg + index) % n < n
      rest n seg index some = omega arith

  module _ (goes : RequestsGoOn o before done m s) where
    same-goes : All w
    same-goes x p found here manager = still (goes x p found here manager)
      where
        still : RequestGoesOn o before done m s p → Is w p
        still (inl asked) = inl asked
        still (inr (inl taken)) = inr (inl taken)
        still (inr (inr (inl turned))) = inr (inr (inl (turned-longer o before done e m s p turned)))
        still (inr (inr (inr purged))) = inr (inr (inr purged))

    -- one envelope goes that was for no site
    dropped-goes : (k : ℕ) (f : Envelope) → live w k ≡ Some f → slice_get w.sites f.to ≡ None → All (without w k)
    dropped-goes k f gone nowhere x p found here manager = still (goes x p found here manager)
      where
        still : RequestGoesOn o before done m s p → Is (without w k) p
        still (inl asked) = inl (others-stay w (shape.sites ∙ sym shape.count) k f gone nowhere (note_envelope s m p.page (Ask p.request p.kind)) x (manager-small p.page manager) asked)
        still (inr (inl (y, at, taken))) = inr (inl (y, at, taken))
        still (inr (inr (inl turned))) = inr (inr (inl (turned-longer o before done e m s p turned)))
        still (inr (inr (inr (t, y, at, is)))) = inr (inr (inr (t, y, at, is)))

    -- a site steps
    module _ (fresh : Fresh w) (gone : ℕ → Bool) (t : ℕ) (x : Site) (input : Input) (found : slice_get w.sites t ≡ Some x) (takes : Takes w gone t input) (only : OnlySent w gone) (unrestarted : t ≡ m → input ≢ Restart) (free : is_full w ≡ false)
        (nexts : (stepped (record w { gone = gone }) t input (step w.count t x input)).world ≡ (run o (before ++ (done ++ (e ∷ [])))).world) where
      abbrev st : Step
      st = step w.count t x input

      abbrev u : World
      u = (stepped (record w { gone = gone }) t input st).world

      module _ (z : Site) (p : Pending) (at_s : slice_get w.sites s ≡ Some z) (manager : manager_of (sites_of o) p.page ≡ m) (limits : in_limits (sites_of o) p.page ≡ true) where
        abbrev ask : Envelope
        ask = note_envelope s m p.page (Ask p.request p.kind)

        -- the Ask is handed over to the manager
        asked-now : (j : ℕ) → live w j ≡ Some ask → gone j ≡ true → input ≡ Deliver ask → m ≡ t → (x.purged p.page.seg ≡ true) ⊎ (x.purged p.page.seg ≡ false) → Is u p
        asked-now j going gone_now handed here (inl is) = inr (inr (inr (purged-here w gone t x input found p.page.seg is)))
        asked-now j going gone_now handed here (inr open_here) =
            by-heard (ask-handed w.count t p.page x s p.request p.kind small (subst (λ n. in_limits n p.page ≡ true) (sym shape.count) limits) (subst (λ n. manager_of n p.page ≡ t) (sym shape.count) (manager ∙ here)) open_here)
          where
            small : s < w.count
            small = let within = slice_get_within w.sites s z at_s in let all = shape.sites in let count = shape.count in omega (arith, within, all, count)

            step-is : deliver w.count t (note_envelope s t p.page (Ask p.request p.kind)) x ≡ st
            step-is = ap (λ k. deliver w.count t (note_envelope s k p.page (Ask p.request p.kind)) x) (sym here) ∙ ap (step w.count t x) (sym handed)

            by-heard : IsTakenUp ((deliver w.count t (note_envelope s t p.page (Ask p.request p.kind)) x).site.books p.page) s p.request ⊎ TakesNone (x.books p.page) → Is u p
            by-heard (inl taken) =
                inr (inl (st.site, ap (slice_get u.sites) here ∙ set-here w.sites t x st.site found, subst (λ (k : Step). IsTakenUp (k.site.books p.page) s p.request) step-is taken))
            by-heard (inr (inl full)) = inr (inr (inl (inl (record {
              front = done;
              event = e;
              back = [];
              is = refl;
              site = x;
              found = ap (slice_get w.sites) here ∙ found;
              full = full;
              number = j;
              asked = going;
              gone = ap (λ (v : World). live v j) (sym nexts) ∙ cond-true (gone j) None (slice_get u.sent j) gone_now;
            }))))
            by-heard (inr (inr last)) = inr (inr (inl (inr (used-up x p.page (ap (slice_get w.sites) here ∙ found) last))))

        asked-still : NoteGoes w p.page s m (Ask p.request p.kind) → Is u p
        asked-still (j, h) = by-gone (gone j) refl (takes j ask h)
          where
            by-gone : (b : Bool) → gone j ≡ b → (gone j ≡ false) ⊎ ((input ≡ Deliver ask) × (m ≡ t)) → Is u p
            by-gone false is taken = inl (stays w fresh gone t x input only j ask h is)
            by-gone true is (inl free) = inl (stays w fresh gone t x input only j ask h free)
            by-gone true is (inr (handed, here)) = asked-now j h is handed here (cases_Bool (x.purged p.page.seg))

        -- the manager has taken it up
        taken-still : IsTakenUpAt w m s p → (m ≡ t) ⊎ (m ≢ t) → Is u p
        taken-still (y, at, taken) (inr there) = inr (inl (y, set-there w.sites t m st.site there ∙ at, taken))
        taken-still (y, at, taken) (inl here) = by-number ((x.books p.page).number == greatest) refl
          where
            taken-x : IsTakenUp (x.books p.page) s p.request
            taken-x = subst (λ (k : Site). IsTakenUp (k.books p.page) s p.request) (same-site (slice_get w.sites t) y x (ap (slice_get w.sites) (sym here) ∙ at) found) taken

            by-kept : IsTakenUp (st.site.books p.page) s p.request ⊎ (st.site.purged p.page.seg ≡ true) → Is u p
            by-kept (inl now) = inr (inl (st.site, ap (slice_get u.sites) here ∙ set-here w.sites t x st.site found, now))
            by-kept (inr is) = inr (inr (inr (t, st.site, set-here w.sites t x st.site found, is)))

            by-number : (b : Bool) → ((x.books p.page).number == greatest) ≡ b → Is u p
            by-number true e = inr (inr (inl (inr (used-up x p.page (ap (slice_get w.sites) here ∙ found) (eqb-true (x.books p.page).number greatest e)))))
            by-number false e = by-kept (step-keeps w.count t p.page x s p.request taken-x e input (unrestarted (sym here)))

        was-still : RequestGoesOn o before done m s p → Is u p
        was-still (inl asked) = asked-still asked
        was-still (inr (inl taken)) = taken-still taken (cases_eq m t)
        was-still (inr (inr (inl turned))) = inr (inr (inl (turned-longer o before done e m s p turned)))
        was-still (inr (inr (inr purged))) = inr (inr (inr (purged-still w gone t x input found p.page.seg purged)))

      stepped-goes : All u
      stepped-goes y p now here manager = by-site (cases_eq s t)
        where
          by-before : s ≡ t → Contains x.pending p ⊎ (Contains st.sent (ask_again w.count t p) × Placed x p.page) → Is u p
          by-before it (inl was) = was-still x p (ap (slice_get w.sites) it ∙ found) manager (pending-limits o opening (before ++ done) free t x p found was) (goes x p (ap (slice_get w.sites) it ∙ found) was manager)
          by-before it (inr (asked, placed)) =
              inl (joins w fresh gone t x input only (note_envelope s m p.page (Ask p.request p.kind))
              (subst (λ k. Contains st.sent (note_envelope k m p.page (Ask p.request p.kind))) (sym it)
              (subst (λ k. Contains st.sent (note_envelope t k p.page (Ask p.request p.kind))) (ap (λ n. manager_of n p.page) shape.count ∙ manager) asked)))

          by-site : (s ≡ t) ⊎ (s ≢ t) → Is u p
          by-site (inl it) =
              let mine : y ≡ st.site = same-site (slice_get u.sites s) y st.site now (ap (slice_get u.sites) it ∙ set-here w.sites t x st.site found) in
              by-before it (step-before w.count t x p input (subst (λ (k : Site). Contains k.pending p) mine here))
          by-site (inr there) =
              let at_s : slice_get w.sites s ≡ Some y = sym (set-there w.sites t s st.site there) ∙ now in
              was-still y p at_s manager (pending-limits o opening (before ++ done) free s y p at_s here) (goes y p at_s here manager)

    moved-goes : (u : World) → is_loss e ≡ false → e ≢ RestartEvent m → is_full w ≡ false → u ≡ (run o (before ++ (done ++ (e ∷ [])))).world → Moved w e u → All u
    moved-goes u kept unrestarted free nexts same = same-goes
    moved-goes u kept unrestarted free nexts (drops k f h why) = dropped-goes k f h (why kept free)
    moved-goes u kept unrestarted free nexts (steps gone t x input found honest takes only restarts) =
        stepped-goes (run-fresh o (before ++ done)) gone t x input found takes only (λ here is. unrestarted (restarts is ∙ ap RestartEvent here)) free nexts

  pub next-goes : Keeps m e → is_full w ≡ false → RequestsGoOn o before done m s → RequestsGoOn o before (done ++ (e ∷ [])) m s
  next-goes kept free goes =
      subst (λ (r : Run). All r.world) (sym (run-more o before done e)) (moved-goes goes (next w e).world kept.0 kept.1 free (ap (λ (r : Run). r.world) (sym (run-more o before done e))) (moved w e))

-- the site's tick asks for all that is pending
module _ (o : Opening) (earlier : List Event) (m s : ℕ) where
  abbrev before : List Event
  before = earlier ++ (TickEvent s ∷ [])

  abbrev first : World
  first = (run o earlier).world

  abbrev Asked : World → Type 0
  Asked u = (x : Site) (p : Pending) → slice_get u.sites s ≡ Some x → Contains x.pending p → manager_of (sites_of o) p.page ≡ m → NoteGoes u p.page s m (Ask p.request p.kind)

  ticked : is_full first ≡ false → (found : Option Site) → slice_get first.sites s ≡ found → Asked (step_site found first s Tick).world
  ticked free None none = λ x p found here manager. absurd (some-none (slice_get first.sites s) x found none)
    where
      some-none : (found : Option Site) (y : Site) → found ≡ Some y → found ≡ None → ⊥
      some-none found y p q = cc
  ticked free (Some x) found =
      cond_both (is_full first) _ _ (λ (n : Next). Asked n.world) (λ full. let both : true ≡ false = sym full ∙ free in cc)
      (λ e. λ y p now here manager.
      let mine : y ≡ x = same-site (slice_get (slice_set first.sites s x) s) y x now (set-here first.sites s x x found) in
      joins first (run-fresh o earlier) first.gone s x Tick (λ j past only. only) (note_envelope s m p.page (Ask p.request p.kind))
      (subst (λ k. Contains (step first.count s x Tick).sent (note_envelope s k p.page (Ask p.request p.kind))) (ap (λ n. manager_of n p.page) (run-shape o earlier).count ∙ manager)
      (tick-asks first.count s x p (subst (λ (k : Site). Contains k.pending p) mine here))))

  pub tick-goes : is_full first ≡ false → RequestsGoOn o before [] m s
  tick-goes free =
      let asked : Asked (next first (TickEvent s)).world = ticked free (slice_get first.sites s) refl in
      let all : Asked (run o (before ++ [])).world = subst (λ (r : Run). Asked r.world) (sym (run-started o earlier (TickEvent s))) asked in
      λ x p found here manager. inl (all x p found here manager)

pub requests-go-on : (o : Opening) → IsOpening o → (m s : ℕ) (earlier later : List Event) → NothingLost later → NotRestarted m later → is_full (run o ((earlier ++ (TickEvent s ∷ [])) ++ later)).world ≡ false
    → RequestsGoOn o (earlier ++ (TickEvent s ∷ [])) later m s
requests-go-on o opening m s earlier later kept unrestarted free =
    along o (earlier ++ (TickEvent s ∷ [])) (Keeps m) (λ done. RequestsGoOn o (earlier ++ (TickEvent s ∷ [])) done m s)
    (λ done e k not_full goes. next-goes o opening (earlier ++ (TickEvent s ∷ [])) m s done e k not_full goes)
    [] later (both-kept m later kept unrestarted) free (tick-goes o earlier m s (free-first o earlier (TickEvent s) later free))

-- where nothing is on its way it was taken up or turned away
pub taken-at-rest : (o : Opening) (before since : List Event) (m s : ℕ) (x : Site) (p : Pending) → RequestsGoOn o before since m s → IsAtRest (run o (before ++ since)).world
    → slice_get (run o (before ++ since)).world.sites s ≡ Some x → Contains x.pending p → manager_of (sites_of o) p.page ≡ m
    → IsTakenUpAt (run o (before ++ since)).world m s p ⊎ (TookNone o before since m s p ⊎ IsPurgedSomewhere (run o (before ++ since)).world p.page.seg)
taken-at-rest o before since m s x p goes rest found here manager = by-way (goes x p found here manager)
  where
    nothing : (f : Envelope) → IsOnItsWay (run o (before ++ since)).world f → ⊥
    nothing f (k, h) = let none = rest k in cc

    by-way : RequestGoesOn o before since m s p → IsTakenUpAt (run o (before ++ since)).world m s p ⊎ (TookNone o before since m s p ⊎ IsPurgedSomewhere (run o (before ++ since)).world p.page.seg)
    by-way (inl asked) = absurd (nothing (note_envelope s m p.page (Ask p.request p.kind)) asked)
    by-way (inr other) = other
