-- A purge goes on until it is answered, whatever else happens, as long as nothing is lost.
use Rattle.std.proofs.Common.{◌≡◌, ◌≢◌, ℕ, ◌⊎◌, inl, inr, Bool, true, false, List, ◌∷◌, ◌++◌, Option, Some, None, length, slice_get, slice_set, refl, sym, ◌∙◌, ap, subst, Contains}
use Rattle.std.proofs.lemmas.Bool.{cases_eq, cond_both, false_from_ne_true}
use Rattle.shm_model.specs.declared.event.Event.{Event}
use Rattle.shm_model.specs.declared.event.Event.TheVariants.{Tick as TickEvent}
use Rattle.shm_model.specs.Message.{Envelope, Input, Deliver, Tick}
use Rattle.shm_model.specs.SegmentCalls.{purge_envelope}
use Rattle.shm_model.specs.Site.{Site, Step}
use Rattle.shm_model.specs.Step.{deliver, step}
use Rattle.shm_model.specs.World.{IsOpening, Next, Opening, World, is_full, live, next, run, step_site, stepped, without}
use Rattle.shm_laws.proofs.Run.Induction.{run-shape}
use Rattle.shm_laws.proofs.Sound.{set-here, set-there}
use Rattle.shm_laws.proofs.Call.Turn.{desk_of}
use Rattle.shm_laws.proofs.Call.Turns.{turn-step}
use Rattle.shm_progress.specs.Deliveries.{IsAtRest}
use Rattle.shm_progress.specs.OnTheWay.{IsOnItsWay, NothingLost, is_loss}
use Rattle.shm_progress.specs.Purging.{IsBeingPurged, PurgesGoOn, purged_envelope}
use Rattle.shm_progress.proofs.Along.{each-kept, since}
use Rattle.shm_progress.proofs.OnTheWay.{Fresh, Moved, same, drops, steps, OnlySent, Takes, joins, moved, others-stay, run-fresh, stays}
use Rattle.shm_progress.proofs.Purge.Answers.{missing-before, purge-answered, purged-heard, tick-purges}
use Rattle.shm_progress.proofs.Purge.Dead.{Known, known}

same-site : (found : Option Site) (x y : Site) → found ≡ Some x → found ≡ Some y → x ≡ y
same-site found x y p q = cc

-- an event leaves what a purge rests on
module _ (w : World) (all : length w.sites ≡ w.count) (home : ℕ) (known-here : (x : Site) (id t : ℕ) → slice_get w.sites home ≡ Some x → x.missing id t ≡ true → Known w home x id t)
    (goes : PurgesGoOn w home) where
  -- one envelope goes that was for no site
  module _ (k : ℕ) (e : Envelope) (gone : live w k ≡ Some e) (nowhere : slice_get w.sites e.to ≡ None) where
    dropped-goes : PurgesGoOn (without w k) home
    dropped-goes x id t found missing = by-way (goes x id t found missing)
      where
        by-way : IsBeingPurged w home id t → IsBeingPurged (without w k) home id t
        by-way (inl asked) = inl (others-stay w all k e gone nowhere (purge_envelope home id t) x (known-here x id t found missing).site_is asked)
        by-way (inr answer) = inr (others-stay w all k e gone nowhere (purged_envelope t id home) x (known-here x id t found missing).home_is answer)

  -- a site steps
  module _ (fresh : Fresh w) (gone : ℕ → Bool) (s : ℕ) (x : Site) (input : Input) (found : slice_get w.sites s ≡ Some x) (takes : Takes w gone s input) (only : OnlySent w gone) where
    abbrev st : Step
    st = step w.count s x input

    abbrev u : World
    u = (stepped (record w { gone = gone }) s input st).world

    -- a Purge that is handed over is answered
    asked-on : (y : Site) (id t : ℕ) → slice_get w.sites home ≡ Some y → y.missing id t ≡ true → IsOnItsWay w (purge_envelope home id t) → IsBeingPurged u home id t
    asked-on y id t at_home missing (j, h) = by-gone (takes j (purge_envelope home id t) h)
      where
        k : Known w home y id t
        k = known-here y id t at_home missing

        by-gone : (gone j ≡ false) ⊎ ((input ≡ Deliver (purge_envelope home id t)) × (t ≡ s)) → IsBeingPurged u home id t
        by-gone (inl free) = inl (stays w fresh gone s x input only j (purge_envelope home id t) h free)
        by-gone (inr handed) =
            inr (joins w fresh gone s x input only (purged_envelope t id home)
            (subst (λ i. Contains (step w.count s x i).sent (purged_envelope t id home)) (sym handed.0)
            (subst (λ v. Contains (deliver w.count s (purge_envelope home id v) x).sent (purged_envelope v id home)) (sym handed.1)
            (purge-answered w.count home id k.limits k.at_home s x k.home_is (k.unnamed s x found)))))

    -- a Purged that is handed over leaves nothing missing
    answer-on : (y z : Site) (id t : ℕ) → slice_get w.sites home ≡ Some y → y.missing id t ≡ true → slice_get u.sites home ≡ Some z → z.missing id t ≡ true
        → IsOnItsWay w (purged_envelope t id home) → IsBeingPurged u home id t
    answer-on y z id t at_home missing now still (j, h) = by-gone (takes j (purged_envelope t id home) h)
      where
        k : Known w home y id t
        k = known-here y id t at_home missing

        heard : input ≡ Deliver (purged_envelope t id home) → home ≡ s → ⊥
        heard handed here =
            let mine : x ≡ y = same-site (slice_get w.sites s) x y found (ap (slice_get w.sites) (sym here) ∙ at_home) in
            let now_st : st.site ≡ z = same-site (slice_get u.sites s) st.site z (set-here w.sites s x st.site found) (ap (slice_get u.sites) (sym here) ∙ now) in
            let over : (deliver w.count home (purged_envelope t id home) x).site.missing id t ≡ false =
            purged-heard w.count home id k.limits k.at_home t x k.site_is (ap (λ (v : Site). v.missing id t) mine ∙ missing) in
            let step_is : st.site ≡ (deliver w.count home (purged_envelope t id home) x).site =
            ap (λ i. (step w.count s x i).site) handed ∙ ap (λ v. (deliver w.count v (purged_envelope t id home) x).site) (sym here) in
            let both : true ≡ false = sym still ∙ (ap (λ (v : Site). v.missing id t) (sym now_st ∙ step_is) ∙ over) in
            cc

        by-gone : (gone j ≡ false) ⊎ ((input ≡ Deliver (purged_envelope t id home)) × (home ≡ s)) → IsBeingPurged u home id t
        by-gone (inl free) = inr (stays w fresh gone s x input only j (purged_envelope t id home) h free)
        by-gone (inr handed) = absurd (heard handed.0 handed.1)

    was-on : (y z : Site) (id t : ℕ) → slice_get w.sites home ≡ Some y → y.missing id t ≡ true → slice_get u.sites home ≡ Some z → z.missing id t ≡ true → IsBeingPurged u home id t
    was-on y z id t at_home missing now still = elim (goes y id t at_home missing) [
      | inl asked ↦ asked-on y id t at_home missing asked
      | inr answer ↦ answer-on y z id t at_home missing now still answer
    ]

    stepped-goes : PurgesGoOn u home
    stepped-goes z id t now still = by-site (cases_eq home s)
      where
        new-here : home ≡ s → (x.missing id t ≡ true) ⊎ Contains st.sent (purge_envelope s id t) → IsBeingPurged u home id t
        new-here here (inl was) = was-on x z id t (ap (slice_get w.sites) here ∙ found) was now still
        new-here here (inr asked) = inl (joins w fresh gone s x input only (purge_envelope home id t) (subst (λ v. Contains st.sent (purge_envelope v id t)) (sym here) asked))

        by-site : (home ≡ s) ⊎ (home ≢ s) → IsBeingPurged u home id t
        by-site (inl here) =
            let now_st : z ≡ st.site = same-site (slice_get u.sites s) z st.site (ap (slice_get u.sites) (sym here) ∙ now) (set-here w.sites s x st.site found) in
            new-here here (missing-before w.count s (desk_of x) input (desk_of st.site) st.answer st.sent id t (turn-step w.count s x input) (ap (λ (v : Site). v.missing id t) (sym now_st) ∙ still))
        by-site (inr there) = was-on z z id t (sym (set-there w.sites s home st.site there) ∙ now) still now still

  moved-goes : (v : Event) (u : World) → Fresh w → is_loss v ≡ false → is_full w ≡ false → Moved w v u → PurgesGoOn u home
  moved-goes v u fresh kept free same = goes
  moved-goes v u fresh kept free (drops k e h why) = dropped-goes k e h (why kept free)
  moved-goes v u fresh kept free (steps gone s x input found honest takes only restarts) = stepped-goes fresh gone s x input found takes only

-- the home's tick asks all who are missing
tick-goes : (w : World) (fresh : Fresh w) (home : ℕ) (known-here : (x : Site) (id t : ℕ) → slice_get w.sites home ≡ Some x → x.missing id t ≡ true → Known w home x id t)
    → is_full w ≡ false → (found : Option Site) → slice_get w.sites home ≡ found → PurgesGoOn (step_site found w home Tick).world home
tick-goes w fresh home known-here free None none = λ x id t found missing. absurd (some-none (slice_get w.sites home) x found none)
  where
    some-none : (found : Option Site) (y : Site) → found ≡ Some y → found ≡ None → ⊥
    some-none found y p q = cc
tick-goes w fresh home known-here free (Some x) found =
    cond_both (is_full w) _ _ (λ (n : Next). PurgesGoOn n.world home) (λ full. let both : true ≡ false = sym full ∙ free in cc)
    (λ e. λ z id t now missing.
    let mine : z ≡ x = same-site (slice_get (slice_set w.sites home x) home) z x now (set-here w.sites home x x found) in
    let was : x.missing id t ≡ true = ap (λ (v : Site). v.missing id t) (sym mine) ∙ missing in
    let k = known-here x id t found was in
    inl (joins w fresh w.gone home x Tick (λ j past only. only) (purge_envelope home id t) (tick-purges w.count home id t x k.segment k.found k.site_is was)))

pub purges-go-on : (o : Opening) → IsOpening o → (home : ℕ) (earlier later : List Event) → NothingLost later → is_full (run o (earlier ++ (TickEvent home ∷ later))).world ≡ false
    → PurgesGoOn (run o (earlier ++ (TickEvent home ∷ later))).world home
purges-go-on o opening home earlier later kept free =
    since o (λ e. is_loss e ≡ false) (λ w. PurgesGoOn w home)
    (λ es e k not_full goes. let shape = run-shape o es in
    moved-goes (run o es).world (shape.sites ∙ sym shape.count) home (known o opening es home) goes e (next (run o es).world e).world (run-fresh o es) k not_full (moved (run o es).world e))
    (TickEvent home) (λ es not_full. tick-goes (run o es).world (run-fresh o es) home (known o opening es home) not_full (slice_get (run o es).world.sites home) refl)
    earlier later (each-kept later kept) free

-- where nothing is on its way nobody is missing
pub purged-at-rest : (w : World) (home : ℕ) (x : Site) (id t : ℕ) → PurgesGoOn w home → IsAtRest w → slice_get w.sites home ≡ Some x → x.missing id t ≡ false
purged-at-rest w home x id t goes rest found = false_from_ne_true _ (λ missing. by-way (goes x id t found missing))
  where
    nothing : (f : Envelope) → IsOnItsWay w f → ⊥
    nothing f (k, h) = let none = rest k in cc

    by-way : IsBeingPurged w home id t → ⊥
    by-way (inl asked) = nothing _ asked
    by-way (inr answer) = nothing _ answer
