-- A request that was pending and isn't any more has gained its right, unless the segment was purged.
use Rattle.std.proofs.Common.{◌≡◌, ◌≢◌, ℕ, ◌⊎◌, inl, inr, true, false, ◌||◌, ◌&&◌, not, Some, List, [], ◌∷◌, ◌++◌, append_assoc, append-nil, slice_get, refl, sym, ◌∙◌, ap, subst, Contains}
use Rattle.std.proofs.lemmas.Bool.{cases_eq}
use Rattle.shm_model.specs.declared.event.Event.{Event}
use Rattle.shm_model.specs.declared.event.Event.TheVariants.{Restart as RestartEvent}
use Rattle.shm_model.specs.declared.request_kind.Kind.{Kind}
use Rattle.shm_model.specs.declared.request_kind.Kind.TheVariants.{Read, Write}
use Rattle.shm_model.specs.Book.{is_write}
use Rattle.shm_model.specs.Entry.{Entry, Nil, Copy, OwnRead, OwnWrite, Handed, readable, writable}
use Rattle.shm_model.specs.Site.{Pending, Site}
use Rattle.shm_model.specs.Step.{step}
use Rattle.shm_model.specs.Transfer.{is_settled}
use Rattle.shm_model.specs.World.{IsOpening, Opening, Run, World, is_full, next, run, sites_of, stepped}
use Rattle.shm_laws.proofs.Page.Orders.{Each}
use Rattle.shm_laws.proofs.Sound.{set-here, set-there}
use Rattle.shm_progress.specs.OnTheWay.{NothingLost}
use Rattle.shm_progress.specs.Deliveries.{IsAtRest}
use Rattle.shm_progress.specs.Rounds.{AllTick, FaultsServed, GainsRight, HasPurged, NoneAccesses, NoneRestarted, NonePending, has_right}
use Rattle.shm_progress.specs.Transactions.{NotRestarted}
use Rattle.shm_progress.proofs.Along.{along, run-more}
use Rattle.shm_progress.proofs.OnTheWay.{Moved, same, drops, steps, moved}
use Rattle.shm_progress.proofs.Request.Again.{second-settles}
use Rattle.shm_progress.proofs.Request.Granted.{step-goes}
use Rattle.shm_progress.proofs.Request.Limit.{run-limit}
use Rattle.shm_progress.proofs.Request.Once.{none-in}
use Rattle.shm_progress.proofs.Transfer.Steps.{step-gone}

same-site : (x y : Site) → Some x ≡ Some y → x ≡ y
same-site x y e = cc

-- what settles a request, or a store's that took its place, is its right
settled-right : (kind : Kind) (q : Pending) (e : Entry) → (q.kind ≡ kind) ⊎ (q.kind ≡ Write) → is_settled (readable e) (writable e) q ≡ true → has_right kind e ≡ true
settled-right kind q e way settled = by-kinds kind q.kind e way settled
  where
    by-kinds : (kind k : Kind) (e : Entry) → (k ≡ kind) ⊎ (k ≡ Write) → (writable e || (readable e && not (is_write k))) ≡ true → has_right kind e ≡ true
    by-kinds Read k (Nil n) way h = cc
    by-kinds Read k (Copy n b) way h = refl
    by-kinds Read k (OwnRead n b) way h = refl
    by-kinds Read k (OwnWrite n b) way h = refl
    by-kinds Read k (Handed n to b) way h = cc
    by-kinds Write k (OwnWrite n b) way h = refl
    by-kinds Write k (Nil n) way h = cc
    by-kinds Write k (Handed n to b) way h = cc
    by-kinds Write Write (Copy n b) way h = cc
    by-kinds Write Write (OwnRead n b) way h = cc
    by-kinds Write Read (Copy n b) (inl x) h = cc
    by-kinds Write Read (Copy n b) (inr x) h = cc
    by-kinds Write Read (OwnRead n b) (inl x) h = cc
    by-kinds Write Read (OwnRead n b) (inr x) h = cc

module _ (o : Opening) (opening : IsOpening o) (before : List Event) (s : ℕ) (p : Pending) where
  -- it is pending, or a store's of the page that took its place
  abbrev Asks : World → Type 0
  Asks w = (x : Site) × (slice_get w.sites s ≡ Some x) × ((q : Pending) × Contains x.pending q × (q.page ≡ p.page) × ((q.kind ≡ p.kind) ⊎ (q.kind ≡ Write)))

  abbrev Fares : List Event → World → Type 0
  Fares done w = Asks w ⊎ (GainsRight o before done s p ⊎ HasPurged w s p.page.seg)

  longer : (done : List Event) (e : Event) → GainsRight o before done s p → GainsRight o before (done ++ (e ∷ [])) s p
  longer done e g = record { front = g.front; back = g.back ++ (e ∷ []); is = ap (λ es. es ++ (e ∷ [])) g.is ∙ append_assoc g.front g.back (e ∷ []); site = g.site; found = g.found; right = g.right }

  module _ (done : List Event) (e : Event) (unrestarted : e ≢ RestartEvent s) (fares : Fares done (run o (before ++ done)).world) where
    abbrev w : World
    w = (run o (before ++ done)).world

    now : List Event
    now = done ++ (e ∷ [])

    -- u is the world after the event
    module _ (u : World) (after : (run o (before ++ (done ++ (e ∷ [])))).world ≡ u) where
      gains-now : (x : Site) → slice_get u.sites s ≡ Some x → has_right p.kind (x.entries p.page) ≡ true → Fares (done ++ (e ∷ [])) u
      gains-now x at h = inr (inl (record { front = done ++ (e ∷ []); back = []; is = sym (append-nil (done ++ (e ∷ []))); site = x; found = ap (λ (k : World). slice_get k.sites s) after ∙ at; right = h }))

      gains-before : (x : Site) → slice_get w.sites s ≡ Some x → has_right p.kind (x.entries p.page) ≡ true → Fares (done ++ (e ∷ [])) u
      gains-before x at h = inr (inl (record { front = done; back = e ∷ []; is = refl; site = x; found = at; right = h }))

      -- the site is way it was
      kept-fares : ((x : Site) → slice_get w.sites s ≡ Some x → slice_get u.sites s ≡ Some x) → Fares (done ++ (e ∷ [])) u
      kept-fares stays = by-way fares
        where
          by-way : Fares done w → Fares (done ++ (e ∷ [])) u
          by-way (inl (x, at, asks)) = inl (x, stays x at, asks)
          by-way (inr (inl gained)) = inr (inl (longer done e gained))
          by-way (inr (inr (x, at, gone))) = inr (inr (x, stays x at, gone))

    moved-fares : (u : World) → Moved w e u → (run o (before ++ (done ++ (e ∷ [])))).world ≡ u → Fares (done ++ (e ∷ [])) u
    moved-fares u same after = kept-fares w after (λ x at. at)
    moved-fares u (drops k f h why) after = kept-fares _ after (λ x at. at)
    moved-fares u (steps gone t z input found honest takes only restarts) after = by-site (cases_eq s t)
      where
        here_now : s ≡ t → slice_get (stepped (record w { gone = gone }) t input (step w.count t z input)).world.sites s ≡ Some (step w.count t z input).site
        here_now it = ap (slice_get (stepped (record w { gone = gone }) t input (step w.count t z input)).world.sites) it ∙ set-here w.sites t z (step w.count t z input).site found

        mine : s ≡ t → (x : Site) → slice_get w.sites s ≡ Some x → x ≡ z
        mine it x at = same-site x z (sym at ∙ (ap (slice_get w.sites) it ∙ found))

        own : s ≡ t → Fares done w → Fares (done ++ (e ∷ [])) (stepped (record w { gone = gone }) t input (step w.count t z input)).world
        own it (inr (inl gained)) = inr (inl (longer done e gained))
        own it (inr (inr (x, at, purged))) = inr (inr ((step w.count t z input).site, here_now it, step-gone w.count t z p.page.seg (subst (λ (k : Site). k.purged p.page.seg ≡ true) (mine it x at) purged) input))
        own it (inl (x, at, (q, there, page, kind))) =
            by-goes (step-goes w.count t z (run-limit o opening (before ++ done) t z found) q (subst (λ (k : Site). Contains k.pending q) (mine it x at) there) input (λ is. unrestarted (restarts is ∙ ap RestartEvent (sym it))))
          where
            follows : (k : Kind) → (k ≡ q.kind) ⊎ (k ≡ Write) → (q.kind ≡ p.kind) ⊎ (q.kind ≡ Write) → (k ≡ p.kind) ⊎ (k ≡ Write)
            follows k (inr a) b = inr a
            follows k (inl a) (inl b) = inl (a ∙ b)
            follows k (inl a) (inr b) = inr (a ∙ b)

            by-goes : ((r : Pending) × Contains (step w.count t z input).site.pending r × (r.page ≡ q.page) × ((r.kind ≡ q.kind) ⊎ (r.kind ≡ Write)))
                ⊎ ((is_settled (readable ((step w.count t z input).site.entries q.page)) (writable ((step w.count t z input).site.entries q.page)) q ≡ true)
                ⊎ ((is_settled (readable (z.entries q.page)) (writable (z.entries q.page)) q ≡ true) ⊎ ((step w.count t z input).site.purged q.page.seg ≡ true)))
                → Fares (done ++ (e ∷ [])) (stepped (record w { gone = gone }) t input (step w.count t z input)).world
            by-goes (inl (r, k, same_page, way)) = inl ((step w.count t z input).site, here_now it, (r, k, same_page ∙ page, follows r.kind way kind))
            by-goes (inr (inl settled)) =
                gains-now _ after (step w.count t z input).site (here_now it)
                (subst (λ k. has_right p.kind ((step w.count t z input).site.entries k) ≡ true) page (settled-right p.kind q ((step w.count t z input).site.entries q.page) kind settled))
            by-goes (inr (inr (inl settled))) =
                gains-before _ after z (ap (slice_get w.sites) it ∙ found) (subst (λ k. has_right p.kind (z.entries k) ≡ true) page (settled-right p.kind q (z.entries q.page) kind settled))
            by-goes (inr (inr (inr purged))) = inr (inr ((step w.count t z input).site, here_now it, subst (λ k. (step w.count t z input).site.purged k.seg ≡ true) page purged))

        by-site : (s ≡ t) ⊎ (s ≢ t) → Fares (done ++ (e ∷ [])) (stepped (record w { gone = gone }) t input (step w.count t z input)).world
        by-site (inl it) = own it fares
        by-site (inr other) = kept-fares _ after (λ x at. set-there w.sites t s (step w.count t z input).site other ∙ at)

    more-fares : Fares (done ++ (e ∷ [])) (run o (before ++ (done ++ (e ∷ [])))).world
    more-fares =
        let is : (run o (before ++ (done ++ (e ∷ [])))).world ≡ (next w e).world = ap (λ (r : Run). r.world) (run-more o before done e) in
        subst (Fares (done ++ (e ∷ []))) (sym is) (moved-fares (next w e).world (moved w e) is)

  each-unrestarted : (events : List Event) → NotRestarted s events → Each (λ e. e ≢ RestartEvent s) events
  each-unrestarted [] h = tt
  each-unrestarted (e ∷ es) h = (h.0, each-unrestarted es h.1)

  pub fares-along : (since : List Event) → NotRestarted s since → is_full (run o (before ++ since)).world ≡ false → Asks (run o before).world → Fares since (run o (before ++ since)).world
  fares-along since unrestarted free asks =
      along o before (λ e. e ≢ RestartEvent s) (λ done. Fares done (run o (before ++ done)).world) (λ done e go not_full fares. more-fares done e go fares)
      [] since (each-unrestarted since unrestarted) free (inl (subst (λ es. Asks (run o es).world) (sym (append-nil before)) asks))

both-unrestarted : (s : ℕ) (first second : List Event) → NotRestarted s first → NotRestarted s second → NotRestarted s (first ++ second)
both-unrestarted s [] second a b = b
both-unrestarted s (e ∷ es) second a b = (a.0, both-unrestarted s es second a.1 b)

pub faults-served : (o : Opening) → IsOpening o → (earlier first second : List Event) → NothingLost first → NoneRestarted first → AllTick (sites_of o) first → IsAtRest (run o (earlier ++ first)).world
    → NothingLost second → NoneRestarted second → NoneAccesses second → AllTick (sites_of o) second → is_full (run o ((earlier ++ first) ++ second)).world ≡ false → IsAtRest (run o ((earlier ++ first) ++ second)).world
    → FaultsServed o earlier (first ++ second)
faults-served o opening earlier first second kept unrestarted ticks rest kept_on unrestarted_on none ticks_on free rest_on s x p at here =
    by-way (fares-along o opening earlier s p (first ++ second) (both-unrestarted s first second (unrestarted s) (unrestarted_on s))
    (subst (λ es. is_full (run o es).world ≡ false) (append_assoc earlier first second) free) (x, at, (p, here, refl, inl refl)))
  where
    empty : NonePending (run o ((earlier ++ first) ++ second)).world
    empty = second-settles o opening earlier first second kept unrestarted ticks rest kept_on unrestarted_on none ticks_on free rest_on

    nothing : (y : Site) → slice_get (run o (earlier ++ (first ++ second))).world.sites s ≡ Some y → (q : Pending) → Contains y.pending q → ⊥
    nothing y found q there =
        none-in q (subst (λ l. Contains l q) (empty s y (ap (λ es. slice_get (run o es).world.sites s) (append_assoc earlier first second) ∙ found)) there)

    by-way : Fares o opening earlier s p (first ++ second) (run o (earlier ++ (first ++ second))).world → GainsRight o earlier (first ++ second) s p ⊎ HasPurged (run o (earlier ++ (first ++ second))).world s p.page.seg
    by-way (inl (y, found, (q, there, page, kind))) = absurd (nothing y found q there)
    by-way (inr served) = served
