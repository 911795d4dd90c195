-- What is pending is of a page in the limits.
use Rattle.std.proofs.Common.{◌≡◌, ◌≢◌, ℕ, ◌+◌, ◌*◌, ◌/◌, ◌<◌, ◌≤◌, ◌⊎◌, inl, inr, true, false, Some, List, [], ◌∷◌, map, slice_get, arith, sym, ◌∙◌, ap, subst, Contains}
use Rattle.std.specs.List.{range_with_len}
use Rattle.std.proofs.lemmas.Bool.{and_from, cases_eq, lt-ltb}
use Rattle.std.proofs.lemmas.Option.{slice_get_within}
use Rattle.std.proofs.lemmas.List.FromFn.{length-map-range_with_len}
use Rattle.shm_place.specs.Limits.{max_segment_bytes, segments_of_a_home}
use Rattle.shm_place.specs.Offset.{rounded}
use Rattle.shm_place.specs.Page.{in_limits}
use Rattle.shm_model.specs.declared.event.Event.{Event}
use Rattle.shm_model.specs.Calls.{Attachment}
use Rattle.shm_model.specs.Site.{Pending, Site}
use Rattle.shm_model.specs.Access.{place_in}
use Rattle.shm_model.specs.Step.{ask_again, step}
use Rattle.shm_model.specs.World.{Framed, IsOpening, New, Opening, Preset, Run, World, is_full, next, opened_site, run, sites_of, stepped}
use Rattle.shm_laws.proofs.Page.Orders.{Each}
use Rattle.shm_laws.proofs.Run.GoesOn.{slice_get-range}
use Rattle.shm_laws.proofs.Sound.{set-here, set-there}
use Rattle.shm_progress.proofs.OnTheWay.{Moved, same, drops, steps, moved}
use Rattle.shm_progress.proofs.Along.{along, run-more}
use Rattle.shm_progress.proofs.Request.Pending.{Placed, step-before}
use Rattle.shm_progress.proofs.Request.Sizes.{id-small, size-small}

some-same : (x y : Site) → Some x ≡ Some y → x ≡ y
some-same x y e = cc

place-limits : (n : ℕ) (t : Attachment) (offset : ℕ) → t.id < segments_of_a_home * n → t.size ≤ max_segment_bytes → offset < rounded t.size → in_limits n (place_in t offset).page ≡ true
place-limits n t offset id size low = and_from _ _ (lt-ltb t.id (segments_of_a_home * n) id) (lt-ltb (offset / 4096) 256 (few t.size offset size low))
  where
    few : (size offset : ℕ) → size ≤ 1048576 → offset < (size + 4095) / 4096 * 4096 → offset / 4096 < 256
    few size offset h low = omega arith

abbrev AllInLimits : Opening → World → Type 0
AllInLimits o w = (s : ℕ) (x : Site) (p : Pending) → slice_get w.sites s ≡ Some x → Contains x.pending p → in_limits (sites_of o) p.page ≡ true

module _ (o : Opening) (opening : IsOpening o) where
  opened-pending : (p : Opening) (s : ℕ) (q : Pending) → Contains (opened_site p s).pending q → ⊥
  opened-pending (New n) s q (k, l, e) = omega arith
  opened-pending (Preset n pages) s q (k, l, e) = omega arith
  opened-pending (Framed n pages frames) s q (k, l, e) = omega arith

  first-limits : AllInLimits o (run o []).world
  first-limits s x p found here =
      let within = slice_get_within (map (opened_site o) (range_with_len 0 (sites_of o))) s x found in
      let all = length-map-range_with_len (opened_site o) 0 (sites_of o) in
      let small : s < sites_of o = omega (arith, within, all) in
      let one : opened_site o s ≡ x = some-same (opened_site o s) x (sym (slice_get-range (opened_site o) (sites_of o) s small) ∙ found) in
      absurd (opened-pending o s p (subst (λ (y : Site). Contains y.pending p) (sym one) here))

  module _ (done : List Event) (e : Event) (all : AllInLimits o (run o done).world) where
    abbrev w : World
    w = (run o done).world

    moved-limits : (u : World) → Moved w e u → AllInLimits o u
    moved-limits u same = all
    moved-limits u (drops k f h why) = all
    moved-limits u (steps gone t x input found honest takes only restarts) = λ s y p now here. by-site s y p now here (cases_eq s t)
      where
        placed-limits : (p : Pending) → Placed x p.page → in_limits (sites_of o) p.page ≡ true
        placed-limits p g =
            subst (λ q. in_limits (sites_of o) q ≡ true) g.page_is
            (place-limits (sites_of o) g.through g.offset (id-small o opening done t x found g.number g.through g.is) (size-small o opening done t x found g.number g.through g.is) g.low)

        by-before : (p : Pending) → Contains x.pending p ⊎ (Contains (step w.count t x input).sent (ask_again w.count t p) × Placed x p.page) → in_limits (sites_of o) p.page ≡ true
        by-before p (inl was) = all t x p found was
        by-before p (inr now) = placed-limits p now.1

        by-site : (s : ℕ) (y : Site) (p : Pending) → slice_get (stepped (record w { gone = gone }) t input (step w.count t x input)).world.sites s ≡ Some y → Contains y.pending p → (s ≡ t) ⊎ (s ≢ t)
            → in_limits (sites_of o) p.page ≡ true
        by-site s y p now here (inl it) =
            let mine : (step w.count t x input).site ≡ y = some-same (step w.count t x input).site y
            (sym (set-here w.sites t x (step w.count t x input).site found) ∙ (ap (slice_get (stepped (record w { gone = gone }) t input (step w.count t x input)).world.sites) (sym it) ∙ now)) in
            by-before p (step-before w.count t x p input (subst (λ (k : Site). Contains k.pending p) (sym mine) here))
        by-site s y p now here (inr there) = all s y p (sym (set-there w.sites t s (step w.count t x input).site there) ∙ now) here

  anything : (events : List Event) → Each (λ e. Unit {0}) events
  anything [] = tt
  anything (e ∷ es) = (tt, anything es)

  pub pending-limits : (events : List Event) → is_full (run o events).world ≡ false → AllInLimits o (run o events).world
  pending-limits events free =
      along o [] (λ e. Unit {0}) (λ done. AllInLimits o (run o done).world)
      (λ done e k not_full all. subst (λ (r : Run). AllInLimits o r.world) (sym (run-more o [] done e)) (moved-limits done e all (next (run o done).world e).world (moved (run o done).world e)))
      [] events (anything events) free first-limits
