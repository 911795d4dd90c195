-- What holds of each site at the opening, and is kept by its steps, holds in every run.
use Rattle.std.proofs.Common.{◌≡◌, ◌≢◌, ℕ, ◌<◌, ◌⊎◌, inl, inr, Some, List, map, slice_get, slice_set, arith, sym, ◌∙◌, subst}
use Rattle.std.specs.List.{range_with_len}
use Rattle.std.proofs.lemmas.Bool.{cases_eq}
use Rattle.std.proofs.lemmas.Option.{slice_get_within}
use Rattle.std.proofs.lemmas.List.FromFn.{length-map-range_with_len}
use Rattle.shm_model.specs.declared.event.Event.{Event}
use Rattle.shm_model.specs.Message.{Input}
use Rattle.shm_model.specs.Site.{Site}
use Rattle.shm_model.specs.Step.{step}
use Rattle.shm_model.specs.World.{Opening, World, begun, opened_site, run, sites_of}
use Rattle.shm_laws.proofs.Run.Induction.{Kept, run-good}
use Rattle.shm_laws.proofs.Run.GoesOn.{slice_get-range}
use Rattle.shm_laws.proofs.Sound.{set-here, set-there}

some-same : (x y : Site) → Some x ≡ Some y → x ≡ y
some-same x y e = cc

module _ (o : Opening) (P : ℕ → Site → Type 0) (opened : (t : ℕ) → t < sites_of o → P t (opened_site o t))
    (steps : (s : ℕ) (x : Site) (input : Input) → s < sites_of o → P s x → P s (step (sites_of o) s x input).site) where
  record All (w : World) : Type 0 where
    pub each : (t : ℕ) (y : Site) → slice_get w.sites t ≡ Some y → P t y

  first-all : All (begun o).world
  first-all = record {
    each = λ t y found. let within = slice_get_within (map (opened_site o) (range_with_len 0 (sites_of o))) t y found in
        let all = length-map-range_with_len (opened_site o) 0 (sites_of o) in
        let small : t < sites_of o = omega (arith, within, all) in
        subst (P t) (some-same (opened_site o t) y (sym (slice_get-range (opened_site o) (sites_of o) t small) ∙ found)) (opened t small);
  }

  after : (w : World) (s : ℕ) (x : Site) (input : Input) → All w → s < sites_of o → slice_get w.sites s ≡ Some x → (t : ℕ) (y : Site) → (t ≡ s) ⊎ (t ≢ s)
      → slice_get (slice_set w.sites s (step (sites_of o) s x input).site) t ≡ Some y → P t y
  after w s x input all small found t y (inl here) at =
      let same = some-same (step (sites_of o) s x input).site y
      (sym (set-here w.sites s x (step (sites_of o) s x input).site found) ∙ subst (λ u. slice_get (slice_set w.sites s (step (sites_of o) s x input).site) u ≡ Some y) here at) in
      subst (λ u. P u y) (sym here) (subst (P s) same (steps s x input small (all.each s x found)))
  after w s x input all small found t y (inr there) at = all.each t y (sym (set-there w.sites s t (step (sites_of o) s x input).site there) ∙ at)

  kept : Kept o (λ r. All r.world)
  kept = record {
    first = first-all;
    steps = λ r gone s x input all shape small found honest. record { each = λ t y at. after r.world s x input all small found t y (cases_eq t s) at };
    stays = λ r gone s answer all shape still. record { each = all.each };
  }

  pub run-sites : (events : List Event) (s : ℕ) (x : Site) → slice_get (run o events).world.sites s ≡ Some x → P s x
  run-sites events = (run-good o (λ r. All r.world) kept events).holds.each
