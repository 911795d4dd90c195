-- How many envelopes the sites send that tick one after another.
use Rattle.std.proofs.Common.{◌≡◌, ℕ, ◌+◌, ◌≤◌, true, false, Option, Some, None, List, [], ◌∷◌, length, map, slice_get, sum_by, arith, refl, sym, ◌∙◌, ap}
use Rattle.std.proofs.lemmas.Bool.{cond_both}
use Rattle.std.proofs.lemmas.List.{length-append}
use Rattle.std.proofs.lemmas.List.Sums.{sum_by-cons}
use Rattle.shm_model.specs.declared.event.Event.TheVariants.{Tick as TickEvent}
use Rattle.shm_model.specs.Message.{Tick}
use Rattle.shm_model.specs.Site.{Site}
use Rattle.shm_model.specs.Step.{tick_envelopes}
use Rattle.shm_model.specs.World.{Next, Run, World, extended, is_full, next, run_on, step_site}
use Rattle.shm_world.proofs.Steps.{set_same}
use Rattle.shm_progress.specs.Bounds.{asked_at}

-- of these sites, so many
abbrev pub asked : ℕ → List Site → ℕ → ℕ
asked sites xs s = asked_at sites s (slice_get xs s)

-- a tick changes no site
record Ticked (w : World) (s : ℕ) (u : World) : Type 0 where
  pub count : u.count ≡ w.count
  pub sites : u.sites ≡ w.sites
  pub sent : length u.sent ≤ length w.sent + asked w.count w.sites s

ticked-at : (w : World) (s : ℕ) (found : Option Site) → slice_get w.sites s ≡ found → Ticked w s (step_site found w s Tick).world
ticked-at w s None here = record { count = refl; sites = refl; sent = omega arith }
ticked-at w s (Some x) here =
    cond_both (is_full w) _ _ (λ (n : Next). Ticked w s n.world) (λ full. record { count = refl; sites = refl; sent = omega arith })
    (λ free. record {
      count = refl;
      sites = set_same w.sites s x here;
      sent = let longer = length-append w.sent (tick_envelopes w.count s x) in
          let same : asked w.count w.sites s ≡ length (tick_envelopes w.count s x) = ap (asked_at w.count s) here in
          omega (arith, longer, same);
    })

ticked : (w : World) (s : ℕ) → Ticked w s (next w (TickEvent s)).world
ticked w s = ticked-at w s (slice_get w.sites s) refl

pub ticks-few : (r : Run) (ss : List ℕ) → length (run_on r (map TickEvent ss)).world.sent ≤ length r.world.sent + sum_by (asked r.world.count r.world.sites) ss
ticks-few r [] = omega arith
ticks-few r (s ∷ ss) =
    let u : World = (next r.world (TickEvent s)).world in
    let first = ticked r.world s in
    let rest = ticks-few (extended r (next r.world (TickEvent s))) ss in
    let same : sum_by (asked u.count u.sites) ss ≡ sum_by (asked r.world.count r.world.sites) ss =
    ap (λ n. sum_by (asked n u.sites) ss) first.count ∙ ap (λ xs. sum_by (asked r.world.count xs) ss) first.sites in
    let all = sum_by-cons (asked r.world.count r.world.sites) s ss in
    let sent = first.sent in
    omega (arith, sent, rest, same, all)

-- in a full world no tick sends any
still-at : (w : World) (s : ℕ) (found : Option Site) → is_full w ≡ true → (step_site found w s Tick).world ≡ w
still-at w s None full = refl
still-at w s (Some x) full = cond_both (is_full w) _ _ (λ (n : Next). n.world ≡ w) (λ e. refl) (λ free. let both : true ≡ false = sym full ∙ free in cc)

pub ticks-none : (r : Run) (ss : List ℕ) → is_full r.world ≡ true → length (run_on r (map TickEvent ss)).world.sent ≤ length r.world.sent
ticks-none r [] full = omega arith
ticks-none r (s ∷ ss) full =
    let still : (next r.world (TickEvent s)).world ≡ r.world = still-at r.world s (slice_get r.world.sites s) full in
    let rest = ticks-none (extended r (next r.world (TickEvent s))) ss (ap is_full still ∙ full) in
    let same : length (next r.world (TickEvent s)).world.sent ≡ length r.world.sent = ap (λ (w : World). length w.sent) still in
    omega (arith, rest, same)
