-- Single sites as those of a world.
use Rattle.std.proofs.Common.{◌≡◌, ◌≢◌, ℕ, zero, suc, ◌<◌, false, if◌then◌else◌, Some, List, [], ◌∷◌, map, slice_get, slice_set, refl, sym, ap, ◌∙◌, arith}
use Rattle.std.specs.List.{range_with_len}
use Rattle.std.proofs.lemmas.List.FromFn.{get_or-map-range_with_len, length-map-range_with_len}
use Rattle.std.proofs.lemmas.Option.{slice_get-get_or}
use Rattle.shm_model.specs.declared.answer.Answer.TheVariants.{Refused}
use Rattle.shm_model.specs.declared.event.Event.TheVariants as event
use Rattle.shm_model.specs.Message.{Envelope, Input, Deliver}
use Rattle.shm_model.specs.Refusal.{numbers_used_up}
use Rattle.shm_model.specs.Step.{step}
use Rattle.shm_model.specs.World.{Opening, World, hand_over, is_full, live, next, opened, opened_site, sites_of, step_at, step_site, stepped, unstepped}
use Rattle.shm_c.specs.Seat.{Seat, begun_seat}
use Rattle.shm_c.specs.SiteOf.{IsSiteOf}
use Rattle.shm_c.specs.SiteSteps.{seat_after, step_of}

set-here : {X : Type 0} (xs : List X) (i : ℕ) (x y : X) → slice_get xs i ≡ Some x → slice_get (slice_set xs i y) i ≡ Some y
set-here [] i x y h = cc
set-here (z ∷ xs) zero x y h = refl
set-here (z ∷ xs) (suc i) x y h = set-here xs i x y h

set-there : {X : Type 0} (xs : List X) (i j : ℕ) (y : X) → j ≢ i → slice_get (slice_set xs i y) j ≡ slice_get xs j
set-there [] i j y h = refl
set-there (z ∷ xs) zero zero y h = absurd (h refl)
set-there (z ∷ xs) zero (suc j) y h = refl
set-there (z ∷ xs) (suc i) zero y h = refl
set-there (z ∷ xs) (suc i) (suc j) y h = set-there xs i j y (λ e. h (ap suc e))

-- a site as it begins
pub begins : (o : Opening) (me : ℕ) → me < sites_of o → IsSiteOf (opened o) (begun_seat o me)
begins o me h =
    let sites = map (opened_site o) (range_with_len 0 (sites_of o)) in (
      refl,
      slice_get-get_or sites me (opened_site o me) (omega (arith, h, length-map-range_with_len (opened_site o) 0 (sites_of o)))
          ∙ ap Some (get_or-map-range_with_len (opened_site o) 0 (sites_of o) me me (opened_site o me) h (omega arith)),
    )

-- a step of its own
pub own : (w : World) (seat : Seat) (input : Input) → IsSiteOf w seat → is_full w ≡ false → step_at w seat.me input ≡ stepped w seat.me input (step_of seat input)
own w seat input is free =
    ap (λ o. step_site o w seat.me input) is.1
    ∙ ap (λ b. if b then unstepped w seat.me (Refused numbers_used_up) else stepped w seat.me input (step w.count seat.me seat.site input)) free
    ∙ ap (λ n. stepped w seat.me input (step n seat.me seat.site input)) (sym is.0)

-- a message that is handed to it
pub handed : (w : World) (seat : Seat) (number : ℕ) (e : Envelope) → IsSiteOf w seat → is_full w ≡ false → live w number ≡ Some e → e.to ≡ seat.me
    → next w (event.Repeat number) ≡ stepped w seat.me (Deliver e) (step_of seat (Deliver e))
handed w seat number e is free here to =
    ap (λ o. hand_over o w) here ∙ ap (λ s. step_at w s (Deliver e)) to ∙ own w seat (Deliver e) is free

pub stays : (w : World) (seat : Seat) (input : Input) → IsSiteOf w seat
    → IsSiteOf (stepped w seat.me input (step_of seat input)).world (seat_after seat (step_of seat input))
stays w seat input is = (is.0, set-here w.sites seat.me seat.site (step_of seat input).site is.1)

pub others : (w : World) (seat other : Seat) (input : Input) → IsSiteOf w other → other.me ≢ seat.me
    → IsSiteOf (stepped w seat.me input (step_of seat input)).world other
others w seat other input is apart = (is.0, set-there w.sites seat.me other.me (step_of seat input).site apart ∙ is.1)
