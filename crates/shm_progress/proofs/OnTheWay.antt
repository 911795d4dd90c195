-- What an event does to the envelopes that are on their way.
use Rattle.std.proofs.Common.{◌≡◌, ◌≢◌, ℕ, ◌+◌, ◌<◌, ◌≤◌, ◌⊎◌, inl, inr, Bool, true, false, if◌then◌else◌, ◌==◌, Option, Some, None, List, [], ◌∷◌, length, get_or, slice_get, arith, refl, sym, ◌∙◌, ap, Contains}
use Rattle.std.proofs.lemmas.Bool.{cases_eq, cond_both, cond-false, le-ltb, ltb-false}
use Rattle.std.proofs.lemmas.Bool.Decides.{nat_tests}
use Rattle.std.proofs.lemmas.List.{length-append}
use Rattle.std.proofs.lemmas.Option.{get_or_from_slice_get, slice_get-get_or, slice_get_within}
use Rattle.shm_model.specs.declared.event.Event.{Event}
use Rattle.shm_model.specs.declared.event.Event.TheVariants.{Load as LoadEvent, Store as StoreEvent, Begin as BeginEvent, Tick as TickEvent, Restart as RestartEvent, Deliver as DeliverEvent, Repeat, Lose}
use Rattle.shm_model.specs.Basics.{at, max_sent}
use Rattle.shm_model.specs.Message.{Envelope, Input, Load, Store, Begin, Deliver, Tick, Restart}
use Rattle.shm_model.specs.Site.{Site}
use Rattle.shm_model.specs.Step.{step}
use Rattle.shm_model.specs.World.{Next, Opening, Run, World, begun, deliver, extended, hand_over, is_full, live, lose, next, run, run_on, step_site, stepped, without}
use Rattle.shm_laws.proofs.Run.Induction.{IsHonest}
use Rattle.shm_laws.proofs.Log.Lists.{slice_get-append_left, slice_get-append_right}
use Rattle.shm_progress.specs.OnTheWay.{IsOnItsWay, is_loss}

-- what goes with a site's step is what it is handed
abbrev pub Takes : World → (ℕ → Bool) → ℕ → Input → Type 0
Takes w gone s input = (j : ℕ) (f : Envelope) → live w j ≡ Some f → (gone j ≡ false) ⊎ ((input ≡ Deliver f) × (f.to ≡ s))

-- no number goes that wasn't given
abbrev pub OnlySent : World → (ℕ → Bool) → Type 0
OnlySent w gone = (j : ℕ) → length w.sent ≤ j → w.gone j ≡ false → gone j ≡ false

-- an event leaves the world, lets one envelope go, or steps a site
pub data Moved (w : World) (v : Event) : World → Type 0 where
  same : Moved w v w
  drops : (k : ℕ) (e : Envelope) → live w k ≡ Some e → (is_loss v ≡ false → is_full w ≡ false → slice_get w.sites e.to ≡ None) → Moved w v (without w k)
  steps : (gone : ℕ → Bool) (s : ℕ) (x : Site) (input : Input) → slice_get w.sites s ≡ Some x → IsHonest w s input → Takes w gone s input → OnlySent w gone
      → (input ≡ Restart → v ≡ RestartEvent s) → Moved w v (stepped (record w { gone = gone }) s input (step w.count s x input)).world

pub live-parts : (w : World) (k : ℕ) (e : Envelope) → live w k ≡ Some e → (w.gone k ≡ false) × (slice_get w.sent k ≡ Some e)
live-parts w k e h = by-gone (w.gone k) refl h
  where
    by-gone : (b : Bool) → w.gone k ≡ b → (if b then None else slice_get w.sent k) ≡ Some e → (w.gone k ≡ false) × (slice_get w.sent k ≡ Some e)
    by-gone true g h = cc
    by-gone false g h = (g, h)

pub live-sent : (w : World) (k : ℕ) (e : Envelope) → live w k ≡ Some e → Contains w.sent e
live-sent w k e h = let found = (live-parts w k e h).1 in (k, slice_get_within w.sent k e found, get_or_from_slice_get w.sent k e e found)

all-stay : (w : World) (s : ℕ) (input : Input) → Takes w w.gone s input
all-stay w s input j f h = inl (live-parts w j f h).0

same-envelope : (x : Option Envelope) (e f : Envelope) → x ≡ Some e → x ≡ Some f → e ≡ f
same-envelope x e f p q = cc

one-goes : (w : World) (k : ℕ) (e : Envelope) → live w k ≡ Some e → Takes w (without w k).gone e.to (Deliver e)
one-goes w k e h j f g = by-number (cases_eq k j)
  where
    by-number : (k ≡ j) ⊎ (k ≢ j) → (at w.gone k true j ≡ false) ⊎ ((Deliver e ≡ Deliver f) × (f.to ≡ e.to))
    by-number (inl here) = let same = same-envelope (live w j) e f (ap (live w) (sym here) ∙ h) g in inr (ap Deliver same, ap (λ (x : Envelope). x.to) (sym same))
    by-number (inr there) = inl (cond-false (k == j) true (w.gone j) (grind (arith, nat_tests)) ∙ (live-parts w j f g).0)

pub only-one : (w : World) (k : ℕ) (e : Envelope) → live w k ≡ Some e → OnlySent w (without w k).gone
only-one w k e h j past free =
    let within = slice_get_within w.sent k e (live-parts w k e h).1 in
    let other : (k == j) ≡ false = grind (arith, nat_tests) in
    cond-false (k == j) true (w.gone j) other ∙ free

module _ (w : World) (v : Event) where
  still-moved : (found : Option Site) (s : ℕ) (input : Input) → slice_get w.sites s ≡ found → IsHonest w s input → (input ≡ Restart → v ≡ RestartEvent s) → Moved w v (step_site found w s input).world
  still-moved None s input h honest restarts = same
  still-moved (Some x) s input h honest restarts =
      cond_both (is_full w) _ _ (λ (n : Next). Moved w v n.world) (λ e. same) (λ e. steps w.gone s x input h honest (all-stay w s input) (λ j past free. free) restarts)

  handed-moved : (k : ℕ) (e : Envelope) → live w k ≡ Some e → (found : Option Site) → slice_get w.sites e.to ≡ found → Moved w v (step_site found (without w k) e.to (Deliver e)).world
  handed-moved k e h None none = drops k e h (λ loss free. none)
  handed-moved k e h (Some x) found =
      cond_both (is_full (without w k)) _ _ (λ (n : Next). Moved w v n.world) (λ full. drops k e h (λ loss free. let both : true ≡ false = sym full ∙ free in cc))
      (λ free. steps (without w k).gone e.to x (Deliver e) found (live-sent w k e h, refl) (one-goes w k e h) (only-one w k e h) (λ r. cc))

  deliver-moved : (k : ℕ) (found : Option Envelope) → live w k ≡ found → Moved w v (deliver found w k).world
  deliver-moved k None h = same
  deliver-moved k (Some e) h = handed-moved k e h (slice_get w.sites e.to) refl

  repeat-moved : (k : ℕ) (found : Option Envelope) → live w k ≡ found → Moved w v (hand_over found w).world
  repeat-moved k None h = same
  repeat-moved k (Some e) h = still-moved (slice_get w.sites e.to) e.to (Deliver e) refl (live-sent w k e h, refl) (λ r. cc)

lose-moved : (w : World) (k : ℕ) (found : Option Envelope) → live w k ≡ found → Moved w (Lose k) (lose found w k).world
lose-moved w k None h = same
lose-moved w k (Some e) h = drops k e h (λ loss free. cc)

pub moved : (w : World) (v : Event) → Moved w v (next w v).world
moved w (LoadEvent s a offset) = still-moved w _ (slice_get w.sites s) s (Load a offset) refl tt (λ r. cc)
moved w (StoreEvent s a offset byte) = still-moved w _ (slice_get w.sites s) s (Store a offset byte) refl tt (λ r. cc)
moved w (BeginEvent s request) = still-moved w _ (slice_get w.sites s) s (Begin request) refl tt (λ r. cc)
moved w (TickEvent s) = still-moved w _ (slice_get w.sites s) s Tick refl tt (λ r. cc)
moved w (RestartEvent s) = still-moved w _ (slice_get w.sites s) s Restart refl tt (λ r. refl)
moved w (DeliverEvent k) = deliver-moved w _ k (live w k) refl
moved w (Repeat k) = repeat-moved w _ k (live w k) refl
moved w (Lose k) = lose-moved w k (live w k) refl

-- no number is gone that wasn't given
pub record Fresh (w : World) : Type 0 where
  pub fresh : (j : ℕ) → length w.sent ≤ j → w.gone j ≡ false

pub moved-fresh : (w : World) (v : Event) (u : World) → Moved w v u → Fresh w → Fresh u
moved-fresh w v u same fresh = fresh
moved-fresh w v u (drops k e h why) fresh = record { fresh = λ j past. only-one w k e h j past (fresh.fresh j past) }
moved-fresh w v u (steps gone s x input found honest takes only restarts) fresh = record {
  fresh = λ j past. let longer = length-append w.sent (step w.count s x input).sent in
      let before : length w.sent ≤ j = omega (arith, past, longer) in
      only j before (fresh.fresh j before);
}

on-fresh : (r : Run) (events : List Event) → Fresh r.world → Fresh (run_on r events).world
on-fresh r [] fresh = fresh
on-fresh r (e ∷ es) fresh = on-fresh (extended r (next r.world e)) es (moved-fresh r.world e (next r.world e).world (moved r.world e) fresh)

pub run-fresh : (o : Opening) (events : List Event) → Fresh (run o events).world
run-fresh o events = on-fresh (begun o) events (record { fresh = λ j past. refl })

-- a world that is not full at last was never
moved-longer : (w : World) (v : Event) (u : World) → Moved w v u → length w.sent ≤ length u.sent
moved-longer w v u same = omega arith
moved-longer w v u (drops k e h why) = omega arith
moved-longer w v u (steps gone s x input found honest takes only restarts) = let longer = length-append w.sent (step w.count s x input).sent in omega (arith, longer)

on-longer : (r : Run) (events : List Event) → length r.world.sent ≤ length (run_on r events).world.sent
on-longer r [] = omega arith
on-longer r (e ∷ es) =
    let first = moved-longer r.world e (next r.world e).world (moved r.world e) in
    let rest = on-longer (extended r (next r.world e)) es in
    omega (arith, first, rest)

pub free-before : (r : Run) (events : List Event) → is_full (run_on r events).world ≡ false → is_full r.world ≡ false
free-before r events free =
    let longer = on-longer r events in
    let few = ltb-false max_sent (length (run_on r events).world.sent) free in
    le-ltb max_sent (length r.world.sent) (omega (arith, longer, few))

-- what stays on its way, and what joins it, when a site steps
module _ (w : World) (fresh : Fresh w) (gone : ℕ → Bool) (s : ℕ) (x : Site) (input : Input) (only : OnlySent w gone) where
  abbrev after : World
  after = (stepped (record w { gone = gone }) s input (step w.count s x input)).world

  pub stays : (j : ℕ) (f : Envelope) → live w j ≡ Some f → gone j ≡ false → IsOnItsWay after f
  stays j f h free = (j, cond-false (gone j) None _ free ∙ slice_get-append_left w.sent (step w.count s x input).sent j f (live-parts w j f h).1)

  pub joins : (f : Envelope) → Contains (step w.count s x input).sent f → IsOnItsWay after f
  joins f (i, within, is) = (
    length w.sent + i,
    cond-false (gone (length w.sent + i)) None _ (only (length w.sent + i) (omega arith) (fresh.fresh (length w.sent + i) (omega arith)))
        ∙ (slice_get-append_right w.sent (step w.count s x input).sent (length w.sent + i) i refl ∙ (slice_get-get_or (step w.count s x input).sent i f within ∙ ap Some is)),
  )

-- one envelope goes that was for no site; what is for a site stays on its way
pub others-stay : (w : World) → length w.sites ≡ w.count → (k : ℕ) (e : Envelope) → live w k ≡ Some e → slice_get w.sites e.to ≡ None → (f : Envelope) (x : Site) → f.to < w.count
    → IsOnItsWay w f → IsOnItsWay (without w k) f
others-stay w all k e gone nowhere f x small (j, h) = by-number (cases_eq k j)
  where
    no-site : (found : Option Site) (y : Site) → found ≡ Some y → found ≡ None → ⊥
    no-site found y p q = cc

    by-number : (k ≡ j) ⊎ (k ≢ j) → IsOnItsWay (without w k) f
    by-number (inl here) =
        let one : e ≡ f = same-envelope (live w j) e f (ap (live w) (sym here) ∙ gone) h in
        absurd (no-site (slice_get w.sites f.to) (get_or w.sites f.to x) (slice_get-get_or w.sites f.to x (omega (arith, small, all))) (ap (λ (y : Envelope). slice_get w.sites y.to) (sym one) ∙ nowhere))
    by-number (inr there) =
        let parts = live-parts w j f h in
        (j, cond-false (at w.gone k true j) None _ (cond-false (k == j) true (w.gone j) (grind (arith, nat_tests)) ∙ parts.0) ∙ parts.1)
