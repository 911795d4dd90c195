-- Induction over runs: what holds at the opening, and is kept by each step of one site and by each event that steps no site,
-- holds after every list of events.
use Rattle.std.proofs.Common.{◌≡◌, ℕ, ◌<◌, Bool, true, false, List, [], ◌∷◌, Option, Some, None, length, refl, sym, ◌∙◌, subst, slice_get, if◌then◌else◌, Contains}
use Rattle.std.proofs.lemmas.Option.{slice_get_within, get_or_from_slice_get}
use Rattle.std.proofs.lemmas.List.{length-set}
use Rattle.std.proofs.lemmas.List.FromFn.{length-map-range_with_len}
use Rattle.shm_model.specs.declared.answer.Answer.{Answer}
use Rattle.shm_model.specs.declared.answer.Answer.TheVariants.{Took, Refused}
use Rattle.shm_model.specs.declared.event.Event.{Event}
use Rattle.shm_model.specs.declared.event.Event.TheVariants.{Load as LoadEvent, Store as StoreEvent, Begin as BeginEvent, Tick as TickEvent, Restart as RestartEvent, Deliver as DeliverEvent, Repeat, Lose}
use Rattle.shm_model.specs.Refusal.{no_such_site, no_such_message, numbers_used_up}
use Rattle.shm_model.specs.Message.{Envelope, Input, Load, Store, Begin, Deliver, Tick, Restart}
use Rattle.shm_model.specs.Site.{Site, Step}
use Rattle.shm_model.specs.Step.{step}
use Rattle.shm_model.specs.World.{Opening, World, Run, begun, deliver, extended, hand_over, is_full, live, lose, next, run, run_on, sites_of, step_at, step_site, stepped, unstepped, without}

-- a delivered envelope was sent, and to this site
abbrev pub IsHonest : World → ℕ → Input → Type 0
IsHonest w s (Deliver e) = Contains w.sent e × (e.to ≡ s)
IsHonest w s _ = Unit {0}

pub record Shape (o : Opening) (w : World) : Type 0 where
  pub count : w.count ≡ sites_of o
  pub sites : length w.sites ≡ sites_of o

-- the answers of events that step no site
pub data IsStill : Answer → Type 0 where
  still_took : IsStill Took
  still_refused : (n : ℕ) → IsStill (Refused n)

pub record Kept (o : Opening) (P : Run → Type 0) : Type 0 where
  pub first : P (begun o)
  pub steps : (r : Run) (gone : ℕ → Bool) (s : ℕ) (site : Site) (input : Input) → P r → Shape o r.world → s < sites_of o
      → slice_get r.world.sites s ≡ Some site → IsHonest r.world s input
      → P (extended r (stepped (record r.world { gone = gone }) s input (step (sites_of o) s site input)))
  pub stays : (r : Run) (gone : ℕ → Bool) (s : ℕ) (answer : Answer) → P r → Shape o r.world → IsStill answer
      → P (extended r (unstepped (record r.world { gone = gone }) s answer))

-- an event of the world w (which has other gone numbers, maybe) leaves it in this shape
shape-stepped : (o : Opening) (w : World) (gone : ℕ → Bool) (s : ℕ) (input : Input) (done : Step) → Shape o w
    → Shape o (stepped (record w { gone = gone }) s input done).world
shape-stepped o w gone s input done shape = record { count = shape.count; sites = length-set w.sites s done.site ∙ shape.sites }

module _ (o : Opening) (P : Run → Type 0) (kept : Kept o P) where
  pub record Good (r : Run) : Type 0 where
    pub holds : P r
    pub shape : Shape o r.world

  first-good : Good (begun o)
  first-good = record { holds = kept.first; shape = record { count = refl; sites = length-map-range_with_len _ 0 (sites_of o) } }

  still-good : (r : Run) (gone : ℕ → Bool) (s : ℕ) (answer : Answer) → Good r → IsStill answer
      → Good (extended r (unstepped (record r.world { gone = gone }) s answer))
  still-good r gone s answer good still = record {
    holds = kept.stays r gone s answer good.holds good.shape still;
    shape = record { count = good.shape.count; sites = good.shape.sites };
  }

  stepped-good : (r : Run) (gone : ℕ → Bool) (s : ℕ) (site : Site) (input : Input) → Good r
      → slice_get r.world.sites s ≡ Some site → IsHonest r.world s input
      → Good (extended r (stepped (record r.world { gone = gone }) s input (step r.world.count s site input)))
  stepped-good r gone s site input good found honest =
      let within : s < length r.world.sites = slice_get_within r.world.sites s site found in
      let below : s < sites_of o = subst (λ n. s < n) good.shape.sites within in
      record {
        holds = subst (λ n. P (extended r (stepped (record r.world { gone = gone }) s input (step n s site input)))) (sym good.shape.count)
            (kept.steps r gone s site input good.holds good.shape below found honest);
        shape = shape-stepped o r.world gone s input (step r.world.count s site input) good.shape;
      }

  full-good : (r : Run) (gone : ℕ → Bool) (s : ℕ) (site : Site) (input : Input) (full : Bool) → Good r
      → slice_get r.world.sites s ≡ Some site → IsHonest r.world s input
      → Good (extended r (if full then unstepped (record r.world { gone = gone }) s (Refused numbers_used_up)
      else stepped (record r.world { gone = gone }) s input (step r.world.count s site input)))
  full-good r gone s site input true good found honest = still-good r gone s (Refused numbers_used_up) good (still_refused numbers_used_up)
  full-good r gone s site input false good found honest = stepped-good r gone s site input good found honest

  site-good : (r : Run) (gone : ℕ → Bool) (s : ℕ) (found : Option Site) (input : Input) → Good r
      → slice_get r.world.sites s ≡ found → IsHonest r.world s input
      → Good (extended r (step_site found (record r.world { gone = gone }) s input))
  site-good r gone s None input good found honest = still-good r gone s (Refused no_such_site) good (still_refused no_such_site)
  site-good r gone s (Some site) input good found honest = full-good r gone s site input (is_full (record r.world { gone = gone })) good found honest

  at-good : (r : Run) (gone : ℕ → Bool) (s : ℕ) (input : Input) → Good r → IsHonest r.world s input
      → Good (extended r (step_at (record r.world { gone = gone }) s input))
  at-good r gone s input good honest = site-good r gone s (slice_get r.world.sites s) input good refl honest

  sent-of-live : (w : World) (k : ℕ) (gone : Bool) (e : Envelope) → (if gone then None else slice_get w.sent k) ≡ Some e → Contains w.sent e
  sent-of-live w k true e h = cc
  sent-of-live w k false e h = (k, slice_get_within w.sent k e h, get_or_from_slice_get w.sent k e e h)

  lose-good : (r : Run) (k : ℕ) (found : Option Envelope) → Good r → Good (extended r (lose found r.world k))
  lose-good r k None good = still-good r r.world.gone 0 (Refused no_such_message) good (still_refused no_such_message)
  lose-good r k (Some e) good = still-good r (without r.world k).gone 0 Took good still_took

  repeat-good : (r : Run) (k : ℕ) (found : Option Envelope) → live r.world k ≡ found → Good r → Good (extended r (hand_over found r.world))
  repeat-good r k None h good = still-good r r.world.gone 0 (Refused no_such_message) good (still_refused no_such_message)
  repeat-good r k (Some e) h good =
      at-good r r.world.gone e.to (Deliver e) good (sent-of-live r.world k (r.world.gone k) e h, refl)

  deliver-good : (r : Run) (k : ℕ) (found : Option Envelope) → live r.world k ≡ found → Good r → Good (extended r (deliver found r.world k))
  deliver-good r k None h good = still-good r r.world.gone 0 (Refused no_such_message) good (still_refused no_such_message)
  deliver-good r k (Some e) h good =
      at-good r (without r.world k).gone e.to (Deliver e) good (sent-of-live r.world k (r.world.gone k) e h, refl)

  next-good : (r : Run) (event : Event) → Good r → Good (extended r (next r.world event))
  next-good r (LoadEvent s a offset) good = at-good r r.world.gone s (Load a offset) good tt
  next-good r (StoreEvent s a offset byte) good = at-good r r.world.gone s (Store a offset byte) good tt
  next-good r (BeginEvent s request) good = at-good r r.world.gone s (Begin request) good tt
  next-good r (TickEvent s) good = at-good r r.world.gone s Tick good tt
  next-good r (RestartEvent s) good = at-good r r.world.gone s Restart good tt
  next-good r (DeliverEvent k) good = deliver-good r k (live r.world k) refl good
  next-good r (Repeat k) good = repeat-good r k (live r.world k) refl good
  next-good r (Lose k) good = lose-good r k (live r.world k) good

  run_on-good : (r : Run) (events : List Event) → Good r → Good (run_on r events)
  run_on-good r [] good = good
  run_on-good r (e ∷ es) good = run_on-good (extended r (next r.world e)) es (next-good r e good)

  -- the property holds of every run
  pub run-good : (events : List Event) → Good (run o events)
  run-good events = run_on-good (begun o) events first-good

-- every run has the sites of its opening
pub run-shape : (o : Opening) (events : List Event) → Shape o (run o events).world
run-shape o events = (run-good o (λ r. Unit {0}) no_more events).shape
  where
    no_more : Kept o (λ r. Unit {0})
    no_more = record { first = tt; steps = λ r gone s site input holds shape below found honest. tt; stays = λ r gone s answer holds shape still. tt }
