-- Induction over runs by turns: see Turn. What holds of the sites' desks at the opening, and is kept by each turn, holds after
-- every list of events.
use Rattle.std.proofs.Common.{◌≡◌, ℕ, ◌<◌, ◌≤◌, Bool, List, [], ◌∷◌, ◌++◌, Some, None, sym, ap, ◌∙◌, subst, arith, Contains, get_or, length, inl, inr, ◌⊎◌, slice_get, slice_set}
use Rattle.std.proofs.Math.Path.{fun_ext}
use Rattle.std.proofs.lemmas.Bool.{cases_eq, cases_lt}
use Rattle.std.proofs.lemmas.Grind.{get_or-set_at}
use Rattle.std.proofs.lemmas.List.{get_or-set_other, get_or_past}
use Rattle.std.proofs.lemmas.List.FromFn.{get_or-map-range_with_len, length-map-range_with_len}
use Rattle.std.proofs.lemmas.Option.{get_or_from_slice_get, slice_get_within}
use Rattle.shm_model.specs.declared.answer.Answer.{Answer}
use Rattle.shm_model.specs.declared.event.Event.{Event}
use Rattle.shm_model.specs.Basics.{at}
use Rattle.shm_model.specs.Message.{Envelope, Input, Load, Store, Begin, Deliver, Tick, Restart}
use Rattle.shm_model.specs.Site.{Site}
use Rattle.shm_model.specs.Step.{step}
use Rattle.shm_model.specs.World.{Done, Opening, World, Run, begun, extended, opened_site, run, sites_of, stepped}
use Rattle.shm_laws.proofs.Run.Induction.{IsHonest, IsStill, Kept, Shape, run-good}
use Rattle.shm_laws.proofs.Call.Turn.{Desk, Turn, desk_of}
use Rattle.shm_laws.proofs.Call.Turns.{turn-step}
use Rattle.shm_laws.proofs.Call.Steps.{at-here, at-there}

-- what each site keeps for calls
abbrev pub desks : Opening → List Site → ℕ → Desk
desks o sites s = desk_of (get_or sites s (opened_site o s))

-- a delivered envelope was sent, and to this site
abbrev pub Honest : List Envelope → ℕ → Input → Type 0
Honest sent s (Deliver e) = Contains sent e × (e.to ≡ s)
Honest sent s _ = Unit {0}

honest : (w : World) (s : ℕ) (input : Input) → IsHonest w s input → Honest w.sent s input
honest w s (Deliver e) h = h
honest w s (Load a offset) h = tt
honest w s (Store a offset byte) h = tt
honest w s (Begin request) h = tt
honest w s Tick h = tt
honest w s Restart h = tt

pub record ByTurns (o : Opening) (Q : (ℕ → Desk) → List Envelope → List Done → Type 0) : Type 0 where
  pub first : Q (λ s. desk_of (opened_site o s)) [] []
  pub turns : (d : ℕ → Desk) (sent : List Envelope) (account : List Done) (s : ℕ) (input : Input) (x : Desk) (answer : Answer) (more : List Envelope)
      → Q d sent account → s < sites_of o → Honest sent s input → Turn (sites_of o) s (d s) input x answer more
      → Q (at d s x) (sent ++ more) (record { site = s; input = Some input; answer = answer } ∷ account)
  pub stays : (d : ℕ → Desk) (sent : List Envelope) (account : List Done) (s : ℕ) (answer : Answer) → Q d sent account → IsStill answer
      → Q d sent (record { site = s; input = None; answer = answer } ∷ account)

desks-stepped-at : (o : Opening) (sites : List Site) (s : ℕ) (x : Site) (t : ℕ) → s < length sites → (s ≡ t) ⊎ (s ≡ t → ⊥)
    → desks o (slice_set sites s x) t ≡ at (desks o sites) s (desk_of x) t
desks-stepped-at o sites s x t within (inl same) =
    ap desk_of (get_or-set_at sites s t x (opened_site o t) (sym same) within) ∙ sym (at-here (desks o sites) s (desk_of x) t same)
desks-stepped-at o sites s x t within (inr other) =
    ap desk_of (get_or-set_other sites s t x (opened_site o t) (λ p. other (sym p))) ∙ sym (at-there (desks o sites) s (desk_of x) t other)

desks-stepped : (o : Opening) (sites : List Site) (s : ℕ) (x : Site) → s < length sites → desks o (slice_set sites s x) ≡ at (desks o sites) s (desk_of x)
desks-stepped o sites s x within = fun_ext (λ t. desks-stepped-at o sites s x t within (cases_eq s t))

desks-begun-at : (o : Opening) (s : ℕ) → (s < sites_of o) ⊎ (sites_of o ≤ s) → get_or (begun o).world.sites s (opened_site o s) ≡ opened_site o s
desks-begun-at o s (inl within) = get_or-map-range_with_len (opened_site o) 0 (sites_of o) s s (opened_site o s) within (omega arith)
desks-begun-at o s (inr past) = get_or_past (begun o).world.sites s (opened_site o s) (omega (arith, length-map-range_with_len (opened_site o) 0 (sites_of o)))

desks-begun : (o : Opening) → desks o (begun o).world.sites ≡ (λ s. desk_of (opened_site o s))
desks-begun o = fun_ext (λ s. ap desk_of (desks-begun-at o s (cases_lt s (sites_of o))))

module _ (o : Opening) (Q : (ℕ → Desk) → List Envelope → List Done → Type 0) (by : ByTurns o Q) where
  abbrev Holds : Run → Type 0
  Holds r = Q (desks o r.world.sites) r.world.sent r.account

  step-holds : (r : Run) (gone : ℕ → Bool) (s : ℕ) (site : Site) (input : Input) → Holds r → Shape o r.world → s < sites_of o
      → slice_get r.world.sites s ≡ Some site → IsHonest r.world s input
      → Holds (extended r (stepped (record r.world { gone = gone }) s input (step (sites_of o) s site input)))
  step-holds r gone s site input holds shape below found fair =
      let done = step (sites_of o) s site input in
      let within : s < length r.world.sites = slice_get_within r.world.sites s site found in
      let here : site ≡ get_or r.world.sites s (opened_site o s) = sym (get_or_from_slice_get r.world.sites s site (opened_site o s) found) in
      let turn : Turn (sites_of o) s (desks o r.world.sites s) input (desk_of done.site) done.answer done.sent =
      subst (λ x. Turn (sites_of o) s (desk_of x) input (desk_of done.site) done.answer done.sent) here (turn-step (sites_of o) s site input) in
      subst (λ d. Q d (r.world.sent ++ done.sent) (record { site = s; input = Some input; answer = done.answer } ∷ r.account))
      (sym (desks-stepped o r.world.sites s done.site within))
      (by.turns (desks o r.world.sites) r.world.sent r.account s input (desk_of done.site) done.answer done.sent holds below (honest r.world s input fair) turn)

  kept : Kept o Holds
  kept = record {
    first = subst (λ d. Q d [] []) (sym (desks-begun o)) by.first;
    steps = step-holds;
    stays = λ r gone s answer holds shape still. by.stays (desks o r.world.sites) r.world.sent r.account s answer holds still;
  }

  pub run-turns : (events : List Event) → Holds (run o events)
  run-turns events = (run-good o Holds kept events).holds
