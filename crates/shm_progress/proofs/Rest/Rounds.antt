-- What a round leaves, in the world of the code that stands after it.
use Rattle.std.proofs.Common.{◌≡◌, ℕ, ◌+◌, IsTrue, List, [], ◌∷◌, ◌++◌, Result, Ok, Err, map, arith, sym, ◌∙◌, ap, subst}
use Rattle.std.specs.Prelude.{◌↔◌, IfOk}
use Rattle.std.proofs.lemmas.List.FromFn.{map-range_with_len_more}
use Rattle.std.specs.declared.alloc.AllocError.{AllocError}
use Rattle.shm_model.specs.declared.event.Event.{Event}
use Rattle.shm_model.specs.declared.event.Event.TheVariants.{Deliver, Tick}
use Rattle.shm_model.specs.World as model
use Rattle.shm_laws.proofs.Run.Induction.{run-shape}
use Rattle.shm_progress.specs.Deliveries.{IsAtRest}
use Rattle.shm_progress.proofs.Request.Again.{second-settles}
use Rattle.shm_progress.proofs.Request.Ends.{requests-settle}
use Rattle.shm_progress.proofs.Request.Faults.{faults-served}
use Rattle.shm_progress.proofs.Round.{settles}
use Rattle.shm_progress.proofs.RoundExists.{round-calm, round-kept, round-stands, round-ticks}
use Rattle.shm_progress.proofs.Transfer.Ends.{managers-settle}
use Rattle.shm_progress.specs.Rest.Deliveries.{HandedOver}
use Rattle.shm_progress.specs.Rest.Rounds.{IsRound, ServesAll, Settles, round_of, ticks}
use Rattle.shm_progress.specs.declared.settlement.settled.Settled.{Settled}
use Rattle.shm_progress.proofs.Rest.Deliveries.{after-append}
use Rattle.shm_world.specs.World.{StandsFor, after}
use Rattle.shm_world.specs.declared.world.World.{World}
use Rattle.shm_world.proofs.Runs.{run-then}

-- one site more ticks
pub ticked-more : {A : Type 0} (new : World A) (w : model.World) (n : ℕ) → StandsFor new (model.next (after w (ticks n)) (Tick n)).world → StandsFor new (after w (ticks (n + 1)))
ticked-more {A} new w n stands =
    let more : ticks (n + 1) ≡ ticks n ++ Tick n ∷ [] = map-range_with_len_more Tick 0 n n (omega arith) in
    subst (λ (u : model.World). StandsFor {A = A} new u) (sym (ap (after w) more ∙ after-append w (ticks n) (Tick n ∷ []))) stands

-- the world after all ticks is that of a run
pub ticked-run : (o : model.Opening) (before : List Event) → after (model.run o before).world (ticks (model.run o before).world.count) ≡ (model.run o (before ++ ticks (model.sites_of o))).world
ticked-run o before = ap (λ n. after (model.run o before).world (ticks n)) (run-shape o before).count ∙ sym (run-then o before (ticks (model.sites_of o)))

round-run : (o : model.Opening) (before : List Event) (ks : List ℕ)
    → after (after (model.run o before).world (ticks (model.run o before).world.count)) (map Deliver ks) ≡ (model.run o (before ++ round_of (model.sites_of o) ks)).world
round-run o before ks =
    ap (λ n. after (after (model.run o before).world (ticks n)) (map Deliver ks)) (run-shape o before).count
    ∙ (sym (after-append (model.run o before).world (ticks (model.sites_of o)) (map Deliver ks)) ∙ sym (run-then o before (round_of (model.sites_of o) ks)))

-- a round was made that left nothing on its way
record Made {A : Type 0} (new : World A) (o : model.Opening) (before : List Event) : Type 0 where
  pub envelopes : List ℕ
  pub stands : StandsFor new (model.run o (before ++ round_of (model.sites_of o) envelopes)).world
  pub at_rest : IsAtRest (model.run o (before ++ round_of (model.sites_of o) envelopes)).world

made-round : {A : Type 0} (new : World A) (o : model.Opening) (before : List Event) (deliveries : ℕ) → HandedOver new (after (model.run o before).world (ticks (model.run o before).world.count)) deliveries
    → ((u : model.World) → StandsFor new u → IsAtRest u) → Made new o before
made-round {A} new o before deliveries handed rest =
    let stands : StandsFor {A = A} new (model.run o (before ++ round_of (model.sites_of o) handed.envelopes)).world = subst (λ (u : model.World). StandsFor {A = A} new u) (round-run o before handed.envelopes) handed.stands in
    record { envelopes = handed.envelopes; stands = stands; at_rest = rest (model.run o (before ++ round_of (model.sites_of o) handed.envelopes)).world stands }

module _ {A : Type 0} (new : World A) (o : model.Opening) (opening : model.IsOpening o) (before : List Event) where
  settled : Made new o before → Settles new o before
  settled made =
      let n : ℕ = model.sites_of o in
      let round : List Event = round_of n made.envelopes in
      let kept = round-kept n made.envelopes in
      let unrestarted = round-stands n made.envelopes in
      let all = round-ticks n made.envelopes in
      record {
        envelopes = made.envelopes;
        is = record { kept = kept; unrestarted = unrestarted; ticks = all; at_rest = made.at_rest };
        stands = made.stands;
        quiet = λ free. record {
          served = settles o opening before round kept all free made.at_rest;
          ended = managers-settle o opening before round kept unrestarted all free made.at_rest;
          requests = requests-settle o opening before round kept unrestarted all free made.at_rest;
        };
      }

  served : (first : List Event) → IsRound o before first → Made new o (before ++ first) → ServesAll new o before first
  served first is made =
      let n : ℕ = model.sites_of o in
      let second : List Event = round_of n made.envelopes in
      let kept = round-kept n made.envelopes in
      let unrestarted = round-stands n made.envelopes in
      let calm = round-calm n made.envelopes in
      let all = round-ticks n made.envelopes in
      record {
        envelopes = made.envelopes;
        stands = made.stands;
        none_pending = λ free. second-settles o opening before first second is.kept is.unrestarted is.ticks is.at_rest kept unrestarted calm all free made.at_rest;
        faults = λ free. faults-served o opening before first second is.kept is.unrestarted is.ticks is.at_rest kept unrestarted calm all free made.at_rest;
      }

  -- what the deliveries after the ticks told
  pub settles-if : (result : Result Settled AllocError) → IfOk result (λ s. HandedOver new (after (model.run o before).world (ticks (model.run o before).world.count)) s.deliveries)
      → ((u : model.World) → StandsFor new u → IfOk result (λ s. IsTrue s.at_rest ↔ IsAtRest u)) → IfOk result (λ s. IsTrue s.at_rest → Settles new o before)
  settles-if (Ok s) handed rest = λ at_rest. settled (made-round new o before s.deliveries handed (λ u stands. (rest u stands).0 at_rest))
  settles-if (Err e) handed rest = tt

  pub serves-if : (first : List Event) → IsRound o before first → (result : Result Settled AllocError)
      → IfOk result (λ s. HandedOver new (after (model.run o (before ++ first)).world (ticks (model.run o (before ++ first)).world.count)) s.deliveries)
      → ((u : model.World) → StandsFor new u → IfOk result (λ s. IsTrue s.at_rest ↔ IsAtRest u)) → IfOk result (λ s. IsTrue s.at_rest → ServesAll new o before first)
  serves-if first is (Ok s) handed rest = λ at_rest. served first is (made-round new o (before ++ first) s.deliveries handed (λ u stands. (rest u stands).0 at_rest))
  serves-if first is (Err e) handed rest = tt
