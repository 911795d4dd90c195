use Rattle.std.proofs.Common.{◌≡◌, ◌<◌, ◌∙◌, ◌++◌, ◌∷◌, [], List, arith, length}
use Rattle.std.specs.Prelude.{OnOk, map}
use Rattle.shm_simulate.specs.Measures.{value_in}
use Rattle.shm_simulate.specs.Outcomes.{Tallied}
use Rattle.shm_simulate.specs.Spreads.{AreSpreads}
use Rattle.shm_simulate.specs.Tally.{given_in, value_of}
use Rattle.shm_simulate.specs.declared.line_state.LineState.{LineState}
use Rattle.shm_simulate.specs.declared.measure.Measure.{Measure}
use Rattle.shm_simulate.proofs.ListLemmas.{long-map}
use Rattle.shm_simulate.proofs.TallyLemmas.{on-ok, tells-more}
use Rattle.shm_simulate.proofs.simulate_runs.add_run.Goals as goal

pub returns-clause-told : goal.returns-clause-told
returns-clause-told c = λ o accesses odds schedules follows ended long tells.
    let p = c.args.partial in
    let few : (m : Measure) → length (map (value_of o accesses m) schedules) < 4294967295 =
    λ m. omega (arith, long-map (value_of o accesses m) schedules, long, c.requires) in
    let more : AreSpreads (λ m. map (value_of o accesses m) schedules ++ value_in m p.lines.items p.messages.items p.events.items ∷ []) c.add_values.new.spreads.items =
    rw (c.as_slice.ensures.value, c.as_slice-2.ensures.value, c.as_slice-3.ensures.value)
    at (c.in_ok-add_values.ensures.spreads (λ m. map (value_of o accesses m) schedules) tells.spread few) in
    let counted : OnOk c.add.result (Tallied (map (given_in o accesses) schedules ++ map (λ (line : LineState). line.gave) p.lines.items ∷ []) (schedules ++ p.events.items ∷ []) c.add.new.outcomes.items) =
    rw c.as_slice-4.ensures.value
    at (c.add.ensures (map (given_in o accesses) schedules) schedules tells.tallied (long-map (given_in o accesses) schedules ∙ long) long) in
    on-ok c.add.result
    (λ tallied. tells-more o accesses odds schedules p.events.items p.lines.items p.messages.items c.args.tally.now.outcomes.items c.add.new.outcomes.items
    c.args.tally.now.spreads.items c.add_values.new.spreads.items follows.lines follows.messages follows.order follows.allowed ended tells more tallied)
    counted
