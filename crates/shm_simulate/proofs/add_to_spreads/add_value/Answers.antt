use Rattle.std.proofs.Common.{◌≡◌, Some, slice_get}
use Rattle.std.proofs.lemmas.Option.{slice_get_read}
use Rattle.shm_simulate.specs.Measures.{value_in}
use Rattle.shm_simulate.specs.declared.spread.Spread.{Spread}
use Rattle.shm_simulate.proofs.TallyLemmas.{adds-at, map-set}
use Rattle.shm_simulate.proofs.add_to_spreads.add_value.Goals as goal

pub returns-clause-measures : goal.returns-clause-measures
returns-clause-measures c =
    let there : slice_get c.args.spreads.now.items c.args.place ≡ Some c.index_mut-spread.result.now =
    slice_get_read c.args.spreads.now.items c.args.spreads.now.len c.args.place c.index_mut-spread.result.now c.args.spreads.now.ok.0 c.requires c.index_mut-spread.ensures.value in
    map-set (λ (spread : Spread). spread.measure) c.args.spreads.now.items c.args.place c.index_mut-spread.result.now c.add.new.self there c.add.ensures.measure

pub returns-clause-added : goal.returns-clause-added
returns-clause-added c = λ old got.
    let there : slice_get c.args.spreads.now.items c.args.place ≡ Some c.index_mut-spread.result.now =
    slice_get_read c.args.spreads.now.items c.args.spreads.now.len c.args.place c.index_mut-spread.result.now c.args.spreads.now.ok.0 c.requires c.index_mut-spread.ensures.value in
    adds-at (λ m. value_in m c.args.lines.now c.args.messages.now c.args.events.now) c.add.result c.args.spreads.now.items c.args.place
    c.index_mut-spread.result.now c.add.new.self old c.value-value.result there got c.add.ensures.measure c.value-value.ensures c.add.ensures.spread
