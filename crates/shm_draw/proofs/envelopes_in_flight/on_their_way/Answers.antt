use Rattle.std.proofs.Common.{ap}
use Rattle.std.specs.Option.{option_to_list}
use Rattle.shm_model.specs.World as model
use Rattle.shm_draw.specs.Picture.{live_way}
use Rattle.shm_draw.proofs.Numbered.{numbered_more}
use Rattle.shm_draw.proofs.envelopes_in_flight.on_their_way.Goals as goal

pub numbers-preserved : goal.numbers-preserved
numbers-preserved g c = λ w stands.
    numbered_more (λ k. option_to_list (live_way c.args.page.now c.args.origins.now k (model.live w k))) c.numbers.number c.numbers.ways.items c.keep_way.new.ways.items
    (option_to_list c.live_way.result) (c.numbers.invariant w stands) (ap option_to_list (c.live_way.ensures w stands)) c.in_ok-keep_way.ensures
