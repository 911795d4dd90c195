use Rattle.std.proofs.Common.{◌≡◌}
use Rattle.std.specs.List.{flat_map, range_with_len}
use Rattle.std.specs.Option.{option_to_list}
use Rattle.shm_model.specs.World as model
use Rattle.shm_world.specs.World.{StandsFor}
use Rattle.shm_draw.specs.Picture.{live_way}
use Rattle.shm_draw.proofs.envelopes_in_flight.on_their_way.Given as goal

abbrev pub invariant-numbers : goal.invariant-numbers
invariant-numbers g l =
    (w : model.World) → StandsFor l.world w
    → l.ways.items ≡ flat_map (λ k. option_to_list (live_way l.page l.origins k (model.live w k))) (range_with_len 0 l.number)
