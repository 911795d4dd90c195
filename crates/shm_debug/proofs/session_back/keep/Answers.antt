use Rattle.shm_debug.specs.Standing.{first_events, world_of}
use Rattle.shm_debug.proofs.session_back.keep.Goals as goal

pub returns-in-Ok : goal.returns-in-Ok
returns-in-Ok g c = λ s within stands all.
    c.keep.ensures s all (record { within = within; stands = c.in-Ok.ensures (world_of (first_events c.args.count s)) stands })
