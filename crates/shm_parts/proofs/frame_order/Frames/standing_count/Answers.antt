use Rattle.std.specs.Map.{keys_of}
use Rattle.shm_parts.specs.Frames.{copies_in}
use Rattle.shm_parts.proofs.Distinct.{counted_distinct}
use Rattle.shm_parts.proofs.frame_order.Frames.standing_count.Goals as goal

pub returns-clause-apart : goal.returns-clause-apart
unfolding copies_in
returns-clause-apart g c = counted_distinct c.args.self.now.awaited (keys_of c.args.self.now.pages) c.count.ensures.apart
