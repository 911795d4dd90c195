use Rattle.shm_parts.proofs.Reaches.{reach_detached}
use Rattle.shm_parts.proofs.holdings.Holdings.detach.Goals as goal

pub invariant_of-self : goal.invariant_of-self
invariant_of-self g c =
    let held = c.args.self.now in
    record { reached = reach_detached held.entries held.attachments c.take.new.self held.purged held.frames c.args.number c.take.ensures.after held.reached }
