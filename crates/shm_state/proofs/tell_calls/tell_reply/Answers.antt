use Rattle.std.proofs.Common.{ap, is_some}
use Rattle.shm_state.proofs.tell_calls.tell_reply.Goals as goal

pub tell_next-requires-clause-free : goal.tell_next-requires-clause-free
tell_next-requires-clause-free g c = ap is_some c.requires.free
