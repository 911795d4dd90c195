use Rattle.std.proofs.Common.{length}
use Rattle.shm_debug.proofs.PlayerLemmas.{PlaysUpTo}
use Rattle.shm_debug.proofs.script_player.Player.play.Given as goal

abbrev pub invariant-lines : goal.invariant-lines
invariant-lines g l = PlaysUpTo l.bytes l.rest l.fn.self l.self l.fn.output l.output

abbrev pub decreases-lines : goal.decreases-lines
decreases-lines g l = length l.rest
