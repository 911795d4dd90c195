use Rattle.std.proofs.Common.{◌≡◌, ◌-◌, [], length}
use Rattle.shm_debug.specs.Limits.{max_bytes}
use Rattle.shm_debug.specs.Reading.{reach}
use Rattle.shm_debug.proofs.ReplayLemmas.{SoFar}
use Rattle.shm_debug.proofs.replay_script.play_all.Given as goal

abbrev pub invariant-chunks : goal.invariant-chunks
invariant-chunks g l =
    SoFar (g.R.Read.remaining l.fn.reader) (g.R.Read.remaining l.reader) (g.W.Write.contents l.fn.writer) (g.W.Write.contents l.writer) l.output l.player
    × (length l.chunk ≡ 8192) × (l.output ≡ [])

abbrev pub decreases-chunks : goal.decreases-chunks
decreases-chunks g l = max_bytes - reach l.player
