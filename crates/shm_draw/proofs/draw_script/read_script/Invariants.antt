use Rattle.std.proofs.Common.{◌≡◌, ◌-◌, [], None, length}
use Rattle.shm_debug.specs.Limits.{max_bytes}
use Rattle.shm_debug.specs.Reading.{reach}
use Rattle.shm_debug.proofs.ReplayLemmas.{SoFar}
use Rattle.shm_draw.proofs.draw_script.read_script.Given as goal

-- what is told goes to no writer
abbrev pub invariant-chunks : goal.invariant-chunks
invariant-chunks g l =
    SoFar (g.R.Read.remaining l.fn.reader) (g.R.Read.remaining l.reader) None None l.told l.player × (length l.chunk ≡ 8192) × (l.told ≡ [])

abbrev pub decreases-chunks : goal.decreases-chunks
decreases-chunks g l = max_bytes - reach l.player
