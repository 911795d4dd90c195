use Rattle.std.proofs.Common.{◌≡◌, ◌-◌, ◌≤◌, length}
use Rattle.std.specs.Io.KnownBytes.{Consumes}
use Rattle.shm_debug.specs.Limits.{max_bytes}
use Rattle.shm_command.proofs.script_file.read_whole.Given as goal

-- what was read stands, and is no more than may be read
abbrev pub invariant-chunks : goal.invariant-chunks
invariant-chunks g l =
    Consumes (g.F.Read.remaining l.fn.file) (g.F.Read.remaining l.file) l.bytes.items
    × (length l.bytes.items ≤ max_bytes) × (length l.chunk ≡ 8192)

abbrev pub decreases-chunks : goal.decreases-chunks
decreases-chunks g l = max_bytes - length l.bytes.items
