use Rattle.std.proofs.Common.{◌+◌, ◌≤◌, length}
use Rattle.shm_prompt.proofs.OpenLemmas.{Playing}
use Rattle.shm_prompt.proofs.open_script.play_lines.Given as goal

-- the lines so far were acted on, and the number is that of the next
abbrev pub invariant-lines : goal.invariant-lines
invariant-lines g l = (l.number + length l.rest ≤ length l.bytes + 1) × Playing l.bytes l.rest l.number l.fn.session l.session l.fn.out.items l.out.items

abbrev pub decreases-lines : goal.decreases-lines
decreases-lines g l = length l.rest
