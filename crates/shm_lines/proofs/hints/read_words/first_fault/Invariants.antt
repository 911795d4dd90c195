use Rattle.std.proofs.Common.{◌≤◌, length}
use Rattle.shm_lines.proofs.hints.read_words.first_fault.Given as goal

abbrev pub invariant-words : goal.invariant-words
invariant-words l = l.at ≤ length l.line
