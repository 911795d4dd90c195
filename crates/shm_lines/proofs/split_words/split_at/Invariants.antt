use Rattle.std.proofs.Common.{◌≡◌, ◌==◌, false, take, All}
use Rattle.shm_lines.proofs.split_words.split_at.Given as goal

abbrev pub invariant-loop-at : goal.invariant-loop-at
invariant-loop-at l = All (λ byte. (byte == l.separator) ≡ false) (take l.at l.bytes)
