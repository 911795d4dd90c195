use Rattle.std.proofs.Common.{replicate}
use Rattle.std.specs.Fmt.{HasWritten, IsPlainFormatter}
use Rattle.shm_lines.proofs.hints.hint_writer.BlanksDisplay.fmt.Given as goal

abbrev pub invariant-blanks : goal.invariant-blanks
invariant-blanks g l = IsPlainFormatter l.initial.f → HasWritten g.W.Write.write_str_gives l.initial.f (replicate l.counter 32) l.f
