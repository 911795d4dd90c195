use Rattle.std.proofs.Common.{take}
use Rattle.std.specs.Fmt.{HasWritten, IsPlainFormatter}
use Rattle.shm_state.specs.BookWords.{numbers_text}
use Rattle.shm_state.proofs.display_book.NumbersTextDisplay.fmt.Given as goal

abbrev pub invariant-numbers : goal.invariant-numbers
invariant-numbers g l = IsPlainFormatter l.initial.f → HasWritten g.W.Write.write_str_gives l.initial.f (numbers_text (take l.number-index l.number-items)) l.f
