use Rattle.std.proofs.Common.{take}
use Rattle.std.specs.Fmt.{HasWritten, IsPlainFormatter}
use Rattle.shm_state.specs.SetWord.{set_word}
use Rattle.shm_state.proofs.display_set.SetWordDisplay.fmt.Given as goal

abbrev pub invariant-members : goal.invariant-members
invariant-members g l = IsPlainFormatter l.initial.f → HasWritten g.W.Write.write_str_gives l.initial.f (set_word (take l.member-index l.member-items)) l.f
