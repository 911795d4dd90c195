use Rattle.std.proofs.Common.{take}
use Rattle.shm_prompt.specs.Typing.{moment}
use Rattle.shm_prompt.proofs.TypingLemmas.{FeedsUpTo}
use Rattle.shm_prompt.proofs.line_assembler.Typed.feed.Given as goal

-- the bytes so far are taken, and no line has quit
abbrev pub invariant-bytes : goal.invariant-bytes
invariant-bytes g l =
    FeedsUpTo g.S.SaveFile.saves g.S.SaveFile.gives l.fn.self.line.items l.fn.self.is_long (take l.byte-index l.bytes)
    (moment l.fn.self.dialog l.fn.self.unsaved l.fn.files l.fn.out.items) (moment l.self.dialog l.self.unsaved l.files l.out.items) l.self.line.items l.self.is_long
