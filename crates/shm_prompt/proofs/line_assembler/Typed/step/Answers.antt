use Rattle.std.proofs.Common.{ap₂, refl}
use Rattle.shm_prompt.specs.Typing.{moment}
use Rattle.shm_prompt.proofs.TypingLemmas.{step_ends, step_halts}
use Rattle.shm_prompt.proofs.line_assembler.Typed.step.Goals as goal

pub returns-then-byte-eq10-clause-ends : goal.returns-then-byte-eq10-clause-ends
returns-then-byte-eq10-clause-ends g c = λ front k feed.
    step_ends g.S.SaveFile.saves g.S.SaveFile.gives front c.args.self.now.line.items c.end_line.new.self.line.items c.args.self.now.is_long c.end_line.new.self.is_long
    (moment c.args.self.now.dialog c.args.self.now.unsaved c.args.files.now c.args.out.now.items)
    (moment c.end_line.new.self.dialog c.end_line.new.self.unsaved c.end_line.new.files c.end_line.new.out.items) c.end_line.result k
    c.end_line.ensures.answers c.end_line.ensures.cleared

pub returns-then-byte-eq10-clause-halts : goal.returns-then-byte-eq10-clause-halts
returns-then-byte-eq10-clause-halts g c = λ front k feed.
    step_halts g.S.SaveFile.saves front c.args.self.now.line.items c.args.self.now.is_long
    (moment c.args.self.now.dialog c.args.self.now.unsaved c.args.files.now c.args.out.now.items) c.end_line.new.files c.end_line.result k c.end_line.ensures.halts

pub returns-in-Ok-clause-grows : goal.returns-in-Ok-clause-grows
returns-in-Ok-clause-grows g c = λ front k plain. (
  refl,
  ap₂ (λ s u. moment s u c.args.files.now c.args.out.now.items) c.grow.ensures.dialog c.grow.ensures.unsaved,
  c.in-Ok.ensures.grows front k plain,
)
