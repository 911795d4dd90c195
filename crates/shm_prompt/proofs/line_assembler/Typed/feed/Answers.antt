use Rattle.std.proofs.Common.{arith}
use Rattle.shm_prompt.specs.Typing.{moment}
use Rattle.shm_prompt.proofs.TypingLemmas.{feeds_all, feeds_more, feeds_none, feeds_quit, feeds_starve}
use Rattle.shm_prompt.proofs.line_assembler.Typed.feed.Goals as goal

pub bytes-init : goal.bytes-init
bytes-init g c =
    feeds_none g.S.SaveFile.saves g.S.SaveFile.gives c.args.self.now.line.items c.args.self.now.is_long
    (moment c.args.self.now.dialog c.args.self.now.unsaved c.args.files.now c.args.out.now.items)

pub bytes-preserved : goal.bytes-preserved
bytes-preserved g c =
    let after = c.step.new in
    feeds_more g.S.SaveFile.saves g.S.SaveFile.gives c.args.bytes.now c.args.self.now.line.items c.bytes.self.line.items after.self.line.items c.bytes.byte-index
    c.args.self.now.is_long c.bytes.self.is_long after.self.is_long c.in-Ok-false.field-0
    (moment c.args.self.now.dialog c.args.self.now.unsaved c.args.files.now c.args.out.now.items)
    (moment c.bytes.self.dialog c.bytes.self.unsaved c.bytes.files c.bytes.out.items)
    (moment after.self.dialog after.self.unsaved after.files after.out.items)
    c.bytes-test.true c.bytes.invariant c.in-Ok-false.field-0-test c.in-Ok-false.ensures.ends c.in-Ok-false.ensures.grows

pub returns-in-Ok-true-clause-quits : goal.returns-in-Ok-true-clause-quits
returns-in-Ok-true-clause-quits g c = λ front k quits.
    let after = c.step.new in
    feeds_quit g.S.SaveFile.saves g.S.SaveFile.gives c.args.bytes.now c.args.self.now.line.items c.bytes.self.line.items after.self.line.items c.bytes.byte-index
    c.args.self.now.is_long c.bytes.self.is_long after.self.is_long c.in-Ok-true.field-0
    (moment c.args.self.now.dialog c.args.self.now.unsaved c.args.files.now c.args.out.now.items)
    (moment c.bytes.self.dialog c.bytes.self.unsaved c.bytes.files c.bytes.out.items)
    (moment after.self.dialog after.self.unsaved after.files after.out.items)
    c.bytes-test.true c.bytes.invariant c.in-Ok-true.field-0-test c.in-Ok-true.ensures.ends c.in-Ok-true.ensures.grows front k

pub returns-in-Err-clause-starves : goal.returns-in-Err-clause-starves
returns-in-Err-clause-starves g c = λ front k.
    let after = c.step.new in
    feeds_starve g.S.SaveFile.saves g.S.SaveFile.gives c.args.bytes.now c.args.self.now.line.items c.bytes.self.line.items c.bytes.byte-index
    c.args.self.now.is_long c.bytes.self.is_long
    (moment c.args.self.now.dialog c.args.self.now.unsaved c.args.files.now c.args.out.now.items)
    (moment c.bytes.self.dialog c.bytes.self.unsaved c.bytes.files c.bytes.out.items) after.files
    c.bytes-test.true c.bytes.invariant c.in-Err.ensures.halts c.in-Err.ensures.halted front k

pub returns-clause-goes : goal.returns-clause-goes
returns-clause-goes g c = λ front k goes.
    feeds_all g.S.SaveFile.saves g.S.SaveFile.gives c.args.bytes.now c.args.self.now.line.items c.bytes.self.line.items c.bytes.byte-index
    c.args.self.now.is_long c.bytes.self.is_long
    (moment c.args.self.now.dialog c.args.self.now.unsaved c.args.files.now c.args.out.now.items)
    (moment c.bytes.self.dialog c.bytes.self.unsaved c.bytes.files c.bytes.out.items)
    (omega (arith, c.bytes-test.false)) c.bytes.invariant front k
