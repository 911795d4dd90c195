use Rattle.std.proofs.Common.{sym, subst}
use Rattle.std.specs.Prelude.{IfOk, OnErr}
use Rattle.shm_prompt.specs.Typing.{Answers, HaltsLine, moment}
use Rattle.shm_prompt.proofs.TypingLemmas.{long_answers, long_halts}
use Rattle.shm_prompt.proofs.line_assembler.Typed.do_line.Goals as goal

pub returns-then-self-clause-answers : goal.returns-then-self-clause-answers
returns-then-self-clause-answers g c =
    long_answers g.S.SaveFile.saves g.S.SaveFile.gives c.args.self.now.is_long c.args.self.now.line.items c.args.self.now.dialog c.args.self.now.unsaved c.args.files.now
    c.args.out.now.items c.tell_long.new.out.items c.tell_long.result c.if-self.true c.tell_long.ensures.told c.tell_long.ensures.stays

pub returns-then-self-clause-halts : goal.returns-then-self-clause-halts
returns-then-self-clause-halts g c =
    long_halts g.S.SaveFile.saves c.args.self.now.is_long c.args.self.now.line.items c.args.self.now.dialog c.args.self.now.unsaved c.args.files.now
    c.args.out.now.items c.tell_long.result c.if-self.true

pub returns-clause-answers : goal.returns-clause-answers
returns-clause-answers g c =
    subst (λ b. IfOk c.obey_line.result (λ quits. Answers g.S.SaveFile.saves g.S.SaveFile.gives b c.args.self.now.line.items
    (moment c.args.self.now.dialog c.args.self.now.unsaved c.args.files.now c.args.out.now.items) quits
    (moment c.obey_line.new.self.dialog c.obey_line.new.self.unsaved c.obey_line.new.files c.obey_line.new.out.items))) (sym c.if-self.false) c.obey_line.ensures.obeys

pub returns-clause-halts : goal.returns-clause-halts
returns-clause-halts g c =
    subst (λ b. OnErr c.obey_line.result (HaltsLine g.S.SaveFile.saves b c.args.self.now.line.items
    (moment c.args.self.now.dialog c.args.self.now.unsaved c.args.files.now c.args.out.now.items) c.obey_line.new.files)) (sym c.if-self.false) c.obey_line.ensures.halts
