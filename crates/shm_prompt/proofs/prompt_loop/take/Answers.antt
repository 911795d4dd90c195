use Rattle.std.proofs.Common.{sym, ◌∙◌}
use Rattle.shm_prompt.specs.Typing.{moment}
use Rattle.shm_prompt.proofs.SittingLemmas.{end_goes, end_last, end_starves, fed_goes, fed_last}
use Rattle.shm_prompt.proofs.prompt_loop.take.Goals as goal

pub returns-then-is_empty-clause-goes : goal.returns-then-is_empty-clause-goes
returns-then-is_empty-clause-goes g c = λ front k.
    end_goes g.S.SaveFile.saves g.S.SaveFile.gives c.args.is_terminal front c.args.bytes.now c.args.typed.now.line.items c.args.typed.now.is_long
    c.args.typed.now.dialog c.end.new.typed.dialog c.args.typed.now.unsaved c.end.new.typed.unsaved c.args.files.now c.args.out.now.items c.end.new.out.items c.end.new.typed.line.items c.end.new.typed.is_long c.end.result k
    (sym c.is_empty.ensures ∙ c.if-is_empty.true) c.end.ensures.ends c.end.ensures.told c.end.ensures.dialog c.end.ensures.line c.end.ensures.is_long c.end.ensures.unsaved

pub returns-then-is_empty-clause-ends : goal.returns-then-is_empty-clause-ends
returns-then-is_empty-clause-ends g c = λ front k.
    end_last g.S.SaveFile.saves g.S.SaveFile.gives c.args.is_terminal front c.args.bytes.now c.args.typed.now.line.items c.args.typed.now.is_long
    c.args.typed.now.dialog c.end.new.typed.dialog c.args.typed.now.unsaved c.end.new.typed.unsaved c.args.files.now c.args.out.now.items c.end.new.out.items c.end.result
    (sym c.is_empty.ensures ∙ c.if-is_empty.true) c.end.ensures.ends c.end.ensures.told

pub returns-then-is_empty-clause-starves : goal.returns-then-is_empty-clause-starves
returns-then-is_empty-clause-starves g c = λ front k.
    end_starves g.S.SaveFile.saves g.S.SaveFile.gives c.args.is_terminal front c.args.bytes.now c.args.typed.now.line.items c.args.typed.now.is_long
    c.args.typed.now.dialog c.args.typed.now.unsaved c.args.files.now c.args.out.now.items c.end.result (sym c.is_empty.ensures ∙ c.if-is_empty.true)

pub returns-clause-goes : goal.returns-clause-goes
returns-clause-goes g c = λ front k.
    fed_goes g.S.SaveFile.saves g.S.SaveFile.gives c.args.is_terminal front c.args.bytes.now c.args.typed.now.line.items c.args.typed.now.is_long
    (moment c.args.typed.now.dialog c.args.typed.now.unsaved c.args.files.now c.args.out.now.items)
    (moment c.feed.new.self.dialog c.feed.new.self.unsaved c.feed.new.files c.feed.new.out.items) c.feed.new.self.line.items c.feed.new.self.is_long c.feed.result
    (sym c.is_empty.ensures ∙ c.if-is_empty.false) (c.feed.ensures.goes front k)

pub returns-clause-ends : goal.returns-clause-ends
returns-clause-ends g c = λ front k.
    fed_last g.S.SaveFile.saves g.S.SaveFile.gives c.args.is_terminal front c.args.bytes.now c.args.typed.now.line.items c.args.typed.now.is_long
    (moment c.args.typed.now.dialog c.args.typed.now.unsaved c.args.files.now c.args.out.now.items)
    (moment c.feed.new.self.dialog c.feed.new.self.unsaved c.feed.new.files c.feed.new.out.items) c.feed.result
    (sym c.is_empty.ensures ∙ c.if-is_empty.false) (c.feed.ensures.quits front k)
