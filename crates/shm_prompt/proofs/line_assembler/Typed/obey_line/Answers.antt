use Rattle.std.proofs.Common.{rules, ◌≡◌, drop, length, nat_lt}
use Rattle.shm_prompt.specs.Command.{command_of}
use Rattle.shm_prompt.specs.Typing.{moment, unsaved_after}
use Rattle.shm_prompt.proofs.TypingLemmas.{halts_line, obeys_line}
use Rattle.shm_prompt.proofs.line_assembler.Typed.obey_line.Goals as goal

pub returns-in-Ok-clause-obeys : goal.returns-in-Ok-clause-obeys
returns-in-Ok-clause-obeys g c =
    let changed : c.unsaved_now-self.result ≡ unsaved_after c.args.self.now.unsaved (command_of c.args.self.now.line.items)
    (drop (length c.args.out.now.items) c.obey.new.out.items) (nat_lt (length c.obey.new.self.notes) (length c.args.self.now.dialog.notes)) = search rules in
    obeys_line g.S.SaveFile.saves g.S.SaveFile.gives c.as_slice.result.now c.args.self.now.line.items
    (moment c.args.self.now.dialog c.args.self.now.unsaved c.args.files.now c.args.out.now.items)
    (moment c.obey.new.self c.unsaved_now-self.result c.obey.new.files c.obey.new.out.items) c.in-Ok.quits c.as_slice.ensures.value
    c.in-Ok.ensures.obeyed c.in-Ok.ensures.quits c.in-Ok.ensures.saves c.in-Ok.ensures.saves_notes c.in-Ok.ensures.unsaved changed

pub returns-in-Err-clause-halts : goal.returns-in-Err-clause-halts
returns-in-Err-clause-halts g c =
    halts_line g.S.SaveFile.saves c.as_slice.result.now c.args.self.now.line.items
    (moment c.args.self.now.dialog c.args.self.now.unsaved c.args.files.now c.args.out.now.items) c.obey.new.files c.as_slice.ensures.value
    c.in-Err.ensures.halts_save c.in-Err.ensures.halts_notes c.in-Err.ensures.unsaved
