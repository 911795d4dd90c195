use Rattle.std.proofs.Common.{rules, codes, ◌≢◌, [], map, inl, inr, subst, sym}
use Rattle.shm_journal.specs.Acts.{Did}
use Rattle.shm_command.specs.Around.{streams}
use Rattle.shm_command.specs.Status.{Asks}
use Rattle.shm_command.proofs.Asked.{asked_audit, asked_simulation, audit_asked, one_of_asked}
use Rattle.shm_command.proofs.Plain.{plain_words}
use Rattle.shm_command.proofs.Streaming.{did_nothing}
use Rattle.shm_command.proofs.dispatch_command.run_words.Goals as goal

pub carry_out-requires-clause-among : goal.carry_out-requires-clause-among
carry_out-requires-clause-among g c κs outlive = one_of_asked (map g.S.AsStr.text c.args.words.now) c.in-Ok.task c.in-Ok.ensures.among c.in-Ok.ensures.task

pub returns-in-Ok-clause-done : goal.returns-in-Ok-clause-done
returns-in-Ok-clause-done g c takes = inl (c.in-Ok.task, c.in-Ok.ensures.task, c.carry_out.ensures.done)

pub returns-in-Ok-clause-audit : goal.returns-in-Ok-clause-audit
returns-in-Ok-clause-audit g c four =
    audit_asked (map g.S.AsStr.text c.args.words.now) c.in-Ok.task c.in-Ok.ensures.fault c.in-Ok.ensures.task (c.carry_out.ensures.audit four)

pub returns-in-Ok-clause-quiet : goal.returns-in-Ok-clause-quiet
returns-in-Ok-clause-quiet g c asks =
    c.carry_out.ensures.quiet (asked_audit (map g.S.AsStr.text c.args.words.now) c.in-Ok.task c.in-Ok.ensures.task asks)

pub returns-in-Ok-clause-unsimulated : goal.returns-in-Ok-clause-unsimulated
returns-in-Ok-clause-unsimulated g c asks =
    c.carry_out.ensures.unsimulated (asked_simulation (map g.S.AsStr.text c.args.words.now) c.in-Ok.task c.in-Ok.ensures.task asks)

pub returns-in-Err-clause-plain : goal.returns-in-Err-clause-plain
returns-in-Err-clause-plain g c name e =
    let asks : Asks (codes "replay") (map g.S.AsStr.text c.args.words.now) = subst (Asks (codes "replay")) (sym e) (plain_words name) in
    search rules

pub returns-in-Err-clause-done : goal.returns-in-Err-clause-done
returns-in-Err-clause-done g c takes =
    let taken : c.refused_words.result ≢ 2 = search rules in
    let around = streams (g.I.Read.remaining c.args.reader.now) (g.O.Write.contents c.args.out.now) in
    let nothing : Did around around [] = did_nothing (g.I.Read.remaining c.args.reader.now) (g.O.Write.contents c.args.out.now) in
    elim c.refused_words.ensures.status [
      | inl h ↦ inr (h.1, nothing)
      | inr h ↦ absurd (taken h.1)
    ]
