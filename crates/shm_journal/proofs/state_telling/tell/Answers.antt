use Rattle.std.proofs.Common.{sym, subst}
use Rattle.std.specs.Prelude.{IfOk}
use Rattle.shm_journal.specs.StageOf.{IsTold}
use Rattle.shm_journal.specs.Stages.{tells}
use Rattle.shm_journal.specs.StateOf.{state_line_in}
use Rattle.shm_journal.specs.declared.state_line.StateLine.{StateLine}
use Rattle.shm_journal.proofs.state_telling.tell.Goals as goal

pub returns-in-Part : goal.returns-in-Part
returns-in-Part g c = λ t h.
    subst (λ (line : StateLine g.row.A.Denot). IfOk c.tell_part.result (λ onward. IsTold onward (tells t (state_line_in line)))) (sym c.in-Part.is) (c.tell_part.ensures t h)

pub returns-in-Mapping : goal.returns-in-Mapping
returns-in-Mapping g c = λ t h.
    subst (λ (line : StateLine g.row.A.Denot). IfOk c.tell_mapping.result (λ onward. IsTold onward (tells t (state_line_in line)))) (sym c.in-Mapping.is)
    (c.tell_mapping.ensures t h)

pub returns-in-Ending : goal.returns-in-Ending
returns-in-Ending g c = λ t h.
    subst (λ (line : StateLine g.row.A.Denot). IsTold c.resume.result (tells t (state_line_in line))) (sym c.in-Ending.is) (c.resume.ensures t h)
