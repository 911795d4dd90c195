use Rattle.std.proofs.Common.{ap, sym, subst, ◌∙◌}
use Rattle.shm_process.specs.NodeOf.{node_of}
use Rattle.shm_journal.specs.StageOf.{IsOnward, stage_telling}
use Rattle.shm_journal.specs.declared.state_telling.Onward.{Onward}
use Rattle.shm_journal.proofs.journal_reading.Reading.go_on.Goals as goal

pub returns-in-Further : goal.returns-in-Further
returns-in-Further g c = λ stage h.
    let goes = subst (λ (onward : Onward g.row.A.Denot). IsOnward onward stage) c.in-Further.is h in
    (goes.0, goes.1, goes.2 ∙ ap (λ within. stage_telling (node_of c.args.self.now.node) within goes.0) (sym c.requires.inside))
