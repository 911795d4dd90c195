use Rattle.std.proofs.Common.{subst, sym, true, ◌∙◌, true≢false}
use Rattle.shm_model.specs.Basics.{at}
use Rattle.shm_world.specs.Network.{Carries}
use Rattle.shm_world.proofs.network.Network.lose.Goals as goal
use Rattle.shm_world.proofs.network.Network.lose.Goals.{in-Some, in-None}

pub returns-clause-after : goal.returns-clause-after
returns-clause-after g c = λ sent gone had.
    elim c.match-take_out.branch [
      | in-Some w ↦ subst (λ n. Carries n sent (at gone c.args.number true)) (sym w.self-is) (w.sweep.ensures sent (at gone c.args.number true) (c.take_out.ensures.after sent gone had))
      | in-None w ↦ subst (λ n. Carries n sent (at gone c.args.number true)) (sym w.self-is) (c.take_out.ensures.after sent gone had)
    ]

pub returns-clause-missing : goal.returns-clause-missing
returns-clause-missing g c = λ lost sent gone had.
    elim c.match-take_out.branch [
      | in-Some w ↦ absurd (true≢false (sym w.result-is ∙ lost))
      | in-None w ↦ subst (λ n. Carries n sent gone) (sym w.self-is) (w.in-None.ensures.missing sent gone had)
    ]
