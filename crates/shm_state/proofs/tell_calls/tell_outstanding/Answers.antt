use Rattle.std.proofs.Common.{subst, sym}
use Rattle.std.proofs.lemmas.Result.{on_ok_weaker}
use Rattle.shm_state.proofs.InOrder.{outstanding-ordered}
use Rattle.shm_state.specs.Telling.{AreOrdered}
use Rattle.shm_state.specs.declared.told_stage.Stage.TheVariants as stage
use Rattle.shm_state.proofs.tell_calls.tell_outstanding.Goals as goal

pub returns-in-Some-clause-order : goal.returns-in-Some-clause-order
returns-in-Some-clause-order g c =
    on_ok_weaker c.tell.result (λ grown. subst (AreOrdered stage.Outstanding) (sym grown) (outstanding-ordered c.args.out.now.items c.in-Some.number c.in-Some.op c.requires.order))
    c.tell.ensures.items
