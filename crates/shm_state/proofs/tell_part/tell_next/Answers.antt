use Rattle.std.proofs.Common.{subst, sym}
use Rattle.std.proofs.lemmas.Result.{on_ok_weaker}
use Rattle.shm_state.proofs.InOrder.{ordered-next}
use Rattle.shm_state.specs.PartOf.{part_in}
use Rattle.shm_state.specs.Stage.{stage_of}
use Rattle.shm_state.specs.Telling.{AreOrdered}
use Rattle.shm_state.proofs.tell_part.tell_next.Goals as goal

pub returns-clause-order : goal.returns-clause-order
returns-clause-order g c =
    let parts = c.args.out.now.items in
    let part = c.args.part in
    on_ok_weaker c.tell.result (λ grown. subst (AreOrdered (stage_of (part_in part))) (sym grown) (ordered-next parts part c.requires.later c.requires.order c.requires.free)) c.tell.ensures.items
