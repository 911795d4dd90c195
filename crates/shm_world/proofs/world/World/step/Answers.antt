use Rattle.std.proofs.lemmas.Result.{IfOk-weaker}
use Rattle.shm_model.specs.World as model
use Rattle.shm_world.proofs.Loads.{led}
use Rattle.shm_world.proofs.world.World.step.Goals as goal

pub returns-clause-headline : goal.returns-clause-headline
returns-clause-headline g c = λ o before stands.
    IfOk-weaker c.apply.result _ _
    (λ answer went. led c.every_run_keeps_the_promise.ensures c.apply.new.self o before c.args.event answer went)
    (c.apply.ensures.next (model.run o before).world stands)
