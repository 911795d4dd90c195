use Rattle.shm_stepped.proofs.Waits.{chose-access}
use Rattle.shm_stepped.proofs.waiting_access.Wait.choose.Goals as goal

pub returns-then-self : goal.returns-then-self
returns-then-self g c = λ w stands. chose-access w c.args.self.now c.event_of.result c.event_of.ensures c.if-self.true
