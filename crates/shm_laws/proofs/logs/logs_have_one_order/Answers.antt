use Rattle.shm_laws.proofs.Log.Order.{one-order}
use Rattle.shm_laws.proofs.logs.logs_have_one_order.Goals as goal

pub returns : goal.returns
returns c = one-order
