use Rattle.std.proofs.Common.{◌∙◌, ap}
use Rattle.shm_model.specs.Book.{is_waiting}
use Rattle.shm_manager.proofs.Queues.{among-waiting}
use Rattle.shm_manager.proofs.request_queue.Queue.contains.Goals as goal

pub returns : goal.returns
returns g c =
    c.is_among.ensures
    ∙ among-waiting c.args.from c.args.request c.self.inside.ring.items
    ∙ ap (is_waiting c.args.from c.args.request) c.self.view_is
