use Rattle.std.proofs.lemmas.Result.{on_ok_weaker}
use Rattle.shm_process.specs.DeskOf.{desk_of}
use Rattle.shm_process.specs.NodeOf.{again_of, node_of}
use Rattle.shm_process.proofs.FurtherRounds.{one_made}
use Rattle.shm_process.proofs.desk.Desk.make_one.Goals as goal

pub returns : goal.returns
returns g c =
    on_ok_weaker c.push_again.result
    (one_made (desk_of c.args.self.now) c.args.at c.requires.first (desk_of c.push_again.new.self) (node_of c.make_at.new.self) (again_of c.in_ok-again.again)
    c.in_ok-again.ensures.after c.in_ok-again.ensures.said) c.push_again.ensures
