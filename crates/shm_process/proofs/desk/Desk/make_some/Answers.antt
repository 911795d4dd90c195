use Rattle.shm_process.specs.DeskOf.{desk_of}
use Rattle.shm_process.proofs.FurtherRounds.{rounds_are}
use Rattle.shm_process.proofs.desk.Desk.make_some.Goals as goal

pub returns-clause-made : goal.returns-clause-made
returns-clause-made g c =
    rounds_are c.in_ok-made.made c.args.left (desk_of c.args.self.now) (desk_of c.make_further.new.self) c.in_ok-made.ensures.few c.in_ok-made.ensures.made
