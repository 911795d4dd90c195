use Rattle.std.proofs.Common.{string_bytes}
use Rattle.shm_process.specs.Cause.{OfRestart}
use Rattle.shm_process.specs.CountsOf.{counts_of}
use Rattle.shm_process.specs.DeskOf.{desk_of}
use Rattle.shm_process.specs.NodeOf.{said_of}
use Rattle.shm_process.proofs.Pushed.{told_so}
use Rattle.shm_process.proofs.desk.Desk.push_told.Goals as goal

pub returns : goal.returns
returns g c = λ cause from.
    told_so (desk_of c.args.self.now) (said_of cause c.args.said.now) OfRestart (string_bytes c.push_text.new.told) (counts_of c.with_step-self.result) c.count_sent.result
    from c.count_sent.ensures c.with_step-self.ensures c.in_ok-push_text.ensures
