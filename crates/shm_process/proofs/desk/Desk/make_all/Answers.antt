use Rattle.std.proofs.Common.{◌∙◌, arith, sym}
use Rattle.shm_process.specs.Desk.{all_made}
use Rattle.shm_process.specs.DeskOf.{desk_of}
use Rattle.shm_process.specs.Waiting.{most_steps}
use Rattle.shm_process.proofs.DeskLemmas.{rounds_over}
use Rattle.shm_process.proofs.FurtherRounds.{none_whole}
use Rattle.shm_process.proofs.desk.Desk.make_all.Goals as goal

pub asks-preserved : goal.asks-preserved
asks-preserved g c = c.in_ok-left.ensures.made ∙ c.asks.invariant

pub returns-in_default : goal.returns-in_default
returns-in_default g c =
    none_whole c.asks.left (desk_of c.asks.self) (all_made most_steps (desk_of c.args.self.now)) (sym c.ready.ensures.ready ∙ c.in_default.is) c.asks.invariant

pub returns : goal.returns
returns g c = rounds_over c.asks.left (desk_of c.asks.self) (all_made most_steps (desk_of c.args.self.now)) (omega (arith, c.asks-test.false)) c.asks.invariant
