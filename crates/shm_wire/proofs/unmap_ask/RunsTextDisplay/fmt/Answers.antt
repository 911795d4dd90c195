use Rattle.std.proofs.Common.{rules}
use Rattle.std.proofs.Output.{has_written_append, has_written_of_eq}
use Rattle.shm_wire.proofs.UnmapTexts.{runs_more}
use Rattle.shm_wire.proofs.unmap_ask.RunsTextDisplay.fmt.Goals as goal

pub runs-preserved : goal.runs-preserved
runs-preserved g c = λ p.
    has_written_of_eq _ _ _ _ _ (runs_more c.args.self.now.runs.now c.runs.run-index c.run-item.result _ c.runs-test.true c.run-item.is)
    (has_written_append _ _ _ _ _ _ (c.runs.invariant p) (search rules))
