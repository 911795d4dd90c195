use Rattle.std.proofs.Common.{rules}
use Rattle.shm_wire.proofs.UnmapWords.{next_run-brings, runs_on}
use Rattle.shm_wire.specs.UnmapOf.{run_in}
use Rattle.shm_wire.proofs.parse_unmap.runs.Goals as goal

pub runs-preserved : goal.runs-preserved
runs-preserved g c = record {
  read =
      runs_on c.args.words c.runs.words c.in-Some.others c.runs.runs.items c.push.new.self.items c.in-Some.run' c.runs.invariant.read (search rules) (search rules);
  brings = λ left. c.runs.invariant.brings (next_run-brings c.runs.words (run_in c.in-Some.run', c.in-Some.others) (search rules));
}
