use Rattle.std.proofs.Common.{◌∙◌, ◌+◌, ap}
use Rattle.shm_simulate.proofs.play_one_run.go_on.Goals as goal

pub events-preserved : goal.events-preserved
events-preserved c = record {
  follows = λ o accesses had. c.in_ok-happen.ensures.follows o accesses c.args.odds c.choose-choice.ensures (c.events.invariant.follows o accesses had);
  lines = c.in_ok-happen.ensures.lines ∙ c.events.invariant.lines;
  count = c.in_ok-happen.ensures.one ∙ ap (λ n. n + 1) c.events.invariant.count;
}
