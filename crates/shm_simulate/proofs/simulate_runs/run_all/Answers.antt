use Rattle.std.proofs.Common.{◌≡◌, ◌∙◌, ◌+◌, ◌++◌, ◌∷◌, [], ap, length-append}
use Rattle.shm_model.specs.World.{Preset}
use Rattle.shm_simulate.proofs.simulate_runs.run_all.Goals as goal

pub runs-preserved : goal.runs-preserved
runs-preserved c = record {
  told = λ none.
      let before = c.runs.invariant.told none in
      record {
        schedules = before.schedules ++ c.in_ok-partial.partial.events.items ∷ [];
        count = length-append before.schedules (c.in_ok-partial.partial.events.items ∷ []) ∙ ap (λ n. n + 1) before.count;
        tells = c.in_ok-add_run.ensures.told (Preset c.args.sites c.args.pages) c.args.accesses.now c.args.odds before.schedules
            c.in_ok-partial.ensures.follows c.in_ok-partial.ensures.ended before.count before.tells;
      };
  measures = c.in_ok-add_run.ensures.measures ∙ c.runs.invariant.measures;
  runs = c.in_ok-add_run.ensures.runs ∙ c.runs.invariant.runs;
  seed = c.in_ok-add_run.ensures.seed ∙ c.runs.invariant.seed;
}
