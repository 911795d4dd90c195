use Rattle.shm_model.specs.World.{Preset}
use Rattle.shm_simulate.proofs.play_one_run.play.Goals as goal

pub returns-clause-follows : goal.returns-clause-follows
returns-clause-follows c =
    c.in_ok-go_on.ensures.follows (Preset c.args.sites c.args.pages) c.args.accesses.now (c.in_ok-partial.ensures.follows c.args.odds)
