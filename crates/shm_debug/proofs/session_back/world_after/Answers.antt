use Rattle.shm_model.specs.Opening.{opening_of}
use Rattle.shm_debug.specs.Standing.{standing}
use Rattle.shm_debug.proofs.session_back.world_after.Goals as goal

pub returns-in_err-count-clause-kept : goal.returns-in_err-count-clause-kept
returns-in_err-count-clause-kept g c =
    c.start_for.ensures.left (standing (opening_of c.args.opening) c.args.events.now) c.requires.checkpoints

pub returns-in_err-run_on-clause-kept : goal.returns-in_err-run_on-clause-kept
returns-in_err-run_on-clause-kept g c =
    let o = opening_of c.args.opening in
    c.run_on.ensures.kept o (c.in_ok-count.ensures.start c.args.events.now c.requires.checkpoints).stands
    (c.start_for.ensures.left (standing o c.args.events.now) c.requires.checkpoints)

pub returns-clause-kept : goal.returns-clause-kept
returns-clause-kept g c =
    let o = opening_of c.args.opening in
    c.run_on.ensures.kept o (c.in_ok-count.ensures.start c.args.events.now c.requires.checkpoints).stands
    (c.start_for.ensures.left (standing o c.args.events.now) c.requires.checkpoints)
