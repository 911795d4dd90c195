use Rattle.shm_model.specs.Opening.{opening_of}
use Rattle.shm_debug.specs.Standing.{standing}
use Rattle.shm_debug.proofs.session_back.start_for.Goals as goal

pub returns-in-Some-clause-start : goal.returns-in-Some-clause-start
returns-in-Some-clause-start g c = λ events all. c.in-Some.ensures.taken (standing (opening_of c.args.opening) events) all

pub returns-in-None-clause-start : goal.returns-in-None-clause-start
returns-in-None-clause-start g c = λ events all. c.nearest.ensures events (c.take_moving.ensures.left (standing (opening_of c.args.opening) events) all)
