use Rattle.std.proofs.Common.{refl}
use Rattle.shm_logs.specs.Boxes.Logged.{logged_of}
use Rattle.shm_logs.specs.Boxes.SiteLog.{steps_of}
use Rattle.shm_logs.proofs.Audits.Names.{step-read}
use Rattle.shm_logs.proofs.log_audit.merge_logs.first.Goals as goal

pub returns-clause-step : goal.returns-clause-step
returns-clause-step g c =
    let look = c.in_ok-step.ensures.lookup in
    record {
      step = logged_of c.in_ok-step.step.now;
      there = step-read c.steps.result.now (steps_of c.args.log.now) c.args.index c.in_ok-step.step.now c.steps.ensures.steps look.3.0 look.1;
      of_site = refl;
      at = refl;
      stamped = refl;
    }
