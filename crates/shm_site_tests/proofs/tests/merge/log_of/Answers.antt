use Rattle.std.proofs.Common.{List, subst, sym}
use Rattle.std.specs.List.{All}
use Rattle.shm_logs.specs.Boxes.SiteLog.{steps_of}
use Rattle.shm_logs.specs.declared.site_boxes.site_log.SiteLog.{SiteLog}
use Rattle.shm_model.specs.Log.{Logged, Matches}
use Rattle.shm_logs.specs.Auditing.Logs.{StampsRise}
use Rattle.shm_site_tests.proofs.tests.merge.log_of.Goals as goal

pub returns-clause-rises : goal.returns-clause-rises
returns-clause-rises g c = subst (λ (log : SiteLog g.row.A.Denot). StampsRise (steps_of log)) (sym c.into_log.ensures) c.given.invariant.rises

pub returns-clause-matches : goal.returns-clause-matches
returns-clause-matches g c =
    subst (λ (log : SiteLog g.row.A.Denot). All (λ k. (logs : List (List Logged)) → Matches logs k k.input) (steps_of log)) (sym c.into_log.ensures) c.given.invariant.matches
