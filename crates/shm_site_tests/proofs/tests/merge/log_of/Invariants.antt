use Rattle.std.proofs.Common.{◌≤◌, List}
use Rattle.std.specs.List.{All}
use Rattle.shm_logs.specs.Boxes.SiteLog.{steps_of}
use Rattle.shm_model.specs.Log.{Logged, Matches}
use Rattle.shm_logs.specs.Auditing.Logs.{StampsRise}
use Rattle.shm_site_tests.proofs.tests.merge.log_of.Given as goal

abbrev pub invariant-given : goal.invariant-given
invariant-given g l = record {
  rises : StampsRise (steps_of l.site.log);
  below : All (λ k. k.stamp ≤ l.site.clock) (steps_of l.site.log);
  matches : All (λ k. (logs : List (List Logged)) → Matches logs k k.input) (steps_of l.site.log);
}
