use Rattle.std.proofs.Common.{ℕ, ◌<◌, slice_index_or}
use Rattle.shm_logs.specs.declared.site_boxes.site_log.SiteLog.{SiteLog}
use Rattle.shm_logs.specs.Auditing.Logs.{IsLogOf}
use Rattle.shm_logs.proofs.log_audit.check_same_sites.in_place.Given as goal

abbrev pub invariant-logs : goal.invariant-logs
invariant-logs g l = (s : ℕ) (default : SiteLog g.row.A.Denot) → s < l.index → IsLogOf l.sites l.pages s (slice_index_or l.logs s default)
