use Rattle.std.proofs.Common.{refl}
use Rattle.shm_logs.specs.Auditing.Logs.{logs_of}
use Rattle.shm_model.specs.World.{Preset}
use Rattle.shm_logs.specs.Auditing.Callers.{callers_of}
use Rattle.shm_logs.proofs.Audits.AuditLemmas.{audited-with}
use Rattle.shm_logs.proofs.log_audit.audit_logs.audit.Goals as goal

pub order_events-requires-clause-sound : goal.order_events-requires-clause-sound
order_events-requires-clause-sound g c = c.in_default.ensures.sound refl

pub returns-clause-sound : goal.returns-clause-sound
returns-clause-sound g c =
    audited-with (Preset c.args.sites c.args.pages) (logs_of c.args.logs.now) (callers_of c.args.callers.now) c.order_events.result c.order_events.ensures.sound (c.in_default.ensures.held refl)
