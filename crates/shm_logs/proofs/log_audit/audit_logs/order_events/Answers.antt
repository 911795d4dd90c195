use Rattle.std.proofs.Common.{arith}
use Rattle.shm_logs.specs.Auditing.Logs.{logs_of}
use Rattle.shm_model.specs.World.{Preset}
use Rattle.shm_logs.proofs.Audits.AuditLemmas.{audited-if, opens}
use Rattle.shm_logs.proofs.Audits.SoundLemmas.{sound-match}
use Rattle.shm_logs.proofs.log_audit.audit_logs.order_events.Goals as goal

pub returns-clause-sound : goal.returns-clause-sound
returns-clause-sound g c =
    let o = Preset c.args.sites c.args.pages in
    let logs = logs_of c.args.logs.now in
    let opening = opens c.args.sites c.args.pages c.args.logs.now c.requires.logs (omega arith) (omega arith) in
    audited-if o logs c.in_memory.result c.merge_events.result c.in_memory.ensures.ok c.merge_events.ensures c.requires.sound
    (λ order merged. c.merged_logs_are_a_run.ensures o logs order c.matching_logs_fit.ensures (sound-match logs c.requires.sound) merged)
    (λ events. c.every_run_is_legal_and_coherent.ensures.legal o events opening)
    (λ events. c.every_run_is_legal_and_coherent.ensures.coherent o events opening)
