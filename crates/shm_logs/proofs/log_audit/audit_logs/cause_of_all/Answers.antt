use Rattle.std.proofs.Common.{refl}
use Rattle.shm_logs.specs.Auditing.Logs.{logs_of}
use Rattle.shm_logs.specs.Auditing.Callers.{callers_of}
use Rattle.shm_logs.specs.Auditing.Marks.{marks_of}
use Rattle.shm_logs.proofs.Audits.CompleteLemmas.{either-of-all, told-named, untold-if}
use Rattle.shm_logs.proofs.log_audit.audit_logs.cause_of_all.Goals as goal

pub returns-in-Ok-clause-sound : goal.returns-in-Ok-clause-sound
returns-in-Ok-clause-sound g c = λ ok. c.in-Ok.ensures.sound refl

pub returns-in-Ok-clause-told : goal.returns-in-Ok-clause-told
returns-in-Ok-clause-told g c = λ ok. told-named (logs_of c.args.logs.now) (callers_of c.args.callers.now) (marks_of c.in-Ok.marks) c.in-Ok.ensures.named (c.check_all_told.ensures.told ok)

pub returns-in-Ok-clause-fault : goal.returns-in-Ok-clause-fault
returns-in-Ok-clause-fault g c =
    untold-if (logs_of c.args.logs.now) (callers_of c.args.callers.now) (marks_of c.in-Ok.marks) c.check_all_told.result c.in-Ok.ensures.named
    (c.in-Ok.ensures.sound refl) (c.in-Ok.ensures.held refl) c.check_all_told.ensures.untold

pub returns-in-Err-clause-fault : goal.returns-in-Err-clause-fault
returns-in-Err-clause-fault g c = either-of-all (logs_of c.args.logs.now) (callers_of c.args.callers.now) c.in-Err.fault c.in-Err.ensures.fault
