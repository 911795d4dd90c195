use Rattle.shm_logs.specs.Auditing.Logs.{logs_of}
use Rattle.shm_logs.proofs.Audits.SoundLemmas.{sound-match, sound-rise}
use Rattle.shm_logs.proofs.log_audit.audit_logs.merge_events.Goals as goal

pub merge-requires-clause-rise : goal.merge-requires-clause-rise
merge-requires-clause-rise g c = sound-rise (logs_of c.args.logs.now) c.requires.sound

pub events-requires-clause-matching : goal.events-requires-clause-matching
events-requires-clause-matching g c = sound-match (logs_of c.args.logs.now) c.requires.sound
