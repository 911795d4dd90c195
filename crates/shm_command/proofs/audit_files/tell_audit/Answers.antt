use Rattle.std.proofs.Common.{ℕ, List, Ok, Err, length}
use Rattle.std.specs.Prelude.{OnOk, Option, Result}
use Rattle.std.specs.Io.KnownBytes.{Appends}
use Rattle.std.specs.declared.alloc.Global.{Global}
use Rattle.shm_audit.specs.declared.totals.Totals.{Totals}
use Rattle.shm_logs.specs.declared.site_boxes.site_log.SiteLog.{SiteLog}
use Rattle.shm_command.specs.Audited.{IsOfSites, TellsAudit, audit_text}
use Rattle.shm_command.proofs.NotAccepted.{unread_cause, unread_causes}
use Rattle.shm_command.proofs.audit_files.tell_audit.Goals as goal

tells : {A B : Type 0} (r : Result A B) (sites : ℕ) (old new : Option (List ℕ)) (logs : List (SiteLog Global)) (counts : Totals) → IsOfSites sites logs counts
    → OnOk r (Appends old new (audit_text counts)) → OnOk r (TellsAudit sites old new)
tells (Ok x) sites old new logs counts a t = record { logs = logs; counts = counts; accepted = a; told = t }
tells (Err e) sites old new logs counts a t = tt

pub returns-in-Ok-judge-clause-audited : goal.returns-in-Ok-judge-clause-audited
returns-in-Ok-judge-clause-audited g c =
    tells c.tell_counts.result c.args.sites (g.O.Write.contents c.args.out.now) (g.O.Write.contents c.tell_counts.new.out) _ c.in-Ok-judge.counts
    c.in-Ok-judge.ensures.accepted c.tell_counts.ensures.told

pub returns-in-Ok-judge-clause-why : goal.returns-in-Ok-judge-clause-why
returns-in-Ok-judge-clause-why g c = unread_causes c.tell_counts.result (length c.args.journals.now) c.args.sites c.tell_counts.ensures.untold

pub returns-in-Err-clause-why : goal.returns-in-Err-clause-why
returns-in-Err-clause-why g c = unread_cause (length c.args.journals.now) c.args.sites c.in-Err.fault c.in-Err.ensures.unread
