use Rattle.std.proofs.Common.{ℕ, arith}
use Rattle.std.proofs.lemmas.List.{length-map}
use borrow.Author.Count.{below_more}
use Rattle.shm_logs.specs.Boxes.SiteLog.{steps_of}
use Rattle.shm_logs.specs.Auditing.Complete.{IsToldAt}
use Rattle.shm_logs.specs.Auditing.Marks.{mark_at, marks_of}
use Rattle.shm_logs.specs.Auditing.Logs.{logs_of}
use Rattle.shm_logs.proofs.Audits.CompleteLemmas.{needs-below}
use Rattle.shm_logs.proofs.log_audit.steps_without_receipt.first_untold.Goals as goal

pub sites-preserved : goal.sites-preserved
sites-preserved g c = λ s i b.
    below_more (λ t. (j : ℕ) → IsToldAt (logs_of c.args.logs.now) (mark_at (marks_of c.args.marks.now)) t j) c.sites.number (λ t d j. c.sites.invariant t j d)
    c.in_default.ensures.told s b i

pub returns-clause-told : goal.returns-clause-told
returns-clause-told g c = λ s i needs.
    let b = needs-below (logs_of c.args.logs.now) s i needs in
    c.sites.invariant s i (omega (arith, length-map c.args.logs.now steps_of)) needs
