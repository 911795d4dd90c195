use Rattle.std.proofs.Common.{ℕ, sym, ◌∙◌, arith}
use Rattle.std.proofs.lemmas.List.{length-map}
use Rattle.shm_logs.specs.Boxes.SiteLog.{steps_of}
use borrow.Author.Count.{below_more}
use Rattle.shm_logs.specs.Auditing.Cause.{SoundAt}
use Rattle.shm_logs.specs.Auditing.Logs.{logs_of}
use Rattle.shm_logs.proofs.Audits.Lookups.{if-none, site-below}
use Rattle.shm_logs.proofs.log_audit.first_wrong_step.first_fault.Goals as goal

pub sites-preserved : goal.sites-preserved
sites-preserved g c = λ s i b.
    below_more (λ t. (j : ℕ) → SoundAt (logs_of c.args.logs.now) t j) c.sites.site (λ t d j. c.sites.invariant t j d)
    (if-none c.fault_at_site-fault.result _ (sym c.is_some.ensures ∙ c.if-is_some.false) c.fault_at_site-fault.ensures.none) s b i

pub returns : goal.returns
returns g c = λ s i l e.
    let b = site-below (logs_of c.args.logs.now) s i l e in
    c.sites.invariant s i (omega (arith, length-map c.args.logs.now steps_of)) l e
