use Rattle.std.proofs.Common.{◌≡◌, ◌∙◌, ap, sym, Some, slice_get}
use Rattle.shm_logs.specs.Boxes.Logged.{logged_of}
use Rattle.shm_logs.specs.Boxes.Receipt.{receipt_of}
use Rattle.shm_model.specs.Log.{log_of}
use Rattle.shm_model.specs.Receipt.{access}
use Rattle.shm_logs.specs.Auditing.Logs.{logs_of}
use Rattle.shm_logs.proofs.Audits.ReceiptLemmas.{answered-so}
use Rattle.shm_logs.proofs.log_audit.check_receipts.tells.Goals as goal

pub returns-then-same_access : goal.returns-then-same_access
returns-then-same_access g c =
    let logs = logs_of c.args.logs.now in
    let r = receipt_of c.args.receipt.now in
    let l = logged_of c.in-Some.step.now in
    let named : slice_get (log_of logs r.site) r.index ≡ Some l =
    ap (λ s. slice_get (log_of logs s) r.index) (sym c.site.ensures) ∙ ap (λ i. slice_get (log_of logs c.site.result) i) (sym c.index.ensures)
    ∙ sym c.in-Some.ensures in
    let asked : access l.input ≡ r.asked = sym c.access.ensures ∙ c.same_access.ensures.0 c.if-same_access.true ∙ c.asked_access.ensures in (
      λ h. record { step = l; named = named; asked = asked; answered = c.same_answer.ensures.same h ∙ c.answer.ensures },
      λ h. c.same_answer.ensures.other (answered-so logs r l named h ∙ sym c.answer.ensures),
    )
