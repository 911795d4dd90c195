use Rattle.std.proofs.Common.{◌≤◌, arith, ◌∙◌, ap, sym, subst, refl, [], ◌+◌, length, slice_get, slice_set, take, Some, None}
use Rattle.std.proofs.lemmas.List.{append-nil, length-map, length-set}
use Rattle.shm_logs.specs.Boxes.Receipt.{receipt_of}
use Rattle.shm_logs.specs.Boxes.SiteLog.{steps_of}
use Rattle.shm_model.specs.Receipt.{of_all}
use Rattle.shm_logs.specs.Auditing.Cause.{receipts_to}
use Rattle.shm_logs.specs.Auditing.Callers.{callers_of, receipts_of}
use Rattle.shm_logs.specs.Auditing.Logs.{logs_of}
use Rattle.shm_logs.specs.Auditing.Marks.{marks_of, next_of, AreLast, MarksName}
use Rattle.shm_logs.proofs.Audits.NextLemmas.{forged-so, held-so, last-so, map-read, named-so, same-at}
use Rattle.shm_logs.proofs.Audits.ReceiptLemmas.{holds-begun, of-all-own}
use Rattle.shm_logs.proofs.log_audit.check_receipts.forged_of.Goals as goal

pub receipts-init : goal.receipts-init
receipts-init g c =
    let logs = logs_of c.args.logs.now in
    let front = take c.args.caller (callers_of c.args.callers.now) in
    record {
      held = holds-begun logs front c.requires.held;
      named = subst (MarksName logs (marks_of c.args.marks.now)) (sym (of-all-own front [] ∙ append-nil (of_all front))) c.requires.marks;
      last = λ s b. ap next_of (same-at 16 s None);
      sites = refl;
    }

pub returns-then-not-is_next-clause-forged : goal.returns-then-not-is_next-clause-forged
returns-then-not-is_next-clause-forged g c =
    let few : length (logs_of c.args.logs.now) ≤ 16 = omega (arith, length-map c.args.logs.now steps_of) in
    let cs = callers_of c.args.callers.now in
    let i = c.receipts.receipt-index in
    let found = ap (λ rs. slice_get rs i) c.requires.receipts ∙ map-read receipt_of c.args.receipts.now i c.receipt-item.result c.receipts-test.true c.receipt-item.is in
    let lasts = subst (λ rs. AreLast c.receipts.last (take i rs)) (sym c.requires.receipts) c.receipts.invariant.last in
    forged-so (logs_of c.args.logs.now) cs c.args.caller i (marks_of c.receipts.marks) c.receipts.last (receipt_of c.receipt-item.result)
    few found c.receipts.invariant.held c.receipts.invariant.named lasts c.site.result c.index.result (sym c.site.ensures) (sym c.index.ensures)
    (λ n. let yes = c.is_next.ensures.1 n in let no = c.if-not-is_next.true in cc)

pub receipts-preserved : goal.receipts-preserved
receipts-preserved g c =
    let few : length (logs_of c.args.logs.now) ≤ 16 = omega (arith, length-map c.args.logs.now steps_of) in
    let logs = logs_of c.args.logs.now in
    let cs = callers_of c.args.callers.now in
    let i = c.receipts.receipt-index in
    let r = receipt_of c.receipt-item.result in
    let marks = marks_of c.receipts.marks in
    let found = ap (λ rs. slice_get rs i) c.requires.receipts ∙ map-read receipt_of c.args.receipts.now i c.receipt-item.result c.receipts-test.true c.receipt-item.is in
    let lasts = subst (λ rs. AreLast c.receipts.last (take i rs)) (sym c.requires.receipts) c.receipts.invariant.last in
    let n = c.is_next.ensures.0 c.if-not-is_next.false in
    record {
      held = held-so logs cs c.args.caller i marks c.receipts.last r few found c.receipts.invariant.held c.receipts.invariant.named lasts n;
      named = subst (λ ms. MarksName logs ms (of_all (receipts_to cs c.args.caller (i + 1)))) (sym c.note.ensures.marks)
          (named-so logs cs c.args.caller i marks c.receipts.last r few found c.receipts.invariant.held c.receipts.invariant.named lasts n);
      last = subst (λ ls. AreLast ls (take (i + 1) (receipts_of c.args.receipts.now))) (sym c.note.ensures.last)
          (subst (λ rs. AreLast (slice_set c.receipts.last r.site (Some r.index)) (take (i + 1) rs)) c.requires.receipts
          (last-so logs cs c.args.caller i marks c.receipts.last r few found c.receipts.invariant.held c.receipts.invariant.named lasts n c.receipts.invariant.sites));
      sites = ap length c.note.ensures.last ∙ length-set c.receipts.last r.site (Some r.index) ∙ c.receipts.invariant.sites;
    }
