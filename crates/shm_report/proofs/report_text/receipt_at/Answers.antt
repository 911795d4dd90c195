-- The caller was found, and its receipt; or there is none.
use Rattle.std.proofs.Common.{◌≡◌, ◌∙◌, ◌<◌, ◌≤◌, ℕ, List, Some, ap, arith, length, refl, slice_get, sym}
use Rattle.std.specs.Prelude.{Vec}
use Rattle.std.proofs.lemmas.Option.{slice_get_read, slice_get_within}
use Rattle.shm_logs.specs.declared.site_boxes.receipt.Receipt.{Receipt}
use Rattle.shm_report.specs.Report.{HasReceipt}
use Rattle.shm_report.proofs.Found.{same_some}
use Rattle.shm_report.proofs.report_text.receipt_at.Goals as goal

no_caller : {A : Type 0} (callers : List (Vec Receipt A)) (site place : ℕ) (receipt : Receipt) → length callers ≤ site
    → HasReceipt callers site place receipt → ⊥
no_caller callers site place receipt out has =
    let below : site < length callers = slice_get_within callers site has.caller has.own in
    omega arith

no_receipt : {A : Type 0} (callers : List (Vec Receipt A)) (site place : ℕ) (caller : Vec Receipt A) (receipts : List Receipt) (receipt : Receipt)
    → slice_get callers site ≡ Some caller → receipts ≡ caller.items → length receipts ≤ place
    → HasReceipt callers site place receipt → ⊥
no_receipt {A} callers site place caller receipts receipt own all out has =
    let same : caller ≡ has.caller = same_some caller has.caller (sym own ∙ has.own) in
    let there : slice_get receipts place ≡ Some receipt =
    ap (λ all. slice_get all place) all ∙ ap (λ (c : Vec Receipt A). slice_get c.items place) same ∙ has.there in
    let below : place < length receipts = slice_get_within receipts place receipt there in
    omega arith

pub returns-in-Some-get-clause-has : goal.returns-in-Some-get-clause-has
returns-in-Some-get-clause-has c =
    let callers = c.args.callers.now in
    let caller = c.in-Some.caller.now in
    let found = c.in-Some.ensures.lookup in
    let told = c.in-Some-get.ensures.lookup in
    let receipts = c.deref.result.now in record {
      caller = caller;
      own = slice_get_read callers (length callers) c.args.site caller refl found.3.0 found.1;
      there = ap (λ all. slice_get all c.args.place) (sym c.deref.ensures.value)
          ∙ slice_get_read receipts (length receipts) c.args.place c.in-Some-get.receipt.now refl told.3.0 told.1;
    }

pub returns-in-None-clause-lacks : goal.returns-in-None-clause-lacks
returns-in-None-clause-lacks c receipt has =
    no_caller c.args.callers.now c.args.site c.args.place receipt c.in-None.ensures.lookup.3 has

pub returns-in-None-get-clause-lacks : goal.returns-in-None-get-clause-lacks
returns-in-None-get-clause-lacks c receipt has =
    let callers = c.args.callers.now in
    let caller = c.in-Some.caller.now in
    let found = c.in-Some.ensures.lookup in
    no_receipt callers c.args.site c.args.place caller c.deref.result.now receipt
    (slice_get_read callers (length callers) c.args.site caller refl found.3.0 found.1) c.deref.ensures.value c.in-None-get.ensures.lookup.3 has
