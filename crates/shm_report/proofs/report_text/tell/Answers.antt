-- A caller that lacks the receipt at the place that is next lacks it behind as many as were told.
use Rattle.std.proofs.Common.{◌≡◌, ℕ, List, ap, inl, inr, refl, slice_index, subst, sym}
use Rattle.std.specs.Prelude.{Vec}
use Rattle.shm_logs.specs.declared.site_boxes.receipt.Receipt.{Receipt}
use Rattle.shm_lines.specs.declared.workload_access.WorkloadAccess.{WorkloadAccess}
use Rattle.shm_report.specs.Report.{HasReceipt}
use Rattle.shm_report.proofs.report_text.tell.Goals as goal

lacked : {A : Type 0} (callers : List (Vec Receipt A)) (told_of : List ℕ) (own site place : ℕ) (receipt : Receipt) → own ≡ site
    → place ≡ slice_index told_of own → (HasReceipt callers own place receipt → ⊥) → HasReceipt callers site (slice_index told_of site) receipt → ⊥
lacked callers told_of own site place receipt same known none has =
    none (subst (λ place. HasReceipt callers own place receipt) (sym known)
    (subst (λ site. HasReceipt callers site (slice_index told_of site) receipt) (sym same) has))

pub returns-in_default-receipt_at-clause-why : goal.returns-in_default-receipt_at-clause-why
returns-in_default-receipt_at-clause-why c =
    inr (
      refl,
      inl (λ receipt has.
          lacked c.args.callers.now c.args.told_of.now _ c.args.access.now.site c.in-Some.place receipt
          (ap (λ (a : WorkloadAccess). a.site) c.access.view_is) c.in-Some.ensures.known.1 (c.in_default-receipt_at.ensures.lacks receipt) has),
    )
