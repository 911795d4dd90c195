use Rattle.std.proofs.Common.{◌∙◌, ap, slice_set, true, arith}
use Rattle.std.proofs.lemmas.List.{with_items_is}
use Rattle.std.specs.Vec.{with_items}
use Rattle.shm_logs.proofs.Audits.MarkLemmas.{set-mark}
use Rattle.shm_logs.proofs.log_audit.receipt_marks.Marks.add.Goals as goal

pub returns-in-Some : goal.returns-in-Some
returns-in-Some g c =
    set-mark c.args.self.now.rows.items c.site.inside.0 c.args.site c.args.index c.in-Some.row.now (with_items c.in-Some.row.now c.set.new.row) (omega arith)
    c.in-Some.ensures.item.3.0 c.in-Some.ensures.value
    (with_items_is c.in-Some.row.now c.set.new.row (omega (arith, c.set.auto.row, c.as_mut_slice.ensures.len))
    ∙ c.set.ensures ∙ ap (λ row. slice_set row c.args.index true) c.as_mut_slice.ensures.value)
