use Rattle.std.proofs.Common.{subst, sym}
use Rattle.shm_batches.specs.Extent.{IsExtentKnown, MeasuredNext}
use Rattle.shm_batches.proofs.front.measure.Goals as goal

pub returns-in-Ok-Ended : goal.returns-in-Ok-Ended
returns-in-Ok-Ended g c =
    let before = g.B.Read.remaining c.args.reader.now in
    subst (IsExtentKnown before) (sym c.extent.ensures)
    (
    subst (λ next. MeasuredNext next c.take_line.new.front before (g.B.Read.remaining c.take_line.new.reader)) c.in-Ok-Ended.field-0-is
    (c.in-Ok-Ended.ensures before c.lines.invariant.0)
    )

pub returns-in-Ok-Broken : goal.returns-in-Ok-Broken
returns-in-Ok-Broken g c =
    let before = g.B.Read.remaining c.args.reader.now in
    c.look_behind.ensures before
    (
    subst (λ next. MeasuredNext next c.take_line.new.front before (g.B.Read.remaining c.take_line.new.reader)) c.in-Ok-Broken.field-0-is
    (c.in-Ok-Broken.ensures before c.lines.invariant.0)
    )

pub lines-preserved : goal.lines-preserved
lines-preserved g c =
    let before = g.B.Read.remaining c.args.reader.now in
    subst (λ next. MeasuredNext next c.take_line.new.front before (g.B.Read.remaining c.take_line.new.reader)) c.in-Ok-GoesOn.field-0-is
    (c.in-Ok-GoesOn.ensures before c.lines.invariant.0)
