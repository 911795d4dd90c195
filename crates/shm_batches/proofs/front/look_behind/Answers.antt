use Rattle.std.proofs.Common.{◌∙◌, ap₂, subst, sym}
use Rattle.shm_batches.proofs.FrontLemmas.{broken-behind, broken-here}
use Rattle.shm_batches.specs.Chain.{is_marked}
use Rattle.shm_batches.specs.Extent.{IsExtentKnown}
use Rattle.shm_batches.proofs.front.look_behind.Goals as goal

pub returns-then-marks : goal.returns-then-marks
returns-then-marks g c before b =
    subst (IsExtentKnown before) (sym c.extent.ensures)
    (broken-here c.args.front.now before (g.B.Read.remaining c.args.reader.now) b
    (ap₂ is_marked (sym c.lines.ensures) (sym c.line.ensures) ∙ sym c.marks.ensures ∙ c.if-marks.true))

pub returns-in-Ok : goal.returns-in-Ok
returns-in-Ok g c before b =
    subst (IsExtentKnown before) (sym c.extent-in-Ok.ensures)
    (broken-behind c.args.front.now before (g.B.Read.remaining c.args.reader.now) b
    (ap₂ is_marked (sym c.lines.ensures) (sym c.line.ensures) ∙ sym c.marks.ensures ∙ c.if-marks.false)
    c.in-Ok.found c.in-Ok.ensures)
