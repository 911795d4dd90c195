use Rattle.std.proofs.Common.{subst}
use Rattle.shm_batches.specs.Extent.{SeeksNext}
use Rattle.shm_batches.proofs.front.find_mark.Goals as goal

pub returns-in-Ok-Ended : goal.returns-in-Ok-Ended
returns-in-Ok-Ended g c =
    subst (λ next. SeeksNext next c.seek.new.section (g.B.Read.remaining c.args.reader.now) (g.B.Read.remaining c.seek.new.reader)) c.in-Ok-Ended.field-0-is
    (c.in-Ok-Ended.ensures (g.B.Read.remaining c.args.reader.now) c.lines.invariant)

pub returns-in-Ok-Broken : goal.returns-in-Ok-Broken
returns-in-Ok-Broken g c =
    subst (λ next. SeeksNext next c.seek.new.section (g.B.Read.remaining c.args.reader.now) (g.B.Read.remaining c.seek.new.reader)) c.in-Ok-Broken.field-0-is
    (c.in-Ok-Broken.ensures (g.B.Read.remaining c.args.reader.now) c.lines.invariant)
