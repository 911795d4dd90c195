use Rattle.std.proofs.Common.{Option, subst, sym}
use Rattle.std.specs.List.{IsDistinct}
use Rattle.shm_place.specs.Page.{same_page}
use Rattle.shm_parts.specs.Holdings.{held_frames}
use Rattle.shm_parts.specs.Listed.{copies_held}
use Rattle.shm_parts.specs.declared.frame_order.Frames.{Frames}
use Rattle.shm_parts.proofs.Distinct.{none_distinct}
use Rattle.shm_parts.proofs.read_holdings.count_standing.Goals as goal

pub returns-in-None : goal.returns-in-None
returns-in-None g c =
    subst (λ (f : Option (Frames g.row.A.Denot)). IsDistinct same_page (copies_held (held_frames f))) (sym c.in-None.is) (none_distinct same_page)
