use Rattle.std.proofs.Common.{ap}
use Rattle.shm_place.specs.declared.page_id.PageId.{PageId}
use Rattle.shm_draw.proofs.event_row_svg.tell_elsewhere.Goals as goal

pub returns : goal.returns
returns g c = rw (c.y_of-y.ensures, ap (λ (p : PageId). p.seg) c.page.view_is, ap (λ (p : PageId). p.index) c.page.view_is) at c.write.ensures.bytes
