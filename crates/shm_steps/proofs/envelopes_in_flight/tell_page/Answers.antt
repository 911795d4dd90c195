use Rattle.std.proofs.Common.{ap}
use Rattle.shm_place.specs.declared.page_id.PageId.{PageId}
use Rattle.shm_steps.proofs.envelopes_in_flight.tell_page.Goals as goal

pub returns : goal.returns
returns g c = rw (ap (λ (p : PageId). p.seg) c.page.view_is, ap (λ (p : PageId). p.index) c.page.view_is) at c.write.ensures.bytes
