use Rattle.std.proofs.Common.{length, map}
use Rattle.shm_parts.specs.Books.{booked_after}
use Rattle.shm_site.specs.Site.{site_of}
use Rattle.shm_parts.specs.Message.{envelope_of}
use Rattle.shm_site.proofs.Ticks.{OrdersSent}
use Rattle.shm_site.proofs.site.Site.order_again.Given as goal

abbrev pub invariant-pages : goal.invariant-pages
invariant-pages g l = OrdersSent l.self.me (site_of l.self) (map envelope_of l.fn.list.items) (map envelope_of l.list.items) (booked_after l.last l.self.books)

abbrev pub decreases-pages : goal.decreases-pages
decreases-pages g l = length (booked_after l.last l.self.books)
