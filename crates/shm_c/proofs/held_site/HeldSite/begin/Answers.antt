use Rattle.shm_c.proofs.SeatLemmas.{begun}
use Rattle.shm_c.proofs.held_site.HeldSite.begin.Goals as goal

pub returns : goal.returns
returns c =
    let made = c.in_ok-site.ensures in
    begun (record { site = c.in_ok-site.site; sent = c.new.result }) c.args.opening.now c.args.me made.site made.seat.0 made.seat.1 c.new.ensures.items
