use Rattle.shm_stepped.proofs.Waits.{Kept}
use Rattle.shm_stepped.proofs.waiting_access.access_until_done.Given as goal

-- the access still waits after so many events, which the cost counts
abbrev pub invariant-events : goal.invariant-events
invariant-events g l = Kept l.fn.world l.world l.fn.site l.fn.asked l.wait l._made
