use Rattle.std.proofs.Common.{arith}
use Rattle.shm_manager.proofs.Members.{orders-few}
use Rattle.shm_site.proofs.site.Site.resend.Goals as goal

pub send_orders-requires : goal.send_orders-requires
send_orders-requires g c = omega (arith, orders-few c.resend.result, c.in_ok-reserve.ensures.room)
