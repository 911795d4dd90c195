use Rattle.std.proofs.Common.{[], ap, refl, sym}
use Rattle.shm_manager.specs.Orders.{members, orders_of}
use Rattle.shm_model.specs.Book.{ClearTo}
use Rattle.shm_model.specs.Transfer.{order_envelope}
use Rattle.shm_site.proofs.Orders.{all_told}
use Rattle.shm_site.proofs.send_page_orders.send_orders.Goals as goal

pub returns-in-Nothing : goal.returns-in-Nothing
returns-in-Nothing g c = rw c.in-Nothing.is (record { sent = []; behind = g.O.Outbox.nothing c.args.outbox.now; meant = refl })

pub returns-in-Clear : goal.returns-in-Clear
returns-in-Clear g c =
    all_told (order_envelope c.args.me c.args.page.now c.args.number) ClearTo (members c.in-Clear.sites) (orders_of c.args.orders) c.send_clears.ensures (sym (ap orders_of c.in-Clear.is))
