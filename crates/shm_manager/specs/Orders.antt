-- What shm_model sees of the orders that go out.
use Rattle.std.specs.Prelude.{ℕ, Bool, List, [], ◌∷◌, map, filter}
use Rattle.std.specs.List.{range_with_len}
use Rattle.shm_place.specs.Limits.{max_sites}
use Rattle.shm_place.specs.SiteSet.{has}
use Rattle.shm_model.specs.Book.{Order, ClearTo, HandTo}
use Rattle.shm_manager.specs.declared.manager_messages.Orders.{Orders}
use Rattle.shm_manager.specs.declared.manager_messages.Orders.TheVariants as orders

-- the sites of a set, rising
unfoldable pub members : List Bool → List ℕ
members set = filter (has set) (range_with_len 0 max_sites)

abbrev pub orders_of : Orders → List Order
orders_of orders.Nothing = []
orders_of (orders.Hand owner requester kind) = HandTo owner requester kind ∷ []
orders_of (orders.Clear set) = map ClearTo (members set)
