-- The requests that a site has pending, in the order in which their pages became pending.
use Rattle.std.specs.Prelude.{ℕ, Bool, false, List, Option, Some, None, map}
use Rattle.shm_place.specs.declared.page_id.PageId.{PageId}
use Rattle.shm_model.specs.declared.request_kind.Kind.{Kind}
use Rattle.shm_model.specs.Access.{pending_at}
use Rattle.shm_model.specs.Site.{Pending}
use Rattle.shm_model.specs.Transfer.{is_settled}
use Rattle.shm_parts.specs.declared.pending_requests.Pendings.{Pendings}

abbrev pub pending_of : PageId × (ℕ × Kind) → Pending
pending_of entry = record { page = entry.0; request = entry.1.0; kind = entry.1.1 }

abbrev pub pendings_of : {A : Type 0} → Pendings A → List Pending
pendings_of pendings = map pending_of pendings.pages

abbrev pub settled_by : Bool → Bool → Option Pending → Bool
settled_by reads writes None = false
settled_by reads writes (Some p) = is_settled reads writes p

-- these rights settle the page's request
abbrev pub settles : Bool → Bool → PageId → List Pending → Bool
settles reads writes page pending = settled_by reads writes (pending_at page pending)
