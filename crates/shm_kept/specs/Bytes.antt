-- What a map gives: the bytes of the page that the machine is to have.
use Rattle.std.specs.Prelude.{◌≡◌, ℕ, ◌<◌, false, true, Ok, Some, slice_index}
use Rattle.shm_place.specs.Limits.{page_bytes, pages}
use Rattle.shm_model.specs.declared.request_kind.Kind.{Kind}
use Rattle.shm_model.specs.Access.{Place, load, right}
use Rattle.shm_model.specs.Entry.{bytes}
use Rattle.shm_site.specs.AtOnce.{byte_given}
use Rattle.shm_process.specs.Mapped.{byte_place}
use Rattle.shm_process.specs.Node.{Node}
use Rattle.shm_process.specs.Remaps.{bytes_there, has_right}

-- the page at this place of the attachment's segment may be mapped so, and the attachment leads to it
pub record IsMappable (node : Node) (at index : ℕ) (kind : Kind) (place : Place) : Type 0 where
  pub within : index < pages
  pub has : has_right node.sites node.me node.site at index kind ≡ true
  pub leads : right node.site.attachments at (byte_place index 0) false ≡ Ok place

-- the bytes that are told are those of the site's entry, and each is what a load of it gives
pub record GivesBytes (node : Node) (at index : ℕ) (place : Place) : Type 0 where
  pub entry : bytes_there node.site at index ≡ bytes (node.site.entries place.page)
  pub loaded : (k : ℕ) → k < page_bytes → byte_given (load node.sites node.me at (byte_place index k) node.site).answer
      ≡ Some (slice_index (bytes_there node.site at index) k)
