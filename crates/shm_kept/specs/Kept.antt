-- What a site maps is kept: its right to each page that is mapped stands, whatever comes.
use Rattle.std.specs.Prelude.{◌≡◌, ℕ, ◌<◌, true, Bool, List, [], ◌∷◌, Some, map}
use Rattle.std.specs.List.{list_all}
use Rattle.shm_model.specs.Book.{is_write}
use Rattle.shm_model.specs.Calls.{Attachment}
use Rattle.shm_model.specs.Site.{Site, max_attachments}
use Rattle.shm_mapping.specs.Hosts.{has_page}
use Rattle.shm_mapping.specs.Verdicts.{MayMap}
use Rattle.shm_wire.specs.declared.mapping_text.Mapping.{Mapping}
use Rattle.shm_process.specs.Desk.{Desk, cleared, on_bytes, restarted}
use Rattle.shm_process.specs.DeskEvents.{DidEvents}
use Rattle.shm_process.specs.Mapped.{as_mapped}
use Rattle.shm_process.specs.Node.{Node}
use Rattle.shm_process.specs.Recorded.{Event, after_event}

-- the attachment that a page is mapped through has it, and may be stored through where the page is mapped to write
abbrev pub is_through : Site → Mapping → Bool
is_through site m = has_page site m.at m.page (is_write m.kind)

-- attachments have the numbers that there are
abbrev pub AreNumbered : Site → Type 0
AreNumbered site = (a : ℕ) (x : Attachment) → site.attachments a ≡ Some x → a < max_attachments

-- A site may map what its machine maps: to each page it has at least the mapped right, and the attachment that it is mapped through names
-- its segment.
pub record IsKept (node : Node) : Type 0 where
  pub may : MayMap node.site (map as_mapped node.mapped)
  pub through : list_all (is_through node.site) node.mapped ≡ true
  pub numbered : AreNumbered node.site

-- so it is at first, and after each of these events
abbrev pub KeptThrough : Node → List Event → Type 0
KeptThrough node [] = IsKept node
KeptThrough node (event ∷ events) = IsKept node × KeptThrough (after_event node event) events

-- the node of the first desk had events, whose steps were recorded, and became that of the other; at each moment what it mapped was kept
pub record DidKeep (old new : Desk) : Type 0 where
  pub did : DidEvents old new
  pub kept : KeptThrough old.node did.events

-- what happens to a desk: bytes come, its site restarts, and what was recorded and told is written out
pub data Happening : Type 0 where
  Comes : List ℕ → Happening
  Restarts : Happening
  IsCleared : Happening

abbrev pub after_happening : Desk → Happening → Desk
after_happening desk (Comes bytes) = on_bytes desk bytes
after_happening desk Restarts = restarted desk
after_happening desk IsCleared = cleared desk

abbrev pub after_happenings : Desk → List Happening → Desk
after_happenings desk [] = desk
after_happenings desk (h ∷ hs) = after_happenings (after_happening desk h) hs
