-- Asks for a page to be mapped into the memory of the site's machine, and to be given up. Each is a step that loads the page's first byte,
-- and with it what is mapped changes. Where the right to map isn't there, an access is tried that asks for it: it never stores, as a store
-- isn't made without its right. An unmap brings bytes; each is stored by a step of its own before.
use Rattle.std.specs.Prelude.{ℕ, ◌+◌, ◌*◌, ◌&&◌, ◌||◌, ◌==◌, Bool, true, false, List, [], ◌∷◌, Option, None, Some, is_some, length, nat_le, option_map}
use Rattle.std.specs.List.{list_all}
use Rattle.shm_place.specs.declared.page_id.PageId.{PageId}
use Rattle.shm_place.specs.Limits.{page_bytes}
use Rattle.shm_model.specs.declared.asked_access.Asked.{Asked}
use Rattle.shm_model.specs.declared.asked_access.Asked.TheVariants as asked
use Rattle.shm_model.specs.declared.request_kind.Kind.{Kind}
use Rattle.shm_model.specs.declared.request_kind.Kind.TheVariants.{Read, Write}
use Rattle.shm_model.specs.Access.{load, store}
use Rattle.shm_model.specs.Book.{is_write}
use Rattle.shm_model.specs.Entry.{bytes}
use Rattle.shm_model.specs.Message.{Input, Load}
use Rattle.shm_model.specs.Site.{Site}
use Rattle.shm_site.specs.AtOnce.{byte_given, is_stored, waits}
use Rattle.shm_wire.specs.Unmaps.{Run, UnmapAsk}
use Rattle.shm_wire.specs.declared.mapping_text.Mapping.{Mapping}
use Rattle.shm_process.specs.Mapped.{byte_place, lowered, mapped_there, page_at, remapped}

-- ---- a map

-- an access of the page so would be made at once
abbrev pub has_right : ℕ → ℕ → Site → ℕ → ℕ → Kind → Bool
has_right sites me site at index Read = is_some (byte_given (load sites me at (byte_place index 0) site).answer)
has_right sites me site at index Write = is_stored (store sites me at (byte_place index 0) 0 site).answer

-- it would wait for a right that was asked for before
abbrev pub waits_for_right : ℕ → ℕ → Site → ℕ → ℕ → Kind → Bool
waits_for_right sites me site at index Read = waits (load sites me at (byte_place index 0) site).answer
waits_for_right sites me site at index Write = waits (store sites me at (byte_place index 0) 0 site).answer

abbrev pub first_load : ℕ → ℕ → Input
first_load at index = Load at (byte_place index 0)

-- the access that asks for the right
abbrev pub right_asked : Kind → ℕ → ℕ → Asked
right_asked Read at index = asked.Load at (byte_place index 0)
right_asked Write at index = asked.Store at (byte_place index 0) 0

-- what is mapped with the page
abbrev pub mapped_through : List Mapping → ℕ → Kind → Option PageId → Option (List Mapping)
mapped_through mapped at kind page = option_map (λ p. remapped (record { at = at; page = p; kind = kind }) mapped) page

abbrev pub mapped_if : Bool → List Mapping → Site → ℕ → ℕ → Kind → Option (List Mapping)
mapped_if false mapped site at index kind = None
mapped_if true mapped site at index kind = mapped_through mapped at kind (page_at site at (byte_place index 0))

-- ---- an unmap

abbrev pub is_empty : {X : Type 0} → List X → Bool
is_empty [] = true
is_empty (x ∷ xs) = false

-- what is mapped once the page is given up so far
abbrev pub unmapped_to : List Mapping → Option Kind → Option PageId → Option (List Mapping)
unmapped_to mapped keeps page = option_map (λ p. lowered p keeps mapped) page

-- a run is of one page
abbrev pub is_of_page : ℕ → Run → Bool
is_of_page index run = nat_le (index * page_bytes) run.offset && nat_le (run.offset + length run.bytes) (index * page_bytes + page_bytes)

-- a mapping through this attachment, and bytes only where they may have changed
abbrev pub may_give_up : ℕ → List Run → Option Mapping → Bool
may_give_up at runs None = false
may_give_up at runs (Some m) = (m.at == at) && (is_write m.kind || is_empty runs)

-- the page is mapped so, and the runs are the page's
abbrev pub may_unmap : List Mapping → Site → UnmapAsk → Bool
may_unmap mapped site ask = may_give_up ask.at ask.runs (mapped_there mapped site ask.at (byte_place ask.index 0)) && list_all (is_of_page ask.index) ask.runs

-- ---- the bytes of a page

abbrev pub bytes_reached : Option PageId → Site → List ℕ
bytes_reached None site = []
bytes_reached (Some page) site = bytes (site.entries page)

-- the bytes of the page at this place of the attachment's segment
abbrev pub bytes_there : Site → ℕ → ℕ → List ℕ
bytes_there site at index = bytes_reached (page_at site at (byte_place index 0)) site
