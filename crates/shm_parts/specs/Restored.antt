-- What is put back into a site's holdings, part by part.
use Rattle.std.specs.Prelude.{◌≡◌, Bool, true, false, ◌&&◌, not, [], ◌∷◌, ◌++◌, Option, Some, None}
use Rattle.std.specs.List.{list_any}
use Rattle.shm_place.specs.declared.page_id.PageId.{PageId}
use Rattle.shm_place.specs.Page.{same_page}
use Rattle.shm_model.specs.Site.{Frames}
use Rattle.shm_parts.specs.Entries.{is_stored}
use Rattle.shm_parts.specs.Holdings.{held_frames}
use Rattle.shm_parts.specs.declared.holdings.Holdings.{Holdings}

-- each entry that was stored is stored
abbrev pub StillStored : {A : Type 0} → Holdings A → Holdings A → Type 0
StillStored old new = (page : PageId) → is_stored old.entries page ≡ true → is_stored new.entries page ≡ true

-- copies are counted, and the page isn't one
abbrev pub is_new_copy : PageId → Option Frames → Bool
is_new_copy page None = false
is_new_copy page (Some frames) = not (list_any (same_page page) frames.copies)

-- the page is stored, and may be counted as a copy
abbrev pub may_be_copy : {A : Type 0} → PageId → Holdings A → Bool
may_be_copy page held = is_stored held.entries page && is_new_copy page (held_frames held.frames)

-- with one copy more, the last to go
abbrev pub with_copy : PageId → Option Frames → Option Frames
with_copy page None = None
with_copy page (Some frames) = Some (record frames { copies = frames.copies ++ page ∷ [] })
