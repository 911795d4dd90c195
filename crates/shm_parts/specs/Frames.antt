-- Frames, as the definitions speak of them.
use Rattle.std.specs.Prelude.{◌≡◌, Bool, true, false, ◌&&◌, List, [], ◌∷◌, ◌++◌, Option, Some, None, is_some, not, nat_lt, if◌then◌else◌, length, ⊤}
use Rattle.std.specs.Map.{keys_of, lookup}
use Rattle.shm_place.specs.declared.page_id.PageId.{PageId}
use Rattle.shm_place.specs.Page.{same_page}
use Rattle.shm_model.specs.Site as model
use Rattle.shm_model.specs.Transfer.{without_page}
use Rattle.shm_parts.specs.declared.entry_change.Change.{Change}
use Rattle.shm_parts.specs.declared.frame_order.Frames.{Frames}

-- the pages that are copies, among which one may stand that is not, but for which room was made
abbrev pub counted : Option PageId → List PageId → List PageId
counted None pages = pages
counted (Some awaited) pages = without_page awaited pages

-- room was made for this page, which is no copy yet
abbrev pub is_awaited : PageId → Option PageId → Bool
is_awaited page None = false
is_awaited page (Some awaited) = same_page awaited page

-- the copies, the next to go first
unfoldable pub copies_in : {A : Type 0} → Frames A → List PageId
copies_in frames = counted frames.awaited (keys_of frames.pages)

abbrev pub frames_of : {A : Type 0} → Frames A → model.Frames
frames_of frames = record { limit = frames.limit; copies = copies_in frames }

-- room was made for no other page
abbrev pub IsFor : PageId → Option PageId → Type 0
IsFor page None = ⊤
IsFor page (Some awaited) = awaited ≡ page

-- the page stands there, as a copy or where it will be one, and so takes no more memory
abbrev pub has_room : {A : Type 0} → PageId → Frames A → Type 0
has_room page frames = IsFor page frames.awaited × (is_some (lookup (same_page page) frames.pages) ≡ true)

-- a copy came
abbrev pub installs : Change → Bool
installs change = change.copy && change.newer

-- the copies after a change at the page
abbrev pub arranged_by : Change → PageId → List PageId → List PageId
arranged_by change page copies =
    if not change.copy then without_page page copies
    else if change.newer then without_page page copies ++ (page ∷ [])
    else copies

abbrev pub first_out : List PageId → model.Frames → Option PageId × model.Frames
first_out [] frames = (None, frames)
first_out (first ∷ rest) frames = (Some first, record frames { copies = rest })

-- the copy that goes where there are more than frames, and what is left
abbrev pub overflowed : model.Frames → Option PageId × model.Frames
overflowed frames = if nat_lt frames.limit (length frames.copies) then first_out frames.copies frames else (None, frames)
