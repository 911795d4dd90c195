-- What a site's holdings keep true: every page that an attachment reaches and that the site manages has its entry stored, and so has each
-- copy that is counted.
use Rattle.std.specs.Prelude.{◌≡◌, ℕ, ◌*◌, ◌<◌, ◌==◌, Bool, true, false, List, [], Option, Some, None, ⊤}
use Rattle.std.specs.List.{list_any}
use Rattle.shm_place.specs.declared.page_id.PageId.{PageId}
use Rattle.shm_place.specs.Limits.{page_bytes}
use Rattle.shm_place.specs.Offset.{rounded}
use Rattle.shm_place.specs.Page.{manager_of, same_page}
use Rattle.shm_model.specs.Calls.{Attachment}
use Rattle.shm_attach.specs.Attachments.{attachments_of}
use Rattle.shm_parts.specs.Entries.{is_stored}
use Rattle.shm_parts.specs.Frames.{frames_of, has_room}
use Rattle.shm_parts.specs.Purged.{purged_of}
use Rattle.shm_parts.specs.declared.page_entries.Entries.{Entries}
use Rattle.shm_parts.specs.declared.frame_order.Frames.{Frames}
use Rattle.shm_parts.specs.declared.purged_segments.Purged.{Purged}

-- site `me` manages the page
abbrev pub manages : ℕ → ℕ → PageId → Bool
manages sites me page = manager_of sites page == me

abbrev pub copies_of : {A : Type 0} → Option (Frames A) → List PageId
copies_of None = []
copies_of (Some frames) = (frames_of frames).copies

-- the page may be a copy without more memory, where copies are counted
abbrev pub has_space : {A : Type 0} → PageId → Option (Frames A) → Type 0
has_space page None = ⊤
has_space page (Some frames) = has_room page frames

pub record IsReached {A : Type 0} (sites me : ℕ) (entries : Entries A) (attachments : List (Option Attachment)) (purged : Purged A)
    (frames : Option (Frames A)) : Type 0 where
  pub stored : (number : ℕ) (a : Attachment) (index : ℕ) → attachments_of attachments number ≡ Some a → index * page_bytes < rounded a.size
      → manages sites me (record { seg = a.id; index = index }) ≡ true → is_stored entries (record { seg = a.id; index = index }) ≡ true
  pub alive : (number : ℕ) (a : Attachment) → attachments_of attachments number ≡ Some a → purged_of purged a.id ≡ false
  pub copies : (page : PageId) → list_any (same_page page) (copies_of frames) ≡ true → is_stored entries page ≡ true
