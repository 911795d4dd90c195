-- What a site holds of pages, as the definitions speak of it; and what its calls mean to the site.
use Rattle.std.specs.Prelude.{◌≡◌, ℕ, Bool, [], ◌∷◌, Option, Some, None, Result, Ok, Err, if◌then◌else◌, slice_index}
use Rattle.shm_place.specs.declared.page_id.PageId.{PageId}
use Rattle.shm_model.specs.declared.answer.Access.{Access}
use Rattle.shm_model.specs.declared.answer.Access.TheVariants as access
use Rattle.shm_model.specs.declared.answer.Answer.TheVariants.{Byte, Stored, Refused, Took}
use Rattle.shm_model.specs.declared.answer.Shown.{Shown}
use Rattle.shm_model.specs.declared.answer.State.{State}
use Rattle.shm_model.specs.declared.answer.State.TheVariants as state
use Rattle.shm_model.specs.declared.request_kind.Kind.TheVariants.{Read, Write}
use Rattle.shm_model.specs.Access.{ask_for}
use Rattle.shm_model.specs.Basics.{at_page}
use Rattle.shm_model.specs.Site.{Step, dropped, still, Frames as ModelFrames, Site, untouched}
use Rattle.shm_model.specs.Entry as model
use Rattle.shm_model.specs.Transfer.{settle}
use Rattle.shm_attach.specs.Attachments.{attachments_of}
use Rattle.shm_attach.specs.Right.{denied_number}
use Rattle.shm_attach.specs.declared.access_error.Denied.{Denied}
use Rattle.shm_parts.specs.Entries.{entries_of}
use Rattle.shm_parts.specs.Frames.{arranged_by, frames_of, overflowed}
use Rattle.shm_parts.specs.Message.{envelope_of}
use Rattle.shm_parts.specs.Purged.{purged_of}
use Rattle.shm_parts.specs.declared.entry_change.Change.{Change}
use Rattle.shm_parts.specs.declared.frame_order.Frames.{Frames}
use Rattle.shm_parts.specs.declared.holdings.Holdings.{Holdings}
use Rattle.shm_parts.specs.declared.message.Envelope.{Envelope}
use Rattle.shm_parts.specs.declared.access_outcome.LoadOutcome.{LoadOutcome}
use Rattle.shm_parts.specs.declared.access_outcome.LoadOutcome.TheVariants as loaded
use Rattle.shm_parts.specs.declared.access_outcome.StoreOutcome.{StoreOutcome}
use Rattle.shm_parts.specs.declared.access_outcome.StoreOutcome.TheVariants as stored

-- of a purged segment nothing is left
abbrev pub held_entries : {A : Type 0} → ℕ → ℕ → Holdings A → PageId → model.Entry
held_entries sites me held page = if purged_of held.purged page.seg then model.Nil 0 else entries_of (untouched sites me) held.entries page

abbrev pub held_frames : {A : Type 0} → Option (Frames A) → Option ModelFrames
held_frames None = None
held_frames (Some frames) = Some (frames_of frames)

abbrev pub with_frames : Option PageId × ModelFrames → Option PageId × Option ModelFrames
with_frames (first, f) = (first, Some f)

-- the frames after a change at the page, and the copy that is to be given up, where there are too many
abbrev pub arranged_frames : Change → PageId → Option ModelFrames → Option PageId × Option ModelFrames
arranged_frames change page None = (None, None)
arranged_frames change page (Some f) = with_frames (overflowed (record f { copies = arranged_by change page f.copies }))

-- so many copies at most, and none so far
abbrev pub framed : ℕ → ModelFrames
framed limit = record { limit = limit; copies = [] }

-- the site, with these holdings
abbrev pub with_holdings : {A : Type 0} → ℕ → ℕ → Holdings A → Site → Site
with_holdings sites me held site = record site {
  entries = held_entries sites me held;
  attachments = attachments_of held.attachments;
  purged = purged_of held.purged;
  frames = held_frames held.frames;
}

-- the site's number, and how many there are, stay
abbrev pub SameSeat : {A : Type 0} → Holdings A → Holdings A → Type 0
SameSeat old new = (new.sites ≡ old.sites) × (new.me ≡ old.me)

-- the site with these frames, once it has given up the copy that is to go
abbrev pub given_up : Option PageId × Option ModelFrames → Site → Site
given_up (None, frames) site = record site { frames = frames }
given_up (Some first, frames) site = record site { frames = frames; entries = at_page site.entries first (model.forget (site.entries first)) }

abbrev pub rearranged : Change → PageId → Site → Site
rearranged change page site = given_up (arranged_frames change page site.frames) site

-- a load's outcome, as a step of the site
abbrev pub loaded_step : ℕ → ℕ → Result LoadOutcome Denied → Site → Step
loaded_step sites me (Ok (loaded.Byte byte)) site = still (Byte byte) site
loaded_step sites me (Ok (loaded.Absent page)) site = ask_for sites me Read page site
loaded_step sites me (Err denied) site = still (Refused (denied_number denied)) site

-- what an entry gives a load of its page
abbrev pub read_of : PageId → ℕ → model.Entry → LoadOutcome
read_of page within e = if model.readable e then loaded.Byte (slice_index (model.bytes e) within) else loaded.Absent page

-- a store's outcome, as a step of the site
abbrev pub stored_step : ℕ → ℕ → Result StoreOutcome Denied → Site → Step
stored_step sites me (Ok stored.Stored) site = still Stored site
stored_step sites me (Ok (stored.Absent page)) site = ask_for sites me Write page site
stored_step sites me (Err denied) site = still (Refused (denied_number denied)) site

-- a message that turned an entry, as a step of the site: what goes out, if anything does, and what changed; `hold` gives a site its holdings
-- after it
abbrev pub turned_step : {A : Type 0} → PageId → Option (Envelope A × Change) → (Site → Site) → Site → Step
turned_step page None hold site = dropped (hold site)
turned_step page (Some sent) hold site =
    record { site = hold (record site { pending = settle sent.1.readable sent.1.writable page site.pending }); answer = Took; sent = envelope_of sent.0 ∷ [] }

abbrev pub access_of : model.Entry → Access
access_of e = if model.writable e then access.Write else if model.readable e then access.Read else access.Nil

abbrev pub state_of : model.Entry → State
state_of (model.Nil _) = state.Nil
state_of (model.Copy _ _) = state.Copy
state_of (model.OwnRead _ _) = state.OwnRead
state_of (model.OwnWrite _ _) = state.OwnWrite
state_of (model.Handed _ _ _) = state.Handed

-- what a site shows of a page, which may be one of a segment that it purged
abbrev pub shown_of : Bool → model.Entry → Shown
shown_of purged e = record { state = if purged then state.Purged else state_of e; seen = model.seen e }
