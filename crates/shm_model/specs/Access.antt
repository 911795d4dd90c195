-- Loads and stores, as shmop(2) gives them through an attachment: with the right they complete at once, without it the page's manager
-- is asked (Li and Hudak 1989, §3.2: a read fault or a write fault).
use Rattle.std.specs.Prelude.{ℕ, Bool, true, false, List, [], ◌∷◌, Option, Some, None, Result, Ok, Err, ◌+◌, ◌&&◌, ◌||◌, not, ◌==◌, nat_lt, if◌then◌else◌, slice_index, slice_set}
use Rattle.std.specs.List.{find}
use Rattle.shm_place.specs.declared.page_id.PageId.{PageId}
use Rattle.shm_place.specs.Offset.{index_of, within_of, rounded}
use Rattle.shm_place.specs.Page.{manager_of, same_page}
use Rattle.shm_model.specs.declared.answer.Answer.{Answer}
use Rattle.shm_model.specs.declared.answer.Answer.TheVariants.{Byte, Stored, Fault, Waiting, Refused, Dropped}
use Rattle.shm_model.specs.declared.request_kind.Kind.{Kind}
use Rattle.shm_model.specs.declared.request_kind.Kind.TheVariants.{Read, Write}
use Rattle.shm_model.specs.Entry.{Entry, OwnWrite, Ask, bytes, readable, writable}
use Rattle.shm_model.specs.Book.{is_write}
use Rattle.shm_model.specs.Basics.{at_page, greatest}
use Rattle.shm_model.specs.Refusal.{no_attachment, read_only, out_of_segment, numbers_used_up}
use Rattle.shm_model.specs.Message.{Of, Envelope}
use Rattle.shm_model.specs.Calls.{Attachment}
use Rattle.shm_model.specs.Site.{Site, Step, Pending, still}

-- where an access goes: its page and the offset within it
pub record Place : Type 0 where
  pub page : PageId
  pub within : ℕ

abbrev pub place_in : Attachment → ℕ → Place
place_in a offset = record { page = record { seg = a.id; index = index_of offset }; within = within_of offset }

-- the attachment stands, may be stored through where that is asked, and has the offset
abbrev pub right_through : Option Attachment → ℕ → Bool → Result Place ℕ
right_through None offset for_store = Err no_attachment
right_through (Some a) offset for_store =
    if for_store && a.ro then Err read_only
    else if nat_lt offset (rounded a.size) then Ok (place_in a offset)
    else Err out_of_segment

abbrev pub right : (ℕ → Option Attachment) → ℕ → ℕ → Bool → Result Place ℕ
right attachments at offset for_store = right_through (attachments at) offset for_store

-- a pending Ask to write serves every access of its page, one to read the loads
abbrev pub serves : Kind → Option Pending → Bool
serves kind None = false
serves kind (Some p) = is_write p.kind || not (is_write kind)

abbrev pub pending_at : PageId → List Pending → Option Pending
pending_at page pending = find (λ p. same_page page p.page) pending

abbrev pub is_pending : Kind → PageId → List Pending → Bool
is_pending kind page pending = serves kind (pending_at page pending)

-- a page's new Ask takes the place of its old one, or joins at the end
abbrev pub put_pending : Pending → List Pending → List Pending
put_pending new [] = new ∷ []
put_pending new (p ∷ ps) = if same_page new.page p.page then new ∷ ps else p ∷ put_pending new ps

abbrev pub asked : ℕ → ℕ → Kind → PageId → Site → Step
asked sites me kind page site =
    let request = site.requests + 1 in
    record {
      site = record site { requests = request; pending = put_pending (record { page = page; request = request; kind = kind }) site.pending };
      answer = Fault;
      sent = record { from = me; to = manager_of sites page; message = Of page (Ask request kind) } ∷ [];
    }

-- an access without the right: it waits for what is pending, or asks the manager
abbrev pub ask_for : ℕ → ℕ → Kind → PageId → Site → Step
ask_for sites me kind page site =
    if is_pending kind page site.pending then still Waiting site
    else if site.requests == greatest then still (Refused numbers_used_up) site
    else asked sites me kind page site

abbrev pub load_at : ℕ → ℕ → Place → Site → Step
load_at sites me place site =
    if readable (site.entries place.page) then still (Byte (slice_index (bytes (site.entries place.page)) place.within)) site
    else ask_for sites me Read place.page site

abbrev pub load_if : ℕ → ℕ → Result Place ℕ → Site → Step
load_if sites me (Err refusal) site = still (Refused refusal) site
load_if sites me (Ok place) site = load_at sites me place site

abbrev pub load : ℕ → ℕ → ℕ → ℕ → Site → Step
load sites me at offset site = load_if sites me (right site.attachments at offset false) site

-- the entry with one byte changed
abbrev pub stored_entry : ℕ → ℕ → Entry → Entry
stored_entry within byte (OwnWrite n b) = OwnWrite n (slice_set b within byte)
stored_entry within byte e = e

abbrev pub store_at : ℕ → ℕ → Place → ℕ → Site → Step
store_at sites me place byte site =
    if writable (site.entries place.page)
    then still Stored (record site { entries = at_page site.entries place.page (stored_entry place.within byte (site.entries place.page)) })
    else ask_for sites me Write place.page site

abbrev pub store_if : ℕ → ℕ → Result Place ℕ → ℕ → Site → Step
store_if sites me (Err refusal) byte site = still (Refused refusal) site
store_if sites me (Ok place) byte site = store_at sites me place byte site

abbrev pub store : ℕ → ℕ → ℕ → ℕ → ℕ → Site → Step
store sites me at offset byte site = store_if sites me (right site.attachments at offset true) byte site
