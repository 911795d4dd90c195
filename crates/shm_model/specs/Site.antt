-- A site: what it keeps over a restart, and what a restart takes from it; and what a step of it is.
use Rattle.std.specs.Prelude.{ℕ, Bool, false, List, [], Option, Some, None, ◌==◌, if◌then◌else◌, is_none, replicate}
use Rattle.std.specs.List.{find, list_any, range_with_len}
use Rattle.shm_place.specs.declared.page_id.PageId.{PageId}
use Rattle.shm_place.specs.Limits.{page_bytes}
use Rattle.shm_place.specs.Page.{manager_of}
use Rattle.shm_model.specs.declared.answer.Answer.{Answer}
use Rattle.shm_model.specs.declared.answer.Answer.TheVariants.{Dropped}
use Rattle.shm_model.specs.declared.request_kind.Kind.{Kind}
use Rattle.shm_model.specs.Entry.{Entry, Nil, OwnWrite}
use Rattle.shm_model.specs.Book.{Book, untouched_book}
use Rattle.shm_model.specs.Permission.{Segment}
use Rattle.shm_model.specs.Calls.{Attachment, Kept, Outstanding}
use Rattle.shm_model.specs.Message.{Envelope}

-- the last Ask that a page's access is waiting for
pub record Pending : Type 0 where
  pub page : PageId
  pub request : ℕ
  pub kind : Kind

-- how many pages may be held as copies, and those that are, the next to go first
pub record Frames : Type 0 where
  pub limit : ℕ
  pub copies : List PageId

-- Stable: all but `pending`, and but the cleared sets and waiting requests of the books. `booked` has the pages in the order of their
-- books' first transactions. `table` and `kept` are what the site keeps as a home, `missing` the sites that haven't answered a purge.
pub record Site : Type 0 where
  pub entries : PageId → Entry
  pub books : PageId → Book
  pub booked : List PageId
  pub requests : ℕ
  pub calls : ℕ
  pub outstanding : Option Outstanding
  pub attachments : ℕ → Option Attachment
  pub table : List Segment
  pub kept : ℕ → Option Kept
  pub missing : ℕ → ℕ → Bool
  pub purged : ℕ → Bool
  pub frames : Option Frames
  pub pending : List Pending

unfoldable pub blank : List ℕ
blank = replicate page_bytes 0

-- an untouched page is all zero, and its manager's to write
abbrev pub untouched : ℕ → ℕ → PageId → Entry
untouched sites me page = if manager_of sites page == me then OwnWrite 0 blank else Nil 0

abbrev pub max_attachments : ℕ
max_attachments = 64

-- the least attachment number that is free
unfoldable pub least_free : (ℕ → Option Attachment) → Option ℕ
least_free attachments = find (λ a. is_none (attachments a)) (range_with_len 0 max_attachments)

abbrev pub is_attachment_of : ℕ → Option Attachment → Bool
is_attachment_of id None = false
is_attachment_of id (Some a) = id == a.id

-- an attachment of the site names the segment
unfoldable pub is_attached : Site → ℕ → Bool
is_attached site id = list_any (λ a. is_attachment_of id (site.attachments a)) (range_with_len 0 max_attachments)

-- a site that has done nothing yet
abbrev pub new_site : ℕ → ℕ → Site
new_site sites me = record {
  entries = untouched sites me;
  books = λ _. untouched_book me;
  booked = [];
  requests = 0;
  calls = 0;
  outstanding = None;
  attachments = λ _. None;
  table = [];
  kept = λ _. None;
  missing = λ _. λ _. false;
  purged = λ _. false;
  frames = None;
  pending = [];
}

-- the site after a step, what it answers, and the envelopes that it sends, in their order
pub record Step : Type 0 where
  pub site : Site
  pub answer : Answer
  pub sent : List Envelope

-- a step that changes nothing and sends nothing
abbrev pub still : Answer → Site → Step
still answer site = record { site = site; answer = answer; sent = [] }

abbrev pub dropped : Site → Step
dropped = still Dropped
