-- What a site keeps over a restart, as lists that can be read and written; and the site that such lists make.
use Rattle.std.specs.Prelude.{ℕ, ◌<◌, List, [], Option, if◌then◌else◌}
use Rattle.std.specs.List.{AllByRecursion, IsDistinct}
use Rattle.std.specs.Map.{keys_of}
use Rattle.shm_place.specs.declared.page_id.PageId.{PageId}
use Rattle.shm_place.specs.Limits.{pages}
use Rattle.shm_place.specs.Page.{same_page}
use Rattle.shm_model.specs.Book.{Book, untouched_book}
use Rattle.shm_model.specs.Calls.{Attachment}
use Rattle.shm_model.specs.Entry.{Entry, Nil}
use Rattle.shm_model.specs.Permission.{Segment}
use Rattle.shm_model.specs.declared.call.Reply.{Reply}
use Rattle.shm_model.specs.Site as model
use Rattle.shm_keys.specs.Purge.{missing_in}
use Rattle.shm_keys.specs.declared.pending_purge.Purge.{Purge}
use Rattle.shm_attach.specs.Attachments.{attachments_of}
use Rattle.shm_attach.specs.CallBook.{Calls}
use Rattle.shm_attach.specs.Home.{kept_of}
use Rattle.shm_parts.specs.Holdings.{held_frames}
use Rattle.shm_parts.specs.Listed.{AreHeld, booked_list, filled, purged_in, purged_list, stored_list}
use Rattle.shm_site.specs.declared.site.Site.{Site}

-- `entries` has what is stored, `books` what a restart leaves of them in the order of their first transactions, `attachments` what stands
-- at each number, `table` the segments that the site made as a home in the order of making, `missing` the sites that have yet to purge a
-- segment, `kept` the last reply to each site, `purged` the segments that were purged
pub record State : Type 0 where
  pub entries : List (PageId × Entry)
  pub books : List (PageId × Book)
  pub requests : ℕ
  pub calls : Calls
  pub attachments : List (Option Attachment)
  pub table : List Segment
  pub missing : List Purge
  pub kept : List (Option (ℕ × Reply))
  pub purged : List ℕ
  pub frames : Option model.Frames

abbrev pub state_of : {A : Type 0} → Site A → State
state_of site = record {
  entries = stored_list site.holdings.entries;
  books = booked_list site.me site.books;
  requests = site.requests;
  calls = site.calls;
  attachments = site.holdings.attachments;
  table = site.home.table.segments;
  missing = site.home.table.missing;
  kept = site.home.kept;
  purged = purged_list site.holdings.purged;
  frames = held_frames site.holdings.frames;
}

-- what a site's state keeps true: its lists are such as a site holds, each book is of a page that a segment may have, and no page has two
pub record IsState (state : State) : Type 0 where
  pub held : AreHeld state.entries state.attachments state.purged state.frames
  pub within : AllByRecursion (λ page. page.index < pages) (keys_of state.books)
  pub apart : IsDistinct same_page (keys_of state.books)

-- the site `me` of so many that has this state, and no pending requests
abbrev pub site_from : ℕ → ℕ → State → model.Site
site_from sites me state = record {
  entries = λ page. if purged_in state.purged page.seg then Nil 0 else filled (model.untouched sites me) state.entries page;
  books = filled (λ _. untouched_book me) state.books;
  booked = keys_of state.books;
  requests = state.requests;
  calls = state.calls.begun;
  outstanding = state.calls.outstanding;
  attachments = attachments_of state.attachments;
  table = state.table;
  kept = kept_of state.kept;
  missing = missing_in state.missing;
  purged = purged_in state.purged;
  frames = state.frames;
  pending = [];
}
