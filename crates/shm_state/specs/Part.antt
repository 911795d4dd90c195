-- The parts of a site's state. Each is told on a line of its own. A site that may hold only so many copies has more than these say.
use Rattle.std.specs.Prelude.{ℕ, Bool, List, Option}
use Rattle.shm_place.specs.declared.page_id.PageId.{PageId}
use Rattle.shm_model.specs.Book.{Running}
use Rattle.shm_model.specs.Calls as model
use Rattle.shm_model.specs.Entry as pages
use Rattle.shm_model.specs.Permission as tables
use Rattle.shm_model.specs.declared.call.Op.{Op}
use Rattle.shm_model.specs.declared.call.Reply.{Reply}
use Rattle.shm_keys.specs.declared.pending_purge.Purge.{Purge}

-- what a restart leaves of a page's book. `copies` says of each of 16 sites, in their order, whether it may have a copy, and `served` has the
-- greatest request served of each.
pub record BookPart : Type 0 where
  pub owner : ℕ
  pub copies : List Bool
  pub number : ℕ
  pub running : Option Running
  pub served : List ℕ

-- the number of the last request; how many calls were begun; the call that is outstanding; a segment that the home made; the sites that have yet
-- to purge a destroyed one; the last reply to a site, under its call's number; what there is of a page; a segment that was purged; what is
-- attached at a number; and a page's book
pub data Part : Type 0 where
  Requests : ℕ → Part
  Calls : ℕ → Part
  Outstanding : ℕ → Op → Part
  Segment : tables.Segment → Part
  Missing : Purge → Part
  Kept : ℕ → ℕ → Reply → Part
  Entry : PageId → pages.Entry → Part
  Purged : ℕ → Part
  Attachment : ℕ → model.Attachment → Part
  Book : PageId → BookPart → Part
