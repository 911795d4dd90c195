-- What sites send one another, and what is handed to a site.
use Rattle.std.specs.Prelude.{ℕ}
use Rattle.shm_place.specs.declared.page_id.PageId.{PageId}
use Rattle.shm_model.specs.Entry.{Note}
use Rattle.shm_model.specs.declared.call.Op.{Op}
use Rattle.shm_model.specs.declared.call.Reply.{Reply}
use Rattle.shm_model.specs.declared.call.Request.{Request}

-- a note of a page; a segment call and its reply, under the call's number; a purge of a destroyed segment and its answer
pub data Message : Type 0 where
  Of : PageId → Note → Message
  Call : ℕ → Op → Message
  Replies : ℕ → Reply → Message
  Purge : ℕ → Message
  Purged : ℕ → Message

pub record Envelope : Type 0 where
  pub from : ℕ
  pub to : ℕ
  pub message : Message

-- one input of a site: an access through an attachment at an offset, the beginning of a segment call, an envelope that is
-- handed over, a tick, a restart
pub data Input : Type 0 where
  Load : ℕ → ℕ → Input
  Store : ℕ → ℕ → ℕ → Input
  Begin : Request → Input
  Deliver : Envelope → Input
  Tick : Input
  Restart : Input
