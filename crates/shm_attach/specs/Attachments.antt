-- The attachments of a site, as a list of what stands at each of 64 numbers.
use Rattle.std.specs.Prelude.{ℕ, Bool, List, Option, Some, None, slice_index_or}
use Rattle.shm_model.specs.Calls.{Attachment}
use Rattle.shm_model.specs.Site.{Site}
use Rattle.shm_model.specs.Basics.{at}

abbrev pub attachments_of : List (Option Attachment) → ℕ → Option Attachment
attachments_of slots number = slice_index_or slots number None

-- an attachment, as its segment, its size and whether only to read
abbrev pub attachment_from : ℕ × (ℕ × Bool) → Attachment
attachment_from read = record { id = read.0; size = read.1.0; ro = read.1.1 }

-- the segment that an attachment names
abbrev pub segment_of : Option Attachment → Option ℕ
segment_of None = None
segment_of (Some attachment) = Some attachment.id

-- what an attachment that was put where the number says leaves
abbrev pub put_at : Option ℕ → Attachment → (ℕ → Option Attachment) → ℕ → Option Attachment
put_at None new attachments = attachments
put_at (Some number) new attachments = at attachments number (Some new)

-- the site, with these attachments
abbrev pub with_attachments : (ℕ → Option Attachment) → Site → Site
with_attachments attachments site = record site { attachments = attachments }
