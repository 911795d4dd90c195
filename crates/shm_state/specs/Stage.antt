-- The order in which the parts of a state are told: the requests, the calls and the call that is outstanding; then what a home keeps, what was
-- purged, the entries, the attachments and the books.
use Rattle.std.specs.Prelude.{ℕ, Bool, ◌==◌, ◌&&◌, nat_le}
use Rattle.shm_state.specs.Part.{Part, Requests, Calls, Outstanding, Segment, Missing, Kept, Entry, Purged, Attachment, Book}
use Rattle.shm_state.specs.declared.told_stage.Stage.{Stage}
use Rattle.shm_state.specs.declared.told_stage.Stage.TheVariants as stage

abbrev pub rank : Stage → ℕ
rank stage.Nothing = 0
rank stage.Requests = 1
rank stage.Calls = 2
rank stage.Outstanding = 3
rank stage.Segments = 4
rank stage.Missing = 5
rank stage.Kept = 6
rank stage.Purged = 7
rank stage.Entries = 8
rank stage.Attachments = 9
rank stage.Books = 10

-- the stage at which the part is told
abbrev pub stage_of : Part → Stage
stage_of (Requests number) = stage.Requests
stage_of (Calls number) = stage.Calls
stage_of (Outstanding number op) = stage.Outstanding
stage_of (Segment segment) = stage.Segments
stage_of (Missing purge) = stage.Missing
stage_of (Kept site number reply) = stage.Kept
stage_of (Entry page entry) = stage.Entries
stage_of (Purged id) = stage.Purged
stage_of (Attachment number attachment) = stage.Attachments
stage_of (Book page book) = stage.Books

-- What may be told after this. Requests, calls and the call that is outstanding are told once.
abbrev pub is_due : Stage → Stage → Bool
is_due last stage.Requests = rank last == 0
is_due last stage.Calls = rank last == 1
is_due last stage.Outstanding = rank last == 2
is_due last next = nat_le 2 (rank last) && nat_le (rank last) (rank next)

-- the requests and the calls were told
abbrev pub is_whole : Stage → Bool
is_whole last = nat_le 2 (rank last)
