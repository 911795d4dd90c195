-- What shm_model sees of the answer that a load or store gets on its place.
use Rattle.std.specs.Prelude.{ℕ, Result, Ok, Err}
use Rattle.shm_place.specs.declared.page_id.PageId.{PageId}
use Rattle.shm_model.specs.Refusal.{no_attachment, read_only, out_of_segment}
use Rattle.shm_model.specs.Access.{Place}
use Rattle.shm_attach.specs.declared.access_error.Denied.{Denied}
use Rattle.shm_attach.specs.declared.access_error.Denied.TheVariants as denied

abbrev pub denied_number : Denied → ℕ
denied_number denied.NoAttachment = no_attachment
denied_number denied.ReadOnly = read_only
denied_number denied.OutOfSegment = out_of_segment

abbrev pub place_of : Result (PageId × ℕ) Denied → Result Place ℕ
place_of (Ok place) = Ok (record { page = place.0; within = place.1 })
place_of (Err e) = Err (denied_number e)
