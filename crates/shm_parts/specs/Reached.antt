-- The page that an access goes to.
use Rattle.std.specs.Prelude.{ℕ, Option, Some, None, Result, Ok, Err}
use Rattle.shm_place.specs.declared.page_id.PageId.{PageId}
use Rattle.shm_model.specs.Access.{Place}

-- an access that is refused goes to none
abbrev pub page_reached : Result Place ℕ → Option PageId
page_reached (Ok place) = Some place.page
page_reached (Err refusal) = None
