-- Queues: one request of a page is served at a time, and the others wait at its manager (Li and Hudak 1989, §3.2).
use Rattle.std.specs.Prelude.{◌≡◌, ℕ, [], Some, None, slice_get}
use Rattle.shm_place.specs.declared.page_id.PageId.{PageId}
use Rattle.shm_model.specs.Site.{Site}
use Rattle.shm_model.specs.World.{World}

-- an Ask waits only behind a transaction that runs
abbrev pub NoneWaitsForNothing : World → Type 0
NoneWaitsForNothing w = (page : PageId) (site : ℕ) (x : Site) → slice_get w.sites site ≡ Some x → (x.books page).running ≡ None → (x.books page).waiting ≡ []
