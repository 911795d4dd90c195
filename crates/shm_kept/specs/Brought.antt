-- What an unmap leaves: the bytes that it brings are the site's, each in its place, and the page is given up so far.
use Rattle.std.specs.Prelude.{◌≡◌, ℕ, ◌+◌, ◌-◌, ◌*◌, ◌<◌, true, List, [], ◌∷◌, Ok, length, slice_set}
use Rattle.std.specs.List.{list_all}
use Rattle.shm_place.specs.Limits.{page_bytes, pages}
use Rattle.shm_model.specs.Access.{Place, right}
use Rattle.shm_model.specs.Basics.{greatest}
use Rattle.shm_model.specs.Entry.{OwnWrite}
use Rattle.shm_wire.specs.Unmaps.{Run, UnmapAsk}
use Rattle.shm_process.specs.Desk.{Desk}
use Rattle.shm_process.specs.Mapped.{byte_place, lowered}
use Rattle.shm_process.specs.Node.{Node}
use Rattle.shm_process.specs.Remaps.{is_of_page}

-- a page's bytes, with these from this place on
abbrev pub with_bytes_at : ℕ → List ℕ → List ℕ → List ℕ
with_bytes_at place [] page = page
with_bytes_at place (byte ∷ bytes) page = with_bytes_at (place + 1) bytes (slice_set page place byte)

-- with those of the runs, of the page with this index
abbrev pub with_runs : ℕ → List Run → List ℕ → List ℕ
with_runs index [] page = page
with_runs index (run ∷ runs) page = with_runs index runs (with_bytes_at (run.offset - index * page_bytes) run.bytes page)

abbrev pub bytes_of : List Run → ℕ
bytes_of [] = 0
bytes_of (run ∷ runs) = length run.bytes + bytes_of runs

-- The site may write the page, through the attachment; the runs are the page's; and each byte has a clock for its step, and so has the
-- step after them.
pub record IsBringable (node : Node) (ask : UnmapAsk) (place : Place) (number : ℕ) (page : List ℕ) : Type 0 where
  pub here : ask.site ≡ node.me
  pub within : ask.index < pages
  pub runs : list_all (is_of_page ask.index) ask.runs ≡ true
  pub clocks : node.clock + bytes_of ask.runs < greatest
  pub leads : right node.site.attachments ask.at (byte_place ask.index 0) true ≡ Ok place
  pub entry : node.site.entries place.page ≡ OwnWrite number page

pub record IsGivenUp (old new : Desk) (ask : UnmapAsk) (place : Place) (number : ℕ) (page : List ℕ) : Type 0 where
  pub entry : new.node.site.entries place.page ≡ OwnWrite number (with_runs ask.index ask.runs page)
  pub mapped : new.node.mapped ≡ lowered place.page ask.keeps old.node.mapped
