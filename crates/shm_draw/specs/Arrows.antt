-- What the picture of a page says of the run: each row is one event's; each mark, each arrow and each colour is of this page, or of no one page;
-- each arrow is one hand-over or loss of an envelope that its site sent earlier, and none is missing.
use Rattle.std.specs.Prelude.{◌≡◌, ℕ, ◌+◌, ◌≤◌, ◌<◌, true, false, List, [], ◌∷◌, ◌++◌, length, Option, Some, None, slice_get, Contains}
use Rattle.shm_place.specs.declared.page_id.PageId.{PageId}
use Rattle.shm_place.specs.Page.{same_page}
use Rattle.shm_model.specs.declared.event.Event.{Event}
use Rattle.shm_model.specs.declared.event.Event.TheVariants.{Deliver, Repeat, Lose}
use Rattle.shm_model.specs.Message.{Envelope}
use Rattle.shm_model.specs.Site.{Site}
use Rattle.shm_model.specs.World.{Opening, World, live, next, opened, run}
use Rattle.shm_world.specs.Showing.{shown}
use Rattle.shm_draw.specs.declared.mark_kinds.End.{End}
use Rattle.shm_draw.specs.declared.mark_kinds.End.TheVariants.{HandedOver, Repeated, Lost, OnItsWay}
use Rattle.shm_draw.specs.declared.mark_kinds.Mark.{Mark}
use Rattle.shm_draw.specs.declared.mark_kinds.Mark.TheVariants.{At, Arrow, Elsewhere, Nowhere}
use Rattle.shm_draw.specs.declared.mark_kinds.Way.{Way}
use Rattle.shm_draw.specs.Picture.{Scene, about, first_scene, is_of, last_scene, mark, page_of, word_of}
use Rattle.shm_draw.specs.Svg.{row_labels, row_shapes, rows_text, ways_after}

-- before the event that comes after these events
abbrev pub scene_of : Opening → List Event → Scene
scene_of o events = last_scene (first_scene (opened o)) events

-- what the event draws that comes after these events
abbrev pub mark_after : PageId → Opening → List Event → Event → Mark
mark_after page o events event = let s = scene_of o events in mark page s.world s.origins event

-- the event of this number, from 1, is a step of this site, and sent the envelope of this number
pub record SentBy (o : Opening) (events : List Event) (origin number site : ℕ) : Type 0 where
  pub earlier : List Event
  pub event : Event
  pub later : List Event
  pub order : events ≡ earlier ++ event ∷ later
  pub numbered : origin ≡ length earlier + 1
  pub unsent : length (run o earlier).world.sent ≤ number
  pub sent : number < length (next (run o earlier).world event).world.sent
  pub step_of : (next (run o earlier).world event).done.site ≡ site

-- the way is that of an envelope of the page, or of no one page, that is on its way after these events, one of which sent it
pub record IsWayOf (page : PageId) (o : Opening) (events : List Event) (way : Way) : Type 0 where
  pub envelope : Envelope
  pub live : live (run o events).world way.number ≡ Some envelope
  pub of_page : is_of page (page_of envelope.message) ≡ true
  pub from : way.from ≡ envelope.from
  pub to : way.to ≡ envelope.to
  pub word : way.word ≡ word_of envelope.message
  pub sent : SentBy o events way.origin way.number way.from

-- the event hands the envelope of this number over, for good or not, or loses it
abbrev pub Passes : Event → ℕ → End → Type 0
Passes event number HandedOver = event ≡ Deliver number
Passes event number Repeated = event ≡ Repeat number
Passes event number Lost = event ≡ Lose number
Passes event number OnItsWay = ⊥

-- an arrow of an event's row is that event's, of an envelope of the page that was on its way
abbrev pub ArrowsAreHandOvers : PageId → Opening → Type 0
ArrowsAreHandOvers page o = (events : List Event) (event : Event) (way : Way) (end : End) → mark_after page o events event ≡ Arrow way end
    → Passes event way.number end × IsWayOf page o events way

-- an event that hands over or loses an envelope which is on its way, and is of the page, has an arrow of that envelope
abbrev pub HandOversHaveArrows : PageId → Opening → Type 0
HandOversHaveArrows page o = (events : List Event) (event : Event) (number : ℕ) (end : End) (e : Envelope) → Passes event number end
    → live (run o events).world number ≡ Some e → is_of page (page_of e.message) ≡ true
    → (way : Way) × (mark_after page o events event ≡ Arrow way end) × (way.number ≡ number)

-- what an event about that page, or about none, may draw on the picture of this one
abbrev pub BelongsTo : PageId → Option PageId → Mark → Type 0
BelongsTo page of (At site symbol) = is_of page of ≡ true
BelongsTo page of (Arrow way end) = is_of page of ≡ true
BelongsTo page of Nowhere = is_of page of ≡ true
BelongsTo page of (Elsewhere other) = (of ≡ Some other) × (same_page page other ≡ false)

-- each ring, clock, jagged line and arrow is of an event about the page, or about none; any other event only names the page that it is about
abbrev pub MarksAreOfThePage : PageId → Opening → Type 0
MarksAreOfThePage page o = (events : List Event) (event : Event) → BelongsTo page (about (run o events).world event) (mark_after page o events event)

-- no site has to give up a copy for a frame
abbrev pub HaveNoFrames : World → Type 0
HaveNoFrames w = (number : ℕ) (site : Site) → slice_get w.sites number ≡ Some site → site.frames ≡ None

-- where that is so, an event about another page leaves what each site shows of this one
abbrev pub ColoursAreOfThePage : PageId → Type 0
ColoursAreOfThePage page = (w : World) (event : Event) (other : PageId) (site : ℕ) → HaveNoFrames w → about w event ≡ Some other → same_page page other ≡ false
    → shown (next w event).world site page ≡ shown w site page

-- the texts of these rows, one for each event, in their order; each shows the run as far as there
abbrev pub InOrder : (Scene → Event → List ℕ) → Opening → List Event → List Event → Event → Type 0
InOrder row o earlier later event =
    rows_text row (first_scene (opened o)) (earlier ++ event ∷ later)
    ≡ rows_text row (first_scene (opened o)) earlier ++ (row (scene_of o earlier) event ++ rows_text row (scene_of o (earlier ++ event ∷ [])) later)

pub record RowsInOrder (page : PageId) (o : Opening) (earlier later : List Event) (event : Event) : Type 0 where
  pub shapes : InOrder (row_shapes page) o earlier later event
  pub labels : InOrder (row_labels page) o earlier later event
  pub world : (scene_of o earlier).world ≡ (run o earlier).world
  pub number : (scene_of o earlier).number ≡ length earlier + 1

-- what is drawn below the last row are ways of envelopes of the page that are still on their way
abbrev pub FlyingAreLive : PageId → Opening → Type 0
FlyingAreLive page o = (events : List Event) (way : Way) → Contains (ways_after page (opened o) events) way → IsWayOf page o events way
