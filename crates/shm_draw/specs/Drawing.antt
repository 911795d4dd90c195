-- What drawing an event, then events, and then pages leaves.
use Rattle.std.specs.Prelude.{◌≡◌, ℕ, List, ◌++◌}
use Rattle.shm_place.specs.declared.page_id.PageId.{PageId}
use Rattle.shm_model.specs.declared.event.Event.{Event}
use Rattle.shm_model.specs.World as model
use Rattle.shm_world.specs.World.{StandsFor}
use Rattle.shm_world.specs.declared.world.World.{World}
use Rattle.shm_draw.specs.Picture.{Scene, scene_after, last_scene}
use Rattle.shm_draw.specs.Svg.{bottom_of, depth, page_text, pages_text, row_labels, row_shapes, rows_text}

-- the texts of a picture, those below and those above
pub record Sheet : Type 0 where
  pub shapes : List ℕ
  pub labels : List ℕ

abbrev pub sheet : List ℕ → List ℕ → Sheet
sheet shapes labels = record { shapes = shapes; labels = labels }

pub record DrewEvent {A : Type 0} (page : PageId) (s : Scene) (event : Event) (old new : Sheet) (world : World A) (origins : List ℕ) : Type 0 where
  pub shapes : new.shapes ≡ old.shapes ++ row_shapes page s event
  pub labels : new.labels ≡ old.labels ++ row_labels page s event
  pub stands : StandsFor world (scene_after s event).world
  pub sent_by : origins ≡ (scene_after s event).origins

pub record DrewEvents {A : Type 0} (page : PageId) (s : Scene) (events : List Event) (old new : Sheet) (world : World A) (origins : List ℕ) : Type 0 where
  pub shapes : new.shapes ≡ old.shapes ++ rows_text (row_shapes page) s events
  pub labels : new.labels ≡ old.labels ++ rows_text (row_labels page) s events
  pub stands : StandsFor world (last_scene s events).world
  pub sent_by : origins ≡ (last_scene s events).origins

-- the answer is how far the page's picture goes down
pub record DrewPage (page : PageId) (w : model.World) (events : List Event) (captions : List ℕ) (top : ℕ) (old new : List ℕ) (answer : ℕ) : Type 0 where
  pub text : new ≡ old ++ page_text page w events captions top
  pub deep : answer ≡ depth page w events

pub record DrewPages (pages : List PageId) (w : model.World) (events : List Event) (captions : List ℕ) (old new : List ℕ) (answer : ℕ) : Type 0 where
  pub text : new ≡ old ++ pages_text pages w events captions 0
  pub deep : answer ≡ bottom_of pages w events 0
