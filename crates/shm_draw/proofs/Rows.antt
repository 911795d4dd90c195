-- The rows of a picture, one for each event.
use Rattle.std.proofs.Common.{◌≡◌, ◌∙◌, ℕ, List, [], ◌∷◌, ◌++◌, refl, sym, ap, append_assoc}
use Rattle.shm_place.specs.declared.page_id.PageId.{PageId}
use Rattle.shm_model.specs.declared.event.Event.{Event}
use Rattle.shm_model.specs.World.{Opening, opened}
use Rattle.shm_draw.specs.Arrows.{InOrder, RowsInOrder, scene_of}
use Rattle.shm_draw.specs.Picture.{Scene, first_scene, last_scene, scene_after}
use Rattle.shm_draw.specs.Svg.{row_labels, row_shapes, rows_text}
use Rattle.shm_draw.proofs.Traced.{last_scene-append, traced}

rows-append : (row : Scene → Event → List ℕ) (s : Scene) (earlier later : List Event)
    → rows_text row s (earlier ++ later) ≡ rows_text row s earlier ++ rows_text row (last_scene s earlier) later
rows-append row s [] later = refl
rows-append row s (e ∷ earlier) later =
    ap (λ text. row s e ++ text) (rows-append row (scene_after s e) earlier later)
    ∙ sym (append_assoc (row s e) (rows_text row (scene_after s e) earlier) (rows_text row (last_scene (scene_after s e) earlier) later))

in_order : (row : Scene → Event → List ℕ) (o : Opening) (earlier later : List Event) (event : Event) → InOrder row o earlier later event
in_order row o earlier later event =
    let first = first_scene (opened o) in
    rows-append row first earlier (event ∷ later)
    ∙ ap (λ s. rows_text row first earlier ++ (row (scene_of o earlier) event ++ rows_text row s later)) (sym (last_scene-append first earlier (event ∷ [])))

pub rows_in_order : (page : PageId) (o : Opening) (earlier later : List Event) (event : Event) → RowsInOrder page o earlier later event
rows_in_order page o earlier later event = record {
  shapes = in_order (row_shapes page) o earlier later event;
  labels = in_order (row_labels page) o earlier later event;
  world = (traced o earlier).world;
  number = (traced o earlier).number;
}
