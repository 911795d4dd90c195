use Rattle.std.proofs.Common.{◌∙◌, ap}
use Rattle.shm_model.specs.World.{World, live}
use Rattle.shm_draw.specs.Arrows.{scene_of}
use Rattle.shm_draw.proofs.Rows.{rows_in_order}
use Rattle.shm_draw.proofs.Traced.{flying_is, has_arrow, mark_is, traced}
use Rattle.shm_draw.proofs.laws.arrows_are_hand_overs.Goals as goal

pub returns-clause-rows : goal.returns-clause-rows
returns-clause-rows c = rows_in_order

pub returns-clause-each : goal.returns-clause-each
returns-clause-each c = λ page o events event way end is. mark_is page o events (scene_of o events) event way end (traced o events) is

pub returns-clause-all : goal.returns-clause-all
returns-clause-all c = λ page o events event number end e passes there drawn.
    has_arrow page (scene_of o events) event number end e passes (ap (λ (w : World). live w number) (traced o events).world ∙ there) drawn

pub returns-clause-flying : goal.returns-clause-flying
returns-clause-flying c = λ page o events way found. flying_is page o events (scene_of o events) way (traced o events) found
