use Rattle.shm_model.specs.World.{run}
use Rattle.shm_draw.specs.Arrows.{scene_of}
use Rattle.shm_draw.proofs.Belonging.{belongs_there}
use Rattle.shm_draw.proofs.Colours.{colours_stay}
use Rattle.shm_draw.proofs.Traced.{traced}
use Rattle.shm_draw.proofs.laws.marks_are_of_the_page.Goals as goal

pub returns-clause-marks : goal.returns-clause-marks
returns-clause-marks c = λ page o events event.
    let s = scene_of o events in
    belongs_there page s.world (run o events).world s.origins event (traced o events).world

pub returns-clause-colours : goal.returns-clause-colours
returns-clause-colours c = λ page w event other site none of apart. colours_stay page other w event site none of apart
