use Rattle.shm_logs.specs.Boxes.SiteBox.{box_of}
use Rattle.shm_model.specs.Log.{Stamp}
use Rattle.shm_site.specs.Step.{input_of}
use Rattle.shm_site_tests.proofs.Rising.{still-rises, IsRising}
use Rattle.shm_site_tests.proofs.tests.merge.give.Goals as goal

pub returns : goal.returns
returns g c =
    let before : IsRising (box_of c.args.site.now) = record { rises = c.requires.rises; below = c.requires.below; matches = c.requires.matches } in
    let none : Stamp = record { at = 0; index = 0; place = 0 } in
    let after = still-rises c.take.result (box_of c.args.site.now) (box_of c.take.new.self) (input_of c.input_of.result) none before c.input_of.ensures c.take.ensures.step c.take.ensures.refused in
    record { rises = after.rises; below = after.below; matches = after.matches }
