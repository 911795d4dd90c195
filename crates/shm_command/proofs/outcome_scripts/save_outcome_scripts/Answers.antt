-- The outcomes are saved one after the other.
use Rattle.shm_command.proofs.KeptLemmas.{one_kept}
use Rattle.shm_command.proofs.outcome_scripts.save_outcome_scripts.Goals as goal

pub outcomes-preserved : goal.outcomes-preserved
outcomes-preserved g c =
    one_kept c.args.folder.now c.args.sites c.args.pages c.args.outcomes.now c.outcomes.place c.index-outcomes-place.result
    (g.F.SaveFile.saves c.args.files.now) (g.F.SaveFile.saves c.outcomes.files) (g.F.SaveFile.saves c.save_outcome.new.files)
    c.outcomes-test.true c.index-outcomes-place.is c.outcomes.invariant c.in-Ok.ensures.saved
