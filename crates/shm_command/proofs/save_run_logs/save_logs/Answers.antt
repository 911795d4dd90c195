-- The logs are saved one after the other.
use Rattle.shm_command.proofs.KeptLemmas.{adds_none, all_more, one_more}
use Rattle.shm_command.specs.Kept.{kept_log}
use Rattle.shm_command.proofs.save_run_logs.save_logs.Goals as goal

pub logs-init : goal.logs-init
logs-init g c = adds_none (g.F.SaveFile.saves c.args.files.now)

pub logs-preserved : goal.logs-preserved
logs-preserved g c =
    one_more (kept_log c.args.folder.now) c.args.logs.now c.logs.log-index c.log-item.result
    (g.F.SaveFile.saves c.args.files.now) (g.F.SaveFile.saves c.logs.files) (g.F.SaveFile.saves c.save_log.new.files)
    c.logs-test.true c.log-item.is c.logs.invariant c.in-Ok.ensures.saved

pub returns-clause-saved : goal.returns-clause-saved
returns-clause-saved g c =
    all_more (kept_log c.args.folder.now) c.args.logs.now c.logs.log-index (g.F.SaveFile.saves c.args.files.now) (g.F.SaveFile.saves c.logs.files)
    c.logs-test.false c.logs.invariant
