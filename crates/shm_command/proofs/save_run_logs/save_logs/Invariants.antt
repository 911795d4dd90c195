use Rattle.std.proofs.Common.{take}
use Rattle.shm_command.specs.Kept.{kept_logs, AddsAll}
use Rattle.shm_command.proofs.save_run_logs.save_logs.Given as goal

-- the logs so far were saved
abbrev pub invariant-logs : goal.invariant-logs
invariant-logs g l = AddsAll (g.F.SaveFile.saves l.initial.files) (g.F.SaveFile.saves l.files) (kept_logs l.folder (take l.log-index l.logs))
