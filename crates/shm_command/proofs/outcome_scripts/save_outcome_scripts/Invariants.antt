use Rattle.std.proofs.Common.{take}
use Rattle.shm_command.specs.Kept.{kept, AddsAll}
use Rattle.shm_command.proofs.outcome_scripts.save_outcome_scripts.Given as goal

-- the outcomes so far were saved
abbrev pub invariant-outcomes : goal.invariant-outcomes
invariant-outcomes g l =
    AddsAll (g.F.SaveFile.saves l.initial.files) (g.F.SaveFile.saves l.files) (kept l.fn.folder l.fn.sites l.fn.pages 1 (take l.place l.outcomes))
