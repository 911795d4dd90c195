use Rattle.std.proofs.Common.{sym, subst, ◌≤◌}
use Rattle.shm_laws.proofs.Log.Count.{as-many-sent}
use Rattle.shm_laws.proofs.Log.Run.{runs-as}
use Rattle.shm_laws.proofs.logs.merged_logs_are_a_run.Goals as goal

pub returns : goal.returns
returns c = λ o logs order fits match merged.
    runs-as o logs fits match order merged (subst (λ n. n ≤ 9223372036854775808) (sym (as-many-sent order logs merged.parts)) fits.numbers)
