use Rattle.std.proofs.Common.{◌≡◌, drop, map}
use Rattle.shm_process.specs.Desk.{all_met}
use Rattle.shm_process.specs.DeskOf.{desk_of, kept_of}
use Rattle.shm_process.proofs.desk.Desk.meet_all.Given as goal

-- those to come lead to where all led
abbrev pub invariant-kept : goal.invariant-kept
invariant-kept g l = all_met l.fresh (desk_of l.self) (drop l.one-index (map kept_of l.kept)) ≡ all_met l.fresh (desk_of l.fn.self) (map kept_of l.kept)
