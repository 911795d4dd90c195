use Rattle.shm_process.specs.DeskOf.{desk_of}
use Rattle.shm_command.proofs.Stretched.{Stretched}
use Rattle.shm_command.specs.Around.{streams}
use Rattle.shm_command.proofs.serve_stretches.serve_stretches.Given as goal

abbrev pub invariant-stretches : goal.invariant-stretches
invariant-stretches g l =
    Stretched (desk_of l.fn.desk) (desk_of l.desk) (streams (g.I.Read.remaining l.fn.reader) (g.O.Write.contents l.fn.out))
    (streams (g.I.Read.remaining l.reader) (g.O.Write.contents l.out))
