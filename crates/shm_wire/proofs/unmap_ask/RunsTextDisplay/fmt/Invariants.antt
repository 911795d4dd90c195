use Rattle.std.proofs.Common.{take}
use Rattle.std.specs.Fmt.{HasWritten, IsPlainFormatter}
use Rattle.std.specs.List.{flat_map}
use Rattle.shm_wire.specs.UnmapOf.{run_in}
use Rattle.shm_wire.specs.Unmaps.{run_text}
use Rattle.shm_wire.proofs.unmap_ask.RunsTextDisplay.fmt.Given as goal

abbrev pub invariant-runs : goal.invariant-runs
invariant-runs g l =
    IsPlainFormatter l.initial.f → HasWritten g.W.Write.write_str_gives l.initial.f (flat_map (λ run. run_text (run_in run)) (take l.run-index l.run-items)) l.f
