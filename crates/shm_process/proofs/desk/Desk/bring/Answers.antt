use Rattle.std.proofs.Common.{◌∙◌, ◌+◌, ◌≤◌, ap, length, map, subst, sym}
use Rattle.std.specs.Prelude.{◌^◌}
use Rattle.shm_wire.specs.UnmapOf.{run_in, unmap_in}
use Rattle.shm_wire.specs.Unmaps.{IsRun}
use Rattle.shm_process.specs.Desk.{stored_run}
use Rattle.shm_process.specs.DeskOf.{desk_of}
use Rattle.shm_process.proofs.Asks.{map_read}
use Rattle.shm_process.proofs.Finds.{seen-over, seen-within, seen_all}
use Rattle.shm_process.proofs.MetLines.{no_run, one_run, run-within}
use Rattle.shm_process.proofs.desk.Desk.bring.Goals as goal

pub store_run-requires-clause-within : goal.store_run-requires-clause-within
store_run-requires-clause-within g c =
    let run = c.run-item.result in
    let is : IsRun (run_in run) = seen_all run_in c.args.runs.now IsRun c.runs.run-index run c.runs-test.true c.run-item.is c.requires.runs in
    subst (λ bytes. run.offset + length bytes ≤ 2 ^ 32) (sym c.as_slice.ensures.value) (run-within run.offset (length run.bytes.items) is.1)

pub runs-preserved : goal.runs-preserved
runs-preserved g c =
    let zs = c.args.runs.now in
    let i = c.runs.run-index in
    let run = c.run-item.result in
    let ask = unmap_in c.args.ask.now in
    let desk = desk_of c.runs.self in
    one_run ask (map run_in zs) i (run_in run) desk (desk_of c.store_run.new.self) _ (seen-within run_in zs i c.runs-test.true)
    (map_read run_in zs i run (run_in run) c.runs-test.true c.run-item.is)
    (c.in_ok-store_run.ensures ∙ ap (stored_run desk ask run.offset) c.as_slice.ensures.value) c.runs.invariant

pub returns : goal.returns
returns g c =
    no_run (unmap_in c.args.ask.now) (map run_in c.args.runs.now) c.runs.run-index (desk_of c.runs.self) _
    (seen-over run_in c.args.runs.now c.runs.run-index c.runs-test.false) c.runs.invariant
