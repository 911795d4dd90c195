use Rattle.std.proofs.Common.{◌≡◌, true, false}
use Rattle.shm_wire.specs.UnmapOf.{run_in}
use Rattle.shm_process.specs.Remaps as remaps
use Rattle.shm_process.proofs.Finds.{seen_all_pass, seen_fails, seen_passes}
use Rattle.shm_process.proofs.node_mapped_pages.are_of_page.Goals as goal

pub runs-preserved : goal.runs-preserved
runs-preserved g c =
    let run = c.run-item.result in
    let passes : remaps.is_of_page c.args.index (run_in run) ≡ true = cc in
    seen_passes run_in (remaps.is_of_page c.args.index) c.args.runs.now c.runs.run-index run _ c.runs-test.true c.run-item.is passes c.runs.invariant

pub returns-then-not-is_of_page : goal.returns-then-not-is_of_page
returns-then-not-is_of_page g c =
    let run = c.run-item.result in
    let fails : remaps.is_of_page c.args.index (run_in run) ≡ false = cc in
    seen_fails run_in (remaps.is_of_page c.args.index) c.args.runs.now c.runs.run-index run _ c.runs-test.true c.run-item.is fails c.runs.invariant

pub returns : goal.returns
returns g c = seen_all_pass run_in (remaps.is_of_page c.args.index) c.args.runs.now c.runs.run-index _ c.runs-test.false c.runs.invariant
