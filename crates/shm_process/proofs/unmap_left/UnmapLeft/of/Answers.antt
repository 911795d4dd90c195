use Rattle.std.proofs.Common.{◌≡◌, ◌<◌, length, map, arith}
use Rattle.std.proofs.lemmas.Bool.Decides.{nat_tests}
use Rattle.std.proofs.lemmas.List.{length-map, nil_from_length}
use Rattle.shm_wire.specs.UnmapOf.{run_in, unmap_in}
use Rattle.shm_process.proofs.StepsLeft.{no_items, of_none, of_runs, some_left}
use Rattle.shm_process.proofs.unmap_left.UnmapLeft.of.Goals as goal

pub returns-then-is_empty : goal.returns-then-is_empty
returns-then-is_empty g c =
    let runs = c.args.ask.runs.items in
    let none : length runs ≡ 0 = grind (arith, nat_tests, c.args.ask.runs.ok.0) in
    of_none (unmap_in c.args.ask) (no_items runs (nil_from_length runs none))

pub invariant_of-result-clause-more : goal.invariant_of-result-clause-more
invariant_of-result-clause-more g c =
    let runs = c.args.ask.runs.items in
    let some : 0 < length runs = grind (arith, nat_tests, c.args.ask.runs.ok.0) in
    some_left (map run_in runs) 0 c.requires (omega (arith, some, length-map runs run_in))

pub returns : goal.returns
returns g c = of_runs (unmap_in c.args.ask)
