use Rattle.std.proofs.Common.{◌≡◌, ◌+◌, ◌<◌, ◌∙◌, ap, length, map, nat_lt, vec_len}
use Rattle.shm_model.specs.Basics.{greatest}
use Rattle.shm_wire.specs.UnmapOf.{run_in}
use Rattle.shm_process.proofs.Asks.{map_read}
use Rattle.shm_process.proofs.Finds.{seen-over, seen-within}
use Rattle.shm_process.proofs.MetLines.{all_clocks, clocks_on, no_clocks, not_below, past-greatest}
use Rattle.shm_process.proofs.node_meets_line.has_clocks.Goals as goal

pub returns-in_default : goal.returns-in_default
returns-in_default g c =
    let zs = c.args.runs.now in
    let i = c.runs.run-index in
    let run = c.run-item.result in
    let counted : vec_len run.bytes ≡ length run.bytes.items = run.bytes.ok.0 in
    let over : greatest < c.runs.last + length run.bytes.items =
    past-greatest c.runs.last c.len.result (length run.bytes.items) (c.len.ensures ∙ counted) c.in_default.ensures in
    not_below _ greatest
    (no_clocks (map run_in zs) i (run_in run) c.runs.last _ (seen-within run_in zs i c.runs-test.true)
    (map_read run_in zs i run (run_in run) c.runs-test.true c.run-item.is) over c.runs.invariant)

pub runs-preserved : goal.runs-preserved
runs-preserved g c =
    let zs = c.args.runs.now in
    let i = c.runs.run-index in
    let run = c.run-item.result in
    let counted : vec_len run.bytes ≡ length run.bytes.items = run.bytes.ok.0 in
    let next : (c.runs.last + c.len.result < 18446744073709551616) × (c.in-Some.next ≡ c.runs.last + c.len.result) = c.in-Some.ensures in
    clocks_on (map run_in zs) i (run_in run) c.runs.last c.in-Some.next _ (seen-within run_in zs i c.runs-test.true)
    (map_read run_in zs i run (run_in run) c.runs-test.true c.run-item.is) (next.1 ∙ ap (λ n. c.runs.last + n) (c.len.ensures ∙ counted)) c.runs.invariant

pub returns : goal.returns
returns g c =
    ap (λ n. nat_lt n greatest)
    (all_clocks (map run_in c.args.runs.now) c.runs.run-index c.runs.last _ (seen-over run_in c.args.runs.now c.runs.run-index c.runs-test.false) c.runs.invariant)
