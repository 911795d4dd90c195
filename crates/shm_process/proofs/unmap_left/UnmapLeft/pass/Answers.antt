use Rattle.std.proofs.Common.{◌+◌, ◌<◌, ◌≤◌, length, map, arith}
use Rattle.std.proofs.lemmas.List.{length-map}
use Rattle.shm_wire.specs.UnmapOf.{run_in, unmap_in}
use Rattle.shm_process.proofs.StepsLeft.{byte_within, left_at_end, left_behind_run, left_in_run, more_in_run, no_items, run_ends, run_within, some_left}
use Rattle.shm_process.proofs.unmap_left.UnmapLeft.pass.Goals as goal

pub overflow_add-made : goal.overflow_add-made
overflow_add-made g c =
    let self = c.args.self in
    let runs = self.ask.runs.items in
    let run = c.index.result.now in
    let within = run_within runs self.run self.made self.more in
    let more : self.made < length run.bytes.items = byte_within runs self.run self.made run within c.index.ensures self.more in
    let ends = run_ends runs self.run run self.runs within c.index.ensures in
    omega (arith, more, ends)

pub invariant_of-result-clause-more : goal.invariant_of-result-clause-more
invariant_of-result-clause-more g c =
    let self = c.args.self in
    let runs = self.ask.runs.items in
    let run = c.index.result.now in
    let within = run_within runs self.run self.made self.more in
    let more : self.made + 1 < length run.bytes.items = omega (arith, c.if-made-size.true, c.len-size.ensures, run.bytes.ok.0) in
    more_in_run runs self.run (self.made + 1) run within c.index.ensures more

pub returns-then-made-size : goal.returns-then-made-size
returns-then-made-size g c =
    let self = c.args.self in
    let runs = self.ask.runs.items in
    let run = c.index.result.now in
    let within = run_within runs self.run self.made self.more in
    let more : self.made < length run.bytes.items = byte_within runs self.run self.made run within c.index.ensures self.more in
    left_in_run (unmap_in self.ask) runs self.run self.made run within c.index.ensures more

pub invariant_of-result-then-run-len-clause-more : goal.invariant_of-result-then-run-len-clause-more
invariant_of-result-then-run-len-clause-more g c =
    let self = c.args.self in
    let runs = self.ask.runs.items in
    let next : self.run + 1 < length (map run_in runs) = omega (arith, c.if-run-len.true, c.len.ensures, self.ask.runs.ok.0, length-map runs run_in) in
    some_left (map run_in runs) (self.run + 1) self.runs next

pub returns-then-run-len : goal.returns-then-run-len
returns-then-run-len g c =
    let self = c.args.self in
    let runs = self.ask.runs.items in
    let run = c.index.result.now in
    let within = run_within runs self.run self.made self.more in
    let more : self.made < length run.bytes.items = byte_within runs self.run self.made run within c.index.ensures self.more in
    let over : length run.bytes.items ≤ self.made + 1 = omega (arith, c.if-made-size.false, c.len-size.ensures, run.bytes.ok.0) in
    left_behind_run (unmap_in self.ask) runs self.run self.made run within c.index.ensures more over

pub returns : goal.returns
returns g c =
    let self = c.args.self in
    let runs = self.ask.runs.items in
    let run = c.index.result.now in
    let within = run_within runs self.run self.made self.more in
    let more : self.made < length run.bytes.items = byte_within runs self.run self.made run within c.index.ensures self.more in
    let over : length run.bytes.items ≤ self.made + 1 = omega (arith, c.if-made-size.false, c.len-size.ensures, run.bytes.ok.0) in
    let end : length runs ≤ self.run + 1 = omega (arith, c.if-run-len.false, c.len.ensures, self.ask.runs.ok.0) in
    left_at_end (unmap_in self.ask) (unmap_in (record self.ask { runs = c.new.result })).runs runs self.run self.made run
    (no_items c.new.result.items c.new.ensures.items) within c.index.ensures more over end
