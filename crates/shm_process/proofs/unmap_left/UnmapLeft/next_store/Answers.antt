use Rattle.std.proofs.Common.{◌<◌, length, arith}
use Rattle.shm_wire.specs.UnmapOf.{unmap_in}
use Rattle.shm_process.proofs.StepsLeft.{byte_within, next_is, run_ends, run_within}
use Rattle.shm_process.proofs.unmap_left.UnmapLeft.next_store.Goals as goal

pub overflow_cast-asked : goal.overflow_cast-asked
overflow_cast-asked g c =
    let self = c.args.self.now in
    let runs = self.ask.runs.items in
    let run = c.index-run.result.now in
    let within = run_within runs self.run self.made self.more in
    let more : self.made < length run.bytes.items = byte_within runs self.run self.made run within c.index-run.ensures self.more in
    let ends = run_ends runs self.run run self.runs within c.index-run.ensures in
    omega (arith, more, ends)

pub overflow_add-asked : goal.overflow_add-asked
overflow_add-asked g c =
    let self = c.args.self.now in
    let runs = self.ask.runs.items in
    let run = c.index-run.result.now in
    let within = run_within runs self.run self.made self.more in
    let more : self.made < length run.bytes.items = byte_within runs self.run self.made run within c.index-run.ensures self.more in
    let ends = run_ends runs self.run run self.runs within c.index-run.ensures in
    omega (arith, more, ends)

pub index-requires : goal.index-requires
index-requires g c =
    let self = c.args.self.now in
    let runs = self.ask.runs.items in
    let run = c.index-run.result.now in
    let within = run_within runs self.run self.made self.more in
    let more : self.made < length run.bytes.items = byte_within runs self.run self.made run within c.index-run.ensures self.more in
    omega (arith, more, run.bytes.ok.0)

pub returns : goal.returns
returns g c =
    let self = c.args.self.now in
    let runs = self.ask.runs.items in
    let run = c.index-run.result.now in
    let within = run_within runs self.run self.made self.more in
    let more : self.made < length run.bytes.items = byte_within runs self.run self.made run within c.index-run.ensures self.more in
    next_is (unmap_in self.ask) runs self.run self.made run c.index.result.now within c.index-run.ensures more c.index.ensures
