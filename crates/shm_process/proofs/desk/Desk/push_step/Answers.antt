use Rattle.std.proofs.Common.{string_bytes}
use Rattle.shm_process.specs.Cause.{OfRestart}
use Rattle.shm_process.specs.CountsOf.{counts_of}
use Rattle.shm_process.specs.DeskOf.{desk_of}
use Rattle.shm_process.specs.NodeOf.{said_of}
use Rattle.shm_process.proofs.Pushed.{pushed, step_counted}
use Rattle.shm_process.proofs.desk.Desk.push_step.Goals as goal

pub returns : goal.returns
returns g c = λ cause text from.
    let desk = desk_of c.args.self.now in
    let said = said_of cause c.args.said.now in
    let line = c.args.line.now in
    let counts = counts_of c.with_recorded-self.result in
    pushed desk said OfRestart line c.push_entry.new.recorded.items (string_bytes c.push_text.new.told) counts text
    (
    step_counted desk.counts (counts_of c.with_step-counts.result) counts said line c.args.received c.count_sent.result c.in_ok-bytes.bytes text from
    c.count_sent.ensures c.in_ok-bytes.ensures.bytes c.with_step-counts.ensures c.with_recorded-self.ensures
    )
    c.in_ok-bytes.ensures.entry c.in_ok-push_text.ensures
