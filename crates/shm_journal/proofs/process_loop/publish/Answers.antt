use Rattle.std.proofs.Common.{◌∙◌}
use Rattle.shm_journal.proofs.ServingLemmas.{not_kept, not_told, published}
use Rattle.shm_journal.proofs.process_loop.publish.Goals as goal
use Rattle.shm_process.specs.DeskOf.{desk_of}

pub returns-in-Err-clause-fault : goal.returns-in-Err-clause-fault
returns-in-Err-clause-fault g c r =
    let acts = g.J.Journal.acts in
    not_kept r (g.W.Write.contents c.args.writer.now) (acts c.args.journal.now) (acts c.keep.new.journal) (desk_of c.args.desk.now) c.entries.result.now
    c.entries.ensures c.in-Err.ensures.some c.in-Err.ensures.front

pub returns-in-Err-tell-clause-fault : goal.returns-in-Err-tell-clause-fault
returns-in-Err-tell-clause-fault g c r =
    let acts = g.J.Journal.acts in
    let contents = g.W.Write.contents in
    not_told r (contents c.args.writer.now) (contents c.tell.new.writer) (acts c.args.journal.now) (acts c.keep.new.journal) (acts c.tell.new.journal)
    (desk_of c.args.desk.now) c.entries.result.now c.as_bytes.result.now c.entries.ensures (c.as_bytes.ensures.value ∙ c.output.ensures)
    c.in-Ok.ensures.done c.in-Err-tell.ensures.some c.in-Err-tell.ensures.front

pub returns-clause-done : goal.returns-clause-done
returns-clause-done g c r =
    let acts = g.J.Journal.acts in
    let contents = g.W.Write.contents in
    published r (contents c.args.writer.now) (contents c.tell.new.writer) (acts c.args.journal.now) (acts c.keep.new.journal) (acts c.tell.new.journal)
    (desk_of c.args.desk.now) c.entries.result.now c.as_bytes.result.now c.entries.ensures (c.as_bytes.ensures.value ∙ c.output.ensures)
    c.in-Ok.ensures.done c.in-Ok-tell.ensures.told c.in-Ok-tell.ensures.done
