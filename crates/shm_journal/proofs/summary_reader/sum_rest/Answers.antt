use Rattle.shm_process.specs.NodeOf.{node_of}
use Rattle.shm_journal.specs.HeaderOf.{header_of}
use Rattle.shm_journal.specs.LinesOf.{left_of}
use Rattle.shm_journal.specs.Stages.{begun}
use Rattle.shm_journal.proofs.SummaryLemmas.{as_rest, rest_summed, rest_uncounted}
use Rattle.shm_journal.proofs.summary_reader.sum_rest.Goals as goal

pub returns-in-Ok-clause-ok : goal.returns-in-Ok-clause-ok
returns-in-Ok-clause-ok g c =
    let remaining = g.R.Read.remaining in
    let header = header_of c.args.named.header in
    rest_summed header (left_of c.args.lines (remaining c.args.reader.now)) (remaining c.node_behind.new.reader) c.args.lines c.node_behind.new.lines (node_of c.in-Ok.node)
    c.sum_up.result (c.in-Ok.ensures.ok (begun header) c.requires) c.sum_up.ensures.ok

pub returns-in-Ok-clause-left : goal.returns-in-Ok-clause-left
returns-in-Ok-clause-left g c =
    let remaining = g.R.Read.remaining in
    let header = header_of c.args.named.header in
    rest_uncounted header (left_of c.args.lines (remaining c.args.reader.now)) (remaining c.node_behind.new.reader) c.args.lines c.node_behind.new.lines (node_of c.in-Ok.node)
    c.sum_up.result (c.in-Ok.ensures.ok (begun header) c.requires) c.sum_up.ensures.fault

pub returns-clause-left : goal.returns-clause-left
returns-clause-left g c =
    let remaining = g.R.Read.remaining in
    let header = header_of c.args.named.header in
    as_rest header (left_of c.args.lines (remaining c.args.reader.now)) (remaining c.node_behind.new.reader) c.in-Err.fault (c.in-Err.ensures.left (begun header) c.requires)
