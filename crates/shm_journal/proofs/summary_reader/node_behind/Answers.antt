use Rattle.shm_journal.specs.LinesOf.{left_of}
use Rattle.shm_journal.proofs.RecoveryLemmas.{entries_left}
use Rattle.shm_journal.proofs.SummaryLemmas.{leads_behind, unended_behind}
use Rattle.shm_journal.proofs.summary_reader.node_behind.Goals as goal

pub returns-in-Ok-clause-ok : goal.returns-in-Ok-clause-ok
returns-in-Ok-clause-ok g c = λ stage at.
    let remaining = g.R.Read.remaining in
    let led = c.in-Ok.ensures.whole stage at in
    leads_behind stage (left_of c.args.lines.now (remaining c.args.reader.now)) (remaining c.replay_rest.new.reader) c.args.lines.now c.replay_rest.new.lines led.1 led.0
    c.node_of_whole.result led.4.0 led.2 led.4.1 (c.node_of_whole.ensures.node led.1 led.3)

pub returns-in-Ok-clause-left : goal.returns-in-Ok-clause-left
returns-in-Ok-clause-left g c = λ stage at.
    let remaining = g.R.Read.remaining in
    let led = c.in-Ok.ensures.whole stage at in
    unended_behind stage (left_of c.args.lines.now (remaining c.args.reader.now)) (remaining c.replay_rest.new.reader) led.1 led.0 c.node_of_whole.result led.4.0
    c.node_of_whole.ensures.fault (c.node_of_whole.ensures.unended led.1 led.3)

pub returns-in-Err-clause-left : goal.returns-in-Err-clause-left
returns-in-Err-clause-left g c = λ stage at.
    let remaining = g.R.Read.remaining in
    entries_left stage (left_of c.args.lines.now (remaining c.args.reader.now)) (remaining c.replay_rest.new.reader) c.in-Err.fault (c.in-Err.ensures.left stage at)
