use Rattle.std.proofs.Common.{◌≡◌, ◌∙◌}
use Rattle.shm_journal.specs.Found.{rest_found}
use Rattle.shm_journal.specs.LinesOf.{left_of}
use Rattle.shm_journal.proofs.RecoveryLemmas.{entries_left, site_read, unended_read, whole_is}
use Rattle.shm_journal.proofs.recover_site.read_entries.Goals as goal

pub returns-in-Ok-clause-whole : goal.returns-in-Ok-clause-whole
returns-in-Ok-clause-whole g c = λ stage at.
    let remaining = g.R.Read.remaining in
    let led = c.in-Ok.ensures.whole stage at in
    site_read (rest_found stage) (left_of c.args.lines (remaining c.args.reader.now)) (remaining c.replay_rest.new.reader) led.1 led.0
    c.recovered.result c.args.lines.whole led.4.0 (c.recovered.ensures.node led.1 led.3) (whole_is c.recovered.result (c.whole.ensures ∙ led.2) c.recovered.ensures.whole)

pub returns-in-Ok-clause-left : goal.returns-in-Ok-clause-left
returns-in-Ok-clause-left g c = λ stage at.
    let remaining = g.R.Read.remaining in
    let led = c.in-Ok.ensures.whole stage at in
    unended_read stage (left_of c.args.lines (remaining c.args.reader.now)) (remaining c.replay_rest.new.reader) led.1 led.0
    c.recovered.result led.4.0 c.recovered.ensures.fault (c.recovered.ensures.unended led.1 led.3)

pub returns-clause-left : goal.returns-clause-left
returns-clause-left g c = λ stage at.
    let remaining = g.R.Read.remaining in (
      c.in-Err.fault,
      c.recovery_fault.ensures,
      entries_left stage (left_of c.args.lines (remaining c.args.reader.now)) (remaining c.replay_rest.new.reader) c.in-Err.fault (c.in-Err.ensures.left stage at),
    )
