use Rattle.std.proofs.Common.{ap}
use Rattle.shm_logs.specs.Boxes.SiteBox.{box_of}
use Rattle.shm_journal.specs.LinesOf.{left_of}
use Rattle.shm_audit.specs.Found.{Log}
use Rattle.shm_audit.specs.ReadingOf.{reading_at, reading_of}
use Rattle.shm_audit.proofs.Answering.{cut_read, entries_left, log_read}
use Rattle.shm_audit.proofs.log_from_journal.read_entries.Goals as goal

pub returns-in-Ok-clause-ok : goal.returns-in-Ok-clause-ok
returns-in-Ok-clause-ok g c =
    let remaining = g.R.Read.remaining in
    let box = box_of c.args.site.site_box in
    let led = c.in-Ok.ensures.whole (Log box) (ap (λ b. reading_at b box) c.requires) in
    let last = c.replay_rest.new.site in
    log_read box last.site_box (left_of c.args.lines (remaining c.args.reader.now)) (remaining c.replay_rest.new.reader) led.0 led.1 (reading_of last) c.whole_log.result
    led.4.0 led.3 c.whole_log.ensures.whole c.whole_log.ensures.log

pub returns-in-Ok-clause-left : goal.returns-in-Ok-clause-left
returns-in-Ok-clause-left g c =
    let remaining = g.R.Read.remaining in
    let box = box_of c.args.site.site_box in
    let led = c.in-Ok.ensures.whole (Log box) (ap (λ b. reading_at b box) c.requires) in
    cut_read box (left_of c.args.lines (remaining c.args.reader.now)) (remaining c.replay_rest.new.reader) led.0 led.1 (reading_of c.replay_rest.new.site) c.whole_log.result
    led.4.0 led.3 c.whole_log.ensures.cut c.whole_log.ensures.fault

pub returns-clause-left : goal.returns-clause-left
returns-clause-left g c =
    let remaining = g.R.Read.remaining in
    let box = box_of c.args.site.site_box in
    entries_left box (left_of c.args.lines (remaining c.args.reader.now)) (remaining c.replay_rest.new.reader) c.in-Err.fault
    (c.in-Err.ensures.left (Log box) (ap (λ b. reading_at b box) c.requires))
