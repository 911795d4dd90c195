-- One more envelope is told.
use Rattle.std.proofs.Common.{rules, string_bytes}
use Rattle.shm_report.proofs.Pushed.{envelope_told}
use Rattle.shm_report.proofs.log_lines.push_sent.Goals as goal

pub sent-preserved : goal.sent-preserved
sent-preserved c =
    envelope_told
    c.args.clock c.args.index c.sent.place c.args.sent.now c.index-sent-place.result (string_bytes c.args.text.now) (string_bytes c.sent.text) _
    c.sent-test.true c.index-sent-place.is c.sent.invariant (search rules)
