use Rattle.std.proofs.Common.{take}
use Rattle.shm_report.proofs.Counted.{AreMarked}
use Rattle.shm_report.proofs.count_run.count_received.Given as goal

-- what the events so far received is marked
abbrev pub invariant-events : goal.invariant-events
invariant-events l = AreMarked l.envelopes (take l.event-index l.events) l.marks.items
