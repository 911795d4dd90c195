-- The accesses so far have their receipts, which are told.
use Rattle.std.proofs.Common.{length}
use Rattle.shm_report.specs.Callers.{AllServed}
use Rattle.shm_report.proofs.Found.{AreTold}
use Rattle.shm_report.proofs.report_text.answer_lines.Given as goal

abbrev pub invariant-accesses : goal.invariant-accesses
invariant-accesses l = AllServed (length l.callers) l.accesses l.callers → AreTold l.accesses l.callers l.told_of l.text l.place
