use Rattle.std.proofs.Common.{rules, ◌≡◌, Some, sym}
use Rattle.shm_process.specs.CauseOf.{cause_of}
use Rattle.shm_process.specs.Recorded.{Entry}
use Rattle.shm_journal.specs.Lines.{read_entry}
use Rattle.shm_journal.proofs.EntryWords.{entry-is_spelled}
use Rattle.shm_journal.proofs.journal_line_parser.parse_entry.Goals as goal

pub returns-in-Some-2-clause-lines : goal.returns-in-Some-2-clause-lines
returns-in-Some-2-clause-lines g c =
    let entry : Entry = record { clock = c.in-Some.clock; cause = cause_of c.in-Some-2.cause } in
    let read : Some entry ≡ read_entry c.args.line.now = search rules in
    (entry-is_spelled c.args.line.now entry (sym read)).0
