use Rattle.std.proofs.Common.{◌≡◌, ◌+◌, [], ◌∷◌, ◌++◌, inl, length, sym, subst, ◌∙◌, arith}
use Rattle.shm_journal.specs.Found.{own}
use Rattle.shm_journal.specs.HeaderOf.{header_of}
use Rattle.shm_journal.specs.Lines.{header_line}
use Rattle.shm_journal.specs.LinesOf.{behind, left_of, line_in}
use Rattle.shm_journal.specs.Recovers.{ReadsUpTo}
use Rattle.shm_journal.specs.declared.journal_error.JournalFault.TheVariants as journal
use Rattle.shm_journal.proofs.Gathering.{count_whole, taken_too_long, taken_torn, taken_whole, through, through_end, unread}
use Rattle.shm_journal.proofs.Leading.{first_breaks, first_overruns}
use Rattle.shm_journal.proofs.RecoveryLemmas.{breaks_first, checked, checked_leads, checked_stops, front_known, fronted_none}
use Rattle.shm_journal.proofs.recover_site.read_header.Goals as goal

pub returns-in_default-clause-left : goal.returns-in_default-clause-left
returns-in_default-clause-left g c =
    let remaining = g.R.Read.remaining in
    let before = left_of c.args.lines.now (remaining c.args.reader.now) in
    first_breaks (own (header_of c.args.header)) before (remaining c.args.reader.now) journal.OutOfMemory
    (unread c.args.lines.now (remaining c.args.reader.now) journal.OutOfMemory tt)

pub returns-in-Ok-Whole-clause-whole : goal.returns-in-Ok-Whole-clause-whole
returns-in-Ok-Whole-clause-whole g c =
    let remaining = g.R.Read.remaining in
    let header = header_of c.args.header in
    let lines = c.take.new.self in
    let line = line_in lines in
    let before = left_of c.args.lines.now (remaining c.args.reader.now) in
    let now = remaining c.take.new.reader in
    let o = c.in-Ok-Whole in
    let written : c.as_bytes.result.now ≡ header_line header = c.as_bytes.ensures.value ∙ c.in-Ok.ensures.ok in
    let counted = count_whole o.field-0 lines.whole c.args.lines.now.whole line o.field-0-is o.ensures.whole in
    let count : lines.whole ≡ length line + 1 = omega (arith, counted, c.requires) in
    checked_leads header before (left_of lines now) line c.check_header.result lines.whole
    (checked header c.as_bytes.result.now line c.line.result.now c.check_header.result written c.line.ensures c.check_header.ensures)
    (taken_whole o.field-0 before (left_of lines now) now line o.field-0-is o.ensures.takes) o.ensures.unended o.ensures.short count

pub returns-in-Ok-Whole-clause-left : goal.returns-in-Ok-Whole-clause-left
returns-in-Ok-Whole-clause-left g c =
    let remaining = g.R.Read.remaining in
    let header = header_of c.args.header in
    let lines = c.take.new.self in
    let line = line_in lines in
    let before = left_of c.args.lines.now (remaining c.args.reader.now) in
    let now = remaining c.take.new.reader in
    let o = c.in-Ok-Whole in
    let written : c.as_bytes.result.now ≡ header_line header = c.as_bytes.ensures.value ∙ c.in-Ok.ensures.ok in
    checked_stops header before now line (behind lines) c.check_header.result
    (checked header c.as_bytes.result.now line c.line.result.now c.check_header.result written c.line.ensures c.check_header.ensures)
    (through before now (line ++ 10 ∷ []) (behind lines) (taken_whole o.field-0 before (left_of lines now) now line o.field-0-is o.ensures.takes))
    o.ensures.unended o.ensures.short o.ensures.once

pub returns-in-Ok-Torn-clause-none : goal.returns-in-Ok-Torn-clause-none
returns-in-Ok-Torn-clause-none g c =
    let remaining = g.R.Read.remaining in
    let header = header_of c.args.header in
    let lines = c.take.new.self in
    let line = line_in lines in
    let before = left_of c.args.lines.now (remaining c.args.reader.now) in
    let now = remaining c.take.new.reader in
    let o = c.in-Ok-Torn in
    let torn = taken_torn o.field-0 before (left_of lines now) now line o.field-0-is o.ensures.takes in
    let written : c.as_bytes-in-Ok-Torn.result.now ≡ header_line header = c.as_bytes-in-Ok-Torn.ensures.value ∙ c.in-Ok.ensures.ok in
    fronted_none header before now c.check_front.result
    (front_known header before now line c.line-in-Ok-Torn.result.now c.as_bytes-in-Ok-Torn.result.now c.check_front.result written c.line-in-Ok-Torn.ensures c.check_front.ensures
    (through_end before now line (behind lines) torn.0 torn.2) o.ensures.unended o.ensures.short torn.1)

pub returns-in-Ok-Torn-clause-left : goal.returns-in-Ok-Torn-clause-left
returns-in-Ok-Torn-clause-left g c =
    let remaining = g.R.Read.remaining in
    let header = header_of c.args.header in
    let lines = c.take.new.self in
    let line = line_in lines in
    let before = left_of c.args.lines.now (remaining c.args.reader.now) in
    let now = remaining c.take.new.reader in
    let o = c.in-Ok-Torn in
    let torn = taken_torn o.field-0 before (left_of lines now) now line o.field-0-is o.ensures.takes in
    let written : c.as_bytes-in-Ok-Torn.result.now ≡ header_line header = c.as_bytes-in-Ok-Torn.ensures.value ∙ c.in-Ok.ensures.ok in
    (front_known header before now line c.line-in-Ok-Torn.result.now c.as_bytes-in-Ok-Torn.result.now c.check_front.result written c.line-in-Ok-Torn.ensures c.check_front.ensures
    (through_end before now line (behind lines) torn.0 torn.2) o.ensures.unended o.ensures.short torn.1).left

pub returns-in-Ok-TooLong-clause-left : goal.returns-in-Ok-TooLong-clause-left
returns-in-Ok-TooLong-clause-left g c =
    let remaining = g.R.Read.remaining in
    let lines = c.take.new.self in
    let before = left_of c.args.lines.now (remaining c.args.reader.now) in
    let now = remaining c.take.new.reader in
    let o = c.in-Ok-TooLong in
    let over = taken_too_long o.field-0 before (left_of lines now) now (line_in lines) o.field-0-is o.ensures.takes in
    inl
    (first_overruns (own (header_of c.args.header)) before now over.front (behind lines) (through before now over.front (behind lines) over.taken) over.unended over.long o.ensures.once)

pub returns-clause-left : goal.returns-clause-left
returns-clause-left g c =
    let remaining = g.R.Read.remaining in
    let header = header_of c.args.header in
    let before = left_of c.args.lines.now (remaining c.args.reader.now) in
    let now = remaining c.take.new.reader in
    subst (ReadsUpTo header before now) (sym c.recovery_fault.ensures) (breaks_first header before now c.in-Err.fault c.in-Err.ensures.fault)
