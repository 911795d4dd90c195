use Rattle.std.proofs.Common.{◌≡◌, ◌+◌, [], ◌∷◌, ◌++◌, inl, inr, length, refl, arith}
use Rattle.shm_journal.specs.Found.{Bad}
use Rattle.shm_journal.specs.LinesOf.{behind, left_of, line_in}
use Rattle.shm_journal.specs.Summed.{any}
use Rattle.shm_journal.proofs.Gathering.{count_whole, taken_too_long, taken_torn, taken_whole, through, through_end}
use Rattle.shm_journal.proofs.Leading.{first_lacks, first_overruns}
use Rattle.shm_journal.proofs.SummaryLemmas.{breaks_first, first_not, names_first}
use Rattle.shm_journal.proofs.summary_reader.read_named.Goals as goal

pub returns-in-Ok-Whole-clause-ok : goal.returns-in-Ok-Whole-clause-ok
returns-in-Ok-Whole-clause-ok g c =
    let remaining = g.R.Read.remaining in
    let lines = c.take.new.self in
    let line = line_in lines in
    let before = left_of c.args.lines.now (remaining c.args.reader.now) in
    let now = remaining c.take.new.reader in
    let o = c.in-Ok-Whole in
    let counted = count_whole o.field-0 lines.whole c.args.lines.now.whole line o.field-0-is o.ensures.whole in
    let count : lines.whole ≡ length line + 1 = omega (arith, counted, c.requires) in
    names_first before (left_of lines now) line c.line.result.now lines.whole c.open_named.result
    (taken_whole o.field-0 before (left_of lines now) now line o.field-0-is o.ensures.takes) o.ensures.unended o.ensures.short c.line.ensures count
    c.open_named.ensures.read c.open_named.ensures.limits

pub returns-in-Ok-Whole-clause-left : goal.returns-in-Ok-Whole-clause-left
returns-in-Ok-Whole-clause-left g c =
    let remaining = g.R.Read.remaining in
    let lines = c.take.new.self in
    let line = line_in lines in
    let before = left_of c.args.lines.now (remaining c.args.reader.now) in
    let now = remaining c.take.new.reader in
    let o = c.in-Ok-Whole in
    first_not before now line c.line.result.now (behind lines) c.open_named.result
    (through before now (line ++ 10 ∷ []) (behind lines) (taken_whole o.field-0 before (left_of lines now) now line o.field-0-is o.ensures.takes))
    o.ensures.unended o.ensures.short o.ensures.once c.line.ensures c.open_named.ensures.err

pub returns-in-Ok-Torn-clause-left : goal.returns-in-Ok-Torn-clause-left
returns-in-Ok-Torn-clause-left g c =
    let remaining = g.R.Read.remaining in
    let lines = c.take.new.self in
    let line = line_in lines in
    let before = left_of c.args.lines.now (remaining c.args.reader.now) in
    let now = remaining c.take.new.reader in
    let o = c.in-Ok-Torn in
    let torn = taken_torn o.field-0 before (left_of lines now) now line o.field-0-is o.ensures.takes in
    inr (first_lacks any before now line (Bad 1) (through_end before now line (behind lines) torn.0 torn.2) o.ensures.unended o.ensures.short torn.1 refl)

pub returns-in-Ok-TooLong-clause-left : goal.returns-in-Ok-TooLong-clause-left
returns-in-Ok-TooLong-clause-left g c =
    let remaining = g.R.Read.remaining in
    let lines = c.take.new.self in
    let before = left_of c.args.lines.now (remaining c.args.reader.now) in
    let now = remaining c.take.new.reader in
    let o = c.in-Ok-TooLong in
    let over = taken_too_long o.field-0 before (left_of lines now) now (line_in lines) o.field-0-is o.ensures.takes in
    inl (first_overruns any before now over.front (behind lines) (through before now over.front (behind lines) over.taken) over.unended over.long o.ensures.once)

pub returns-in-Err-clause-left : goal.returns-in-Err-clause-left
returns-in-Err-clause-left g c =
    let remaining = g.R.Read.remaining in
    breaks_first (left_of c.args.lines.now (remaining c.args.reader.now)) (remaining c.take.new.reader) c.in-Err.fault c.in-Err.ensures.fault
