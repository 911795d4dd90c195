use Rattle.std.proofs.Common.{◌≡◌, ◌+◌, ◌≤◌, Some, None, [], ◌∷◌, ◌++◌, length, ap, subst, sym, ◌∙◌, append_assoc, arith}
use Rattle.std.specs.Io.KnownBytes.{Consumes}
use Rattle.shm_journal.specs.Found.{found_behind}
use Rattle.shm_journal.specs.LinesOf.{behind, left_of, line_in}
use Rattle.shm_journal.specs.declared.journal_error.JournalFault.TheVariants as fault
use Rattle.shm_journal.proofs.Gathering.{count_torn, count_whole, taken_too_long, taken_torn, taken_whole, through, through_end, unread}
use Rattle.shm_journal.proofs.Leading.{begun, breaks, broken, ended, next_none, next_some, one_more, overruns, stops}
use Rattle.shm_journal.proofs.replay_lines.replay_rest.Goals as goal

pub lines-init : goal.lines-init
lines-init g c = λ state at. (
  0,
  state,
  omega arith,
  at,
  begun g.T.Replay.next (left_of c.args.lines.now (g.R.Read.remaining c.args.reader.now)) 2 state,
)

pub lines-preserved : goal.lines-preserved
lines-preserved g c = λ state at.
    let remaining = g.R.Read.remaining in
    let next = g.T.Replay.next in
    let i = c.lines.invariant state at in
    let lines = c.take.new.self in
    let line = line_in lines in
    let left = left_of c.lines.lines (remaining c.lines.reader) in
    let now = remaining c.take.new.reader in
    let more = i.0 in
    let o = c.in-Ok-Whole in
    let counted = count_whole o.field-0 lines.whole c.lines.lines.whole line o.field-0-is o.ensures.whole in
    let n = next_some _ _ _ c.in-Ok-true.field-0-test (c.in-Ok-true.ensures i.1 i.3) in
    let after : next i.1 line ≡ Some n.0 = ap (next i.1) (sym c.line.ensures) ∙ n.1 in (
      more + (length line + 1),
      n.0,
      omega (arith, counted, i.2),
      n.2,
      one_more next (λ rest. found_behind next 2 state rest) (left_of c.args.lines.now (remaining c.args.reader.now)) left (left_of lines now) c.lines.number
          i.1 n.0 more line i.4
          (taken_whole o.field-0 left (left_of lines now) now line o.field-0-is o.ensures.takes) o.ensures.unended o.ensures.short after,
    )

pub returns-in-Ok-Torn-clause-whole : goal.returns-in-Ok-Torn-clause-whole
returns-in-Ok-Torn-clause-whole g c = λ state at.
    let remaining = g.R.Read.remaining in
    let next = g.T.Replay.next in
    let i = c.lines.invariant state at in
    let lines = c.take.new.self in
    let line = line_in lines in
    let left = left_of c.lines.lines (remaining c.lines.reader) in
    let now = remaining c.take.new.reader in
    let o = c.in-Ok-Torn in
    let torn = taken_torn o.field-0 left (left_of lines now) now line o.field-0-is o.ensures.takes in
    let all = ended next (λ rest. found_behind next 2 state rest) (left_of c.args.lines.now (remaining c.args.reader.now)) left now c.lines.number
    i.1 i.0 line i.4 (through_end left now line (behind lines) torn.0 torn.2) o.ensures.unended o.ensures.short torn.1 in (
      i.0,
      i.1,
      count_torn o.field-0 lines.whole c.lines.lines.whole line o.field-0-is o.ensures.whole ∙ i.2,
      i.3,
      (all.0, all.1),
    )

pub returns-in-Ok-TooLong-clause-left : goal.returns-in-Ok-TooLong-clause-left
returns-in-Ok-TooLong-clause-left g c = λ state at.
    let remaining = g.R.Read.remaining in
    let next = g.T.Replay.next in
    let i = c.lines.invariant state at in
    let lines = c.take.new.self in
    let left = left_of c.lines.lines (remaining c.lines.reader) in
    let now = remaining c.take.new.reader in
    let o = c.in-Ok-TooLong in
    let over = taken_too_long o.field-0 left (left_of lines now) now (line_in lines) o.field-0-is o.ensures.takes in
    overruns next (λ rest. found_behind next 2 state rest) (left_of c.args.lines.now (remaining c.args.reader.now)) left now c.lines.number
    i.1 i.0 over.front (behind lines) i.4 (through left now over.front (behind lines) over.taken) over.unended over.long o.ensures.once

pub returns-in-Err-clause-left : goal.returns-in-Err-clause-left
returns-in-Err-clause-left g c = λ state at.
    let remaining = g.R.Read.remaining in
    let next = g.T.Replay.next in
    let i = c.lines.invariant state at in
    broken next (λ rest. found_behind next 2 state rest) (left_of c.args.lines.now (remaining c.args.reader.now))
    (left_of c.lines.lines (remaining c.lines.reader)) (remaining c.take.new.reader) c.lines.number i.1 i.0 c.in-Err.fault i.4
    c.in-Err.ensures.fault

pub returns-in-Ok-false-clause-left : goal.returns-in-Ok-false-clause-left
returns-in-Ok-false-clause-left g c = λ state at.
    let remaining = g.R.Read.remaining in
    let next = g.T.Replay.next in
    let i = c.lines.invariant state at in
    let lines = c.take.new.self in
    let line = line_in lines in
    let left = left_of c.lines.lines (remaining c.lines.reader) in
    let now = remaining c.take.new.reader in
    let o = c.in-Ok-Whole in
    let none : next i.1 line ≡ None =
    ap (next i.1) (sym c.line.ensures) ∙ next_none _ _ _ c.in-Ok-false.field-0-test (c.in-Ok-false.ensures i.1 i.3) in
    stops next (λ rest. found_behind next 2 state rest) (left_of c.args.lines.now (remaining c.args.reader.now)) left now c.lines.number
    i.1 i.0 line (behind lines) i.4
    (through left now (line ++ 10 ∷ []) (behind lines) (taken_whole o.field-0 left (left_of lines now) now line o.field-0-is o.ensures.takes)) o.ensures.unended o.ensures.short o.ensures.once none

pub returns-in-Err-replay_line-clause-left : goal.returns-in-Err-replay_line-clause-left
returns-in-Err-replay_line-clause-left g c = λ state at.
    let remaining = g.R.Read.remaining in
    let next = g.T.Replay.next in
    let i = c.lines.invariant state at in
    let lines = c.take.new.self in
    let line = line_in lines in
    let left = left_of c.lines.lines (remaining c.lines.reader) in
    let now = remaining c.take.new.reader in
    let o = c.in-Ok-Whole in
    let taken : Consumes left now (line ++ 10 ∷ behind lines) =
    subst (Consumes left now) (append_assoc line (10 ∷ []) (behind lines))
    (through left now (line ++ 10 ∷ []) (behind lines) (taken_whole o.field-0 left (left_of lines now) now line o.field-0-is o.ensures.takes)) in
    let once : length (10 ∷ behind lines) ≤ 8192 = omega (arith, o.ensures.once) in
    breaks next (λ rest. found_behind next 2 state rest) (left_of c.args.lines.now (remaining c.args.reader.now)) left now c.lines.number
    i.1 i.0 line (10 ∷ behind lines) i.4 taken o.ensures.unended o.ensures.short once

pub returns-clause-left : goal.returns-clause-left
returns-clause-left g c = λ state at.
    let remaining = g.R.Read.remaining in
    let next = g.T.Replay.next in
    let i = c.lines.invariant state at in
    broken next (λ rest. found_behind next 2 state rest) (left_of c.args.lines.now (remaining c.args.reader.now))
    (left_of c.lines.lines (remaining c.lines.reader)) (remaining c.lines.reader) c.lines.number i.1 i.0 fault.ReadFault i.4
    (unread c.lines.lines (remaining c.lines.reader) fault.ReadFault tt)
