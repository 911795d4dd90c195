use Rattle.std.proofs.Common.{rules, ◌≡◌, ℕ, Bool, true, List, Option, None, is_some}
use Rattle.shm_journal.specs.Lines.{read_header}
use Rattle.shm_journal.specs.LinesOf.{line_in}
use Rattle.shm_command.proofs.Unmarked.{IsSaid, IsSaidBehind, behind_first, long_first, long_second, other_first, torn_first, torn_second, whole_second}
use Rattle.shm_command.proofs.whole_journal.begins_unmarked.Goals as goal

pub returns-in-Ok-Torn : goal.returns-in-Ok-Torn
returns-in-Ok-Torn g c =
    let r = g.I.Read.remaining c.args.reader.now in
    torn_first r _ _ _ c.in-Ok-Torn.field-0 (line_in c.take.new.self) (c.new-lines.ensures.left r) c.in-Ok-Torn.field-0-is c.in-Ok-Torn.ensures.takes c.in-Ok-Torn.ensures.unended

pub returns-in-Ok-TooLong : goal.returns-in-Ok-TooLong
returns-in-Ok-TooLong g c =
    let r = g.I.Read.remaining c.args.reader.now in
    long_first r _ _ _ c.in-Ok-TooLong.field-0 (line_in c.take.new.self) (c.new-lines.ensures.left r) c.in-Ok-TooLong.field-0-is c.in-Ok-TooLong.ensures.takes

pub returns-then-is_none : goal.returns-then-is_none
returns-then-is_none g c =
    let r = g.I.Read.remaining c.args.reader.now in
    let none : read_header (line_in c.take.new.self) ≡ None = search rules in
    other_first r _ _ _ c.in-Ok-Whole.field-0 (line_in c.take.new.self) (c.new-lines.ensures.left r) c.in-Ok-Whole.field-0-is c.in-Ok-Whole.ensures.takes
    c.in-Ok-Whole.ensures.unended none

pub returns-in-Ok-Whole-take : goal.returns-in-Ok-Whole-take
returns-in-Ok-Whole-take g c =
    let r = g.I.Read.remaining c.args.reader.now in
    let some : is_some (read_header (line_in c.take.new.self)) ≡ true = search rules in
    behind_first r _ _ _ c.in-Ok-Whole.field-0 (line_in c.take.new.self) c.starts_with.result (c.new-lines.ensures.left r) c.in-Ok-Whole.field-0-is c.in-Ok-Whole.ensures.takes
    c.in-Ok-Whole.ensures.unended
    (whole_second (line_in c.take.new.self) _ _ _ c.in-Ok-Whole-take.field-0 (line_in c.take-2.new.self) c.starts_with.result c.in-Ok-Whole-take.field-0-is
    c.in-Ok-Whole-take.ensures.takes c.in-Ok-Whole-take.ensures.unended c.in-Ok-Whole.ensures.short c.in-Ok-Whole-take.ensures.short some (search rules))

pub returns-in-Ok-Torn-take : goal.returns-in-Ok-Torn-take
returns-in-Ok-Torn-take g c =
    let r = g.I.Read.remaining c.args.reader.now in
    behind_first r _ _ _ c.in-Ok-Whole.field-0 (line_in c.take.new.self) _ (c.new-lines.ensures.left r) c.in-Ok-Whole.field-0-is c.in-Ok-Whole.ensures.takes
    c.in-Ok-Whole.ensures.unended
    (torn_second (line_in c.take.new.self) _ _ _ c.in-Ok-Torn-take.field-0 (line_in c.take-2.new.self) c.in-Ok-Torn-take.field-0-is
    c.in-Ok-Torn-take.ensures.takes c.in-Ok-Torn-take.ensures.unended)

pub returns-in-Ok-TooLong-take : goal.returns-in-Ok-TooLong-take
returns-in-Ok-TooLong-take g c =
    let r = g.I.Read.remaining c.args.reader.now in
    behind_first r _ _ _ c.in-Ok-Whole.field-0 (line_in c.take.new.self) _ (c.new-lines.ensures.left r) c.in-Ok-Whole.field-0-is c.in-Ok-Whole.ensures.takes
    c.in-Ok-Whole.ensures.unended
    (long_second (line_in c.take.new.self) _ _ _ c.in-Ok-TooLong-take.field-0 (line_in c.take-2.new.self) c.in-Ok-TooLong-take.field-0-is c.in-Ok-TooLong-take.ensures.takes)
