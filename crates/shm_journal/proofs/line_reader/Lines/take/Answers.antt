use Rattle.std.proofs.Common.{◌≡◌, refl}
use Rattle.shm_journal.specs.LinesOf.{left_of}
use Rattle.shm_journal.specs.declared.line_read_outcome.Taken.TheVariants as taken
use Rattle.shm_journal.proofs.Gathering.{filled, known, line_short, off, over_behind}
use Rattle.shm_journal.proofs.line_reader.Lines.take.Goals as goal

pub returns-in-Err-clause-fault : goal.returns-in-Err-clause-fault
returns-in-Err-clause-fault g c =
    let remaining = g.R.Read.remaining in
    off (left_of c.args.self.now (remaining c.args.reader.now)) (remaining c.fill.new.reader) c.args.self.now.whole c.reads.self (remaining c.reads.reader) c.in-Err.fault
    c.reads.invariant c.in-Err.ensures.fault

pub returns-in-Ok-Whole : goal.returns-in-Ok-Whole
returns-in-Ok-Whole g c =
    let remaining = g.R.Read.remaining in
    let before = left_of c.args.self.now (remaining c.args.reader.now) in
    let now = remaining c.fill.new.reader in
    let gathered = filled before c.args.self.now.whole c.reads.self c.fill.new.self (remaining c.reads.reader) now c.reads.invariant c.in-Ok.ensures.kept c.in-Ok.ensures.front
    c.in-Ok.ensures.len c.in-Ok.ensures.whole in
    let k = known taken.Whole before c.args.self.now.whole c.fill.new.self c.take_read.new.self now c.in-Ok-Whole.field-0 (λ e. absurd (cc)) c.in-Ok-Whole.field-0-is gathered c.in-Ok-Whole.ensures.ok in
    record { takes = k.takes; unended = k.unended; short = line_short c.take_read.new.self; once = k.once; whole = k.whole_is; fault = tt }

pub returns-in-Ok-TooLong : goal.returns-in-Ok-TooLong
returns-in-Ok-TooLong g c =
    let remaining = g.R.Read.remaining in
    let before = left_of c.args.self.now (remaining c.args.reader.now) in
    let now = remaining c.fill.new.reader in
    let gathered = filled before c.args.self.now.whole c.reads.self c.fill.new.self (remaining c.reads.reader) now c.reads.invariant c.in-Ok.ensures.kept c.in-Ok.ensures.front
    c.in-Ok.ensures.len c.in-Ok.ensures.whole in
    let k = known taken.TooLong before c.args.self.now.whole c.fill.new.self c.take_read.new.self now c.in-Ok-TooLong.field-0 (λ e. absurd (cc)) c.in-Ok-TooLong.field-0-is gathered c.in-Ok-TooLong.ensures.ok in
    record { takes = k.takes; unended = k.unended; short = line_short c.take_read.new.self; once = k.once; whole = k.whole_is; fault = tt }

pub returns-in-Err-take_read-clause-fault : goal.returns-in-Err-take_read-clause-fault
returns-in-Err-take_read-clause-fault g c =
    let remaining = g.R.Read.remaining in
    let before = left_of c.args.self.now (remaining c.args.reader.now) in
    let now = remaining c.fill.new.reader in
    let gathered = filled before c.args.self.now.whole c.reads.self c.fill.new.self (remaining c.reads.reader) now c.reads.invariant c.in-Ok.ensures.kept c.in-Ok.ensures.front
    c.in-Ok.ensures.len c.in-Ok.ensures.whole in
    off before now c.args.self.now.whole c.fill.new.self now c.in-Err-take_read.fault gathered
    (over_behind c.fill.new.self now c.in-Err-take_read.fault c.in-Err-take_read.ensures.err)

pub returns-clause-fault : goal.returns-clause-fault
returns-clause-fault g c =
    let remaining = g.R.Read.remaining in
    off (left_of c.args.self.now (remaining c.args.reader.now)) (remaining c.reads.reader) c.args.self.now.whole c.reads.self (remaining c.reads.reader) _ c.reads.invariant
    (over_behind c.reads.self (remaining c.reads.reader) _ tt)
