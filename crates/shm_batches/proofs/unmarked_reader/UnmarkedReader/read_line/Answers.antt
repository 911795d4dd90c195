use Rattle.std.proofs.Common.{◌≡◌, ◌∙◌, ap, subst, sym, arith}
use Rattle.std.specs.Prelude.{IfOk}
use Rattle.std.specs.Io.KnownBytes.{IsAtEnd}
use Rattle.shm_batches.proofs.UnmarkedLemmas.{ended-open, one-more, read-on-open}
use Rattle.shm_batches.proofs.unmarked_reader.UnmarkedReader.read_line.Goals as goal

pub invariant_of-self : goal.invariant_of-self
invariant_of-self g c = record {
  within = omega (arith, c.leave_line.ensures.at);
  one = one-more c.leave_line.new.self.line.items c.read_until-read.new.buf.items c.leave_line.new.self.one c.leave_line.ensures.open c.read_until-read.ensures.appends c.read_until-read.ensures.stops;
}

pub returns-in-Ok : goal.returns-in-Ok
returns-in-Ok g c =
    let left = g.B.Read.remaining in
    read-on-open c.args.self.now.is_over c.leave_mark.new.self.is_over (left c.args.self.now.reader) (left c.leave_line.new.self.reader) (left c.read_until-read.new.self)
    (left c.leave_mark.new.self.reader) c.leave_line.new.self.line.items c.read_until-read.new.buf.items c.args.self.now.line.items c.leave_mark.new.self.line.items
    c.args.self.now.at c.leave_line.new.self.at c.leave_mark.new.self.at c.requires.open (c.leave_mark.ensures.over ∙ c.leave_line.ensures.over)
    (ap left c.leave_line.ensures.reader) (ap left c.leave_mark.ensures.reader) c.leave_line.ensures.open c.read_until-read.ensures.appends
    c.read_until-read.ensures.none_lost c.leave_line.ensures.kept c.leave_mark.ensures.kept

pub returns-in-Err : goal.returns-in-Err
returns-in-Err g c =
    let left = g.B.Read.remaining in
    read-on-open c.args.self.now.is_over c.leave_mark.new.self.is_over (left c.args.self.now.reader) (left c.leave_line.new.self.reader) (left c.read_until-read.new.self)
    (left c.leave_mark.new.self.reader) c.leave_line.new.self.line.items c.read_until-read.new.buf.items c.args.self.now.line.items c.leave_mark.new.self.line.items
    c.args.self.now.at c.leave_line.new.self.at c.leave_mark.new.self.at c.requires.open (c.leave_mark.ensures.over ∙ c.leave_line.ensures.over)
    (ap left c.leave_line.ensures.reader) (ap left c.leave_mark.ensures.reader) c.leave_line.ensures.open c.read_until-read.ensures.appends
    c.read_until-read.ensures.none_lost c.leave_line.ensures.kept c.leave_mark.ensures.kept

pub returns-in-Ok-eq0 : goal.returns-in-Ok-eq0
returns-in-Ok-eq0 g c =
    let left = g.B.Read.remaining in
    let none : c.in-Ok-eq0.field-0 ≡ 0 = sym c.in-Ok-eq0.field-0-is ∙ c.in-Ok-eq0.field-0-test in
    let end : IsAtEnd (left c.leave_line.new.self.reader) =
    subst (λ r. IfOk r (λ n. n ≡ 0 → IsAtEnd (left c.leave_line.new.self.reader))) c.in-Ok-eq0.is c.read_until-read.ensures.end none in
    ended-open c.args.self.now.is_over (left c.args.self.now.reader) (left c.leave_line.new.self.reader) (left c.read_until-read.new.self)
    (left c.leave_mark.new.self.reader) c.leave_line.new.self.line.items c.read_until-read.new.buf.items c.args.self.now.line.items c.leave_mark.new.self.line.items
    c.args.self.now.at c.leave_line.new.self.at c.leave_mark.new.self.at c.requires.open
    (ap left c.leave_line.ensures.reader) (ap left c.leave_mark.ensures.reader) end c.leave_line.new.self.one c.leave_line.ensures.open
    c.read_until-read.ensures.none_lost c.leave_line.ensures.kept
