use Rattle.std.proofs.Common.{◌∙◌, ap, drop, take, sym}
use Rattle.std.specs.Io.{appended_bytes}
use Rattle.std.proofs.Math.Seq.{drop-length}
use Rattle.shm_batches.proofs.SectionLemmas.{all-lines, lines-grown, longer, one-grown, open-grown, whole-grown}
use Rattle.shm_batches.proofs.UnmarkedLemmas.{ended-line, front_of, unended-line}
use Rattle.shm_batches.specs.Chain.{begins_as_mark}
use Rattle.shm_batches.proofs.section.Section.read.Goals as goal

pub invariant_of-self : goal.invariant_of-self
invariant_of-self g c =
    let old = c.args.self.now in
    let new = c.read_until.new.buf.items in
    let grown = c.read_until.ensures.appends in
    record {
      within = longer old.text.items new old.at old.within grown;
      one = one-grown old.text.items new old.at old.within old.one c.requires grown c.read_until.ensures.stops;
    }

pub returns-then-not-is_line : goal.returns-then-not-is_line
returns-then-not-is_line g c =
    let old = c.args.self.now in
    let new = c.read_until.new.buf.items in
    let grown = c.read_until.ensures.appends in
    record {
      bytes = appended_bytes old.text.items new;
      taken = c.read_until.ensures.none_lost;
      lines = lines-grown old.text.items new old.at old.within grown;
      more = open-grown old.text.items new old.at old.within grown;
      unended = unended-line (drop old.at new) (one-grown old.text.items new old.at old.within old.one c.requires grown c.read_until.ensures.stops)
          (sym c.is_line.ensures ∙ c.if-not-is_line.true);
    }

pub returns-then-begins_as_mark : goal.returns-then-begins_as_mark
returns-then-begins_as_mark g c =
    let old = c.args.self.now in
    let new = c.read_until.new.buf.items in
    let grown = c.read_until.ensures.appends in
    let ended = sym c.is_line.ensures ∙ c.if-not-is_line.false in
    record {
      bytes = appended_bytes old.text.items new;
      taken = c.read_until.ensures.none_lost;
      line = front_of (drop old.at new);
      unended = one-grown old.text.items new old.at old.within old.one c.requires grown c.read_until.ensures.stops;
      whole = whole-grown old.text.items new old.at old.within grown ended;
      mark = ap begins_as_mark (sym c.line.ensures) ∙ sym c.begins_as_mark.ensures ∙ c.if-begins_as_mark.true;
      lines = lines-grown old.text.items new old.at old.within grown;
      here = ended-line (drop old.at new) ended;
    }

pub returns : goal.returns
returns g c =
    let old = c.args.self.now in
    let new = c.read_until.new.buf.items in
    let grown = c.read_until.ensures.appends in
    let ended = sym c.is_line.ensures ∙ c.if-not-is_line.false in
    let whole = whole-grown old.text.items new old.at old.within grown ended in
    record {
      bytes = appended_bytes old.text.items new;
      taken = c.read_until.ensures.none_lost;
      line = front_of (drop old.at new);
      unended = one-grown old.text.items new old.at old.within old.one c.requires grown c.read_until.ensures.stops;
      whole = whole;
      plain = ap begins_as_mark (sym c.line.ensures) ∙ sym c.begins_as_mark.ensures ∙ c.if-begins_as_mark.false;
      lines = ap (λ n. take n new) c.len-self.ensures ∙ all-lines old.text.items new (front_of (drop old.at new)) old.at old.within grown whole;
      none = ap (λ n. drop n new) c.len-self.ensures ∙ drop-length new;
    }
