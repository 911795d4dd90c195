use Rattle.std.proofs.Common.{◌∙◌, ap, sym}
use Rattle.shm_batches.proofs.UnmarkedLemmas.{gone, stays}
use Rattle.shm_batches.specs.UnmarkedLine.{left_of_line}
use Rattle.shm_batches.proofs.unmarked_reader.UnmarkedReader.leave_mark.Goals as goal

pub returns-then-has_mark-clause-kept : goal.returns-then-has_mark-clause-kept
returns-then-has_mark-clause-kept g c rest =
    let line = c.args.self.now.line.items in
    ap (λ l. left_of_line l 0 rest) c.clear.ensures.items ∙ gone line c.args.self.now.one (sym c.has_mark.ensures ∙ c.if-has_mark.true) rest

pub returns-else-has_mark-clause-kept : goal.returns-else-has_mark-clause-kept
returns-else-has_mark-clause-kept g c rest = stays c.args.self.now.line.items c.args.self.now.one (sym c.has_mark.ensures ∙ c.if-has_mark.false) rest
