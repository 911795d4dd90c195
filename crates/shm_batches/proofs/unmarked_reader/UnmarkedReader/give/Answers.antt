use Rattle.std.proofs.Common.{◌≡◌, ◌∙◌, ◌+◌, ◌-◌, ap₂, arith, drop, take}
use Rattle.shm_batches.proofs.UnmarkedLemmas.{given-open}
use Rattle.shm_batches.proofs.unmarked_reader.UnmarkedReader.give.Goals as goal

pub returns-clause-given : goal.returns-clause-given
returns-clause-given g c =
    let at = c.args.self.now.at in
    let count = c.min-count.result in
    let few : at + count - at ≡ count = omega arith in
    given-open c.args.self.now.is_over (g.B.Read.remaining c.args.self.now.reader) c.args.self.now.line.items c.args.self.now.at c.min-count.result c.copy_from_slice.new.self (drop c.min-count.result c.args.buf.now) c.requires.open
    c.requires.whole (omega arith)
    (c.copy_from_slice.ensures.after ∙ ap₂ (λ n line. take n (drop at line)) few c.deref.ensures.value)
