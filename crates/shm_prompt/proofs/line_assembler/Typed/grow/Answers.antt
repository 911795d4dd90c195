use Rattle.std.proofs.Common.{◌≡◌, ◌∙◌, ◌++◌, ◌∷◌, [], length, sym, arith}
use Rattle.shm_prompt.proofs.TypingLemmas.{grown_blank, grown_full, grown_more}
use Rattle.shm_prompt.proofs.line_assembler.Typed.grow.Goals as goal

pub returns-then-is_blank_before-clause-grows : goal.returns-then-is_blank_before-clause-grows
returns-then-is_blank_before-clause-grows g c = λ front k plain.
    grown_blank front c.args.self.now.line.items c.args.self.now.is_long c.args.byte k plain (sym c.is_blank_before.ensures ∙ c.if-is_blank_before.true)

pub returns-then-len-eq-MAX_LINE_BYTES-clause-grows : goal.returns-then-len-eq-MAX_LINE_BYTES-clause-grows
returns-then-len-eq-MAX_LINE_BYTES-clause-grows g c = λ front k plain.
    let full : length c.args.self.now.line.items ≡ 200 = omega (arith, c.if-len-eq-MAX_LINE_BYTES.true) in
    grown_full front c.args.self.now.line.items c.args.self.now.is_long c.args.byte k plain (sym c.is_blank_before.ensures ∙ c.if-is_blank_before.false) full

pub returns-clause-grows : goal.returns-clause-grows
returns-clause-grows g c = λ front k plain.
    grown_more front c.args.self.now.line.items c.push.new.self.items c.args.self.now.is_long c.args.byte k plain (sym c.is_blank_before.ensures ∙ c.if-is_blank_before.false)
    (λ full. c.if-len-eq-MAX_LINE_BYTES.false (omega (arith, full))) c.in_ok-push.ensures.items
