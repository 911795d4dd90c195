use Rattle.std.proofs.Common.{rules, subst, take_all}
use Rattle.std.specs.List.{All}
use Rattle.std.proofs.lemmas.List.Elements.{All-map, All-more}
use Rattle.shm_state.specs.PartOf.{part_in}
use Rattle.shm_state.specs.PartWords.{IsPart}
use Rattle.shm_state.specs.declared.part.Part.{Part}
use Rattle.shm_journal.proofs.spelled_part.have_lines.Goals as goal

pub parts-preserved : goal.parts-preserved
parts-preserved g c =
    let part = c.part-item.result in
    let has : IsPart (part_in part) = search rules in
    All-more (λ (p : Part g.row.A.Denot). IsPart (part_in p)) c.args.parts.now c.parts.part-index part c.parts-test.true c.parts.invariant
    (subst (λ (p : Part g.row.A.Denot). IsPart (part_in p)) c.part-item.is has)

pub returns : goal.returns
returns g c = λ _.
    All-map IsPart part_in c.args.parts.now
    (subst (All (λ (p : Part g.row.A.Denot). IsPart (part_in p))) (take_all c.parts.part-index c.args.parts.now c.parts-test.false) c.parts.invariant)
