use Rattle.std.proofs.Common.{◌≡◌, ap, ◌∙◌}
use Rattle.std.specs.Prelude.{IfSome}
use Rattle.std.proofs.lemmas.Result.{IfOk-weaker}
use Rattle.shm_state.proofs.PartWords.{read_proper}
use Rattle.shm_state.specs.PartOf.{part_in}
use Rattle.shm_state.specs.PartWords.{IsPart, part_line, part_of}
use Rattle.shm_state.proofs.part_line_parser.parse_part.Goals as goal

pub returns-clause-spelled : goal.returns-clause-spelled
returns-clause-spelled g c =
    let bytes = c.args.line.now in
    IfOk-weaker c.read.result _ (λ read. IfSome read (λ part. IsPart (part_in part) × (bytes ≡ part_line (part_in part))))
    (λ read h. read_proper part_in bytes read (h ∙ ap part_of c.of.ensures)) c.read.ensures
