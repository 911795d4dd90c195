use Rattle.std.proofs.Common.{◌≡◌, ap, ◌∙◌}
use Rattle.std.specs.Prelude.{IfSome}
use Rattle.std.proofs.lemmas.Result.{IfOk-weaker}
use Rattle.shm_wire.proofs.LineWords.{read_proper}
use Rattle.shm_wire.specs.Line.{IsLine, line_of_words, line_text}
use Rattle.shm_wire.specs.LineOf.{line_of}
use Rattle.shm_wire.proofs.stream_line_parser.parse_line.Goals as goal

pub returns-clause-spelled : goal.returns-clause-spelled
returns-clause-spelled g c =
    let bytes = c.args.line.now in
    IfOk-weaker c.read.result _ (λ read. IfSome read (λ is. IsLine (line_of is) × (bytes ≡ line_text (line_of is))))
    (λ read h. read_proper line_of bytes read (h ∙ ap line_of_words c.of.ensures)) c.read.ensures.read
