use Rattle.std.proofs.Common.{◌≡◌, ◌∙◌, ◌==◌, [], ◌∷◌, ap, arith, false, length}
use Rattle.std.proofs.lemmas.Bool.Decides.{nat_tests}
use Rattle.shm_draw.specs.Captions.{beside_of, besides_of}
use Rattle.shm_draw.proofs.Captioned.{besides-more, note_told}
use Rattle.shm_draw.proofs.caption.keep_note.Goals as goal

pub returns-in-Ok-clause-ok : goal.returns-in-Ok-clause-ok
returns-in-Ok-clause-ok g c =
    let some : (length c.args.note.now == 0) ≡ false = grind (arith, nat_tests) in (
      beside_of c.in-Some.caption ∷ [],
      note_told c.args.number c.args.note.now (beside_of c.in-Some.caption) some c.in-Some.ensures,
      ap besides_of c.in-Ok.ensures.items ∙ besides-more c.args.captions.now.items c.in-Some.caption,
    )
