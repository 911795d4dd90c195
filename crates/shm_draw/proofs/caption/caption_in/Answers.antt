use Rattle.std.proofs.Common.{rules, ◌≡◌, ◌∙◌, ◌==◌, ◌∷◌, ap, arith, false, sym}
use Rattle.std.specs.Option.{option_map}
use Rattle.std.proofs.lemmas.Bool.Decides.{nat_tests}
use Rattle.shm_lines.specs.Words.{words_of}
use Rattle.shm_draw.specs.Captions.{beside_of}
use Rattle.shm_draw.proofs.Captioned.{beside_told, beside_untold, parts_of_note}
use Rattle.shm_draw.proofs.caption.caption_in.Goals as goal

pub returns-in_err-text : goal.returns-in_err-text
returns-in_err-text c =
    let cut : words_of c.args.note.now ≡ c.split_at.result.0.now ∷ words_of c.in_ok-bytes.bytes.now = search rules in
    ap (option_map beside_of) c.from_residual-in_err-text.ensures
    ∙ sym (parts_of_note c.args.note.now c.split_at.result.0.now c.in_ok-bytes.bytes.now cut
    ∙ beside_untold c.split_at.result.0.now c.in_ok-bytes.bytes.now c.in_ok-line.line c.in_ok-line.ensures c.in_err-text.ensures)

pub returns : goal.returns
returns c =
    let cut : words_of c.args.note.now ≡ c.split_at.result.0.now ∷ words_of c.in_ok-bytes.bytes.now = search rules in
    let numbered : (c.in_ok-line.line == 0) ≡ false = grind (arith, nat_tests) in
    sym (parts_of_note c.args.note.now c.split_at.result.0.now c.in_ok-bytes.bytes.now cut
    ∙ beside_told c.split_at.result.0.now c.in_ok-bytes.bytes.now c.in_ok-text.text.now c.in_ok-line.line c.in_ok-line.ensures c.in_ok-text.ensures numbered)
