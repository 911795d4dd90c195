use Rattle.std.proofs.Common.{arith}
use Rattle.shm_prompt.proofs.NoteLemmas.{no_note, one_note}
use Rattle.shm_prompt.proofs.note_text.may_be_note.Goals as goal

pub returns-in_default : goal.returns-in_default
returns-in_default c = no_note c.args.bytes.now c.in_default.ensures.cases.0

pub returns : goal.returns
returns c =
    one_note c.args.bytes.now c.in-Ok.text.now c.may_stand.result c.in-Ok.ensures.cases.0 c.in-Ok.ensures.cases.1 (omega (arith, c.if-bytes-gt-MAX_NOTE_BYTES.false))
    c.if-not-is_on_one_line.ensures c.may_stand.ensures
