use Rattle.std.proofs.Common.{arith}
use Rattle.shm_draw.proofs.Captioned.{no_text, one_text}
use Rattle.shm_draw.proofs.caption.text_in.Goals as goal

pub returns-in_default : goal.returns-in_default
returns-in_default c = no_text c.args.bytes.now c.in_default.ensures.cases.0

pub returns : goal.returns
returns c =
    one_text c.args.bytes.now c.in-Ok.text.now c.in-Ok.ensures.cases.0 c.in-Ok.ensures.cases.1 (omega (arith, c.if-bytes-gt-MAX_CAPTION_BYTES.false)) c.if-not-may_stand.ensures
