use Rattle.std.proofs.Common.{refl, sym}
use Rattle.shm_wire.proofs.BytesWords.{word-decoded}
use Rattle.shm_wire.proofs.parse_base64.decode.Goals as goal

pub returns-in-Ok : goal.returns-in-Ok
returns-in-Ok g c = sym (word-decoded c.args.word.now c.in-Ok.bytes.items c.in-Ok.ensures.ok (c.in-Ok.ensures.exact (refl, refl)) c.in-Ok.ensures.bytes)
