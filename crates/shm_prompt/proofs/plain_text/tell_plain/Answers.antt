use Rattle.shm_prompt.proofs.PlainLemmas.{tells_more, tells_none}
use Rattle.shm_prompt.proofs.plain_text.tell_plain.Goals as goal

pub bytes-init : goal.bytes-init
bytes-init g c = tells_none c.args.out.now.items

pub bytes-preserved : goal.bytes-preserved
bytes-preserved g c =
    tells_more c.args.out.now.items c.bytes.out.items c.push.new.self.items c.plain.result c.bytes.invariant c.in_ok-push.ensures.items c.plain.ensures
