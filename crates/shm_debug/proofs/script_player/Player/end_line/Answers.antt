use Rattle.shm_debug.proofs.PlayerLemmas.{passes}
use Rattle.shm_debug.proofs.script_player.Player.end_line.Goals as goal

pub returns-in-Ok-pass-clause-ok : goal.returns-in-Ok-pass-clause-ok
returns-in-Ok-pass-clause-ok g c =
    passes c.args.self.now c.complete.new.self c.pass.new.self c.args.bytes.now c.args.output.now c.pass.new.output c.in-Ok.line c.in-Ok.ensures.ok
    c.in-Ok.ensures.lines c.in-Ok.ensures.standing c.in-Ok-pass.ensures.told c.in-Ok-pass.ensures.passed
