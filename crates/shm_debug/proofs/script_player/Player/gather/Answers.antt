use Rattle.std.proofs.Common.{◌<◌, length, arith}
use Rattle.std.proofs.lemmas.Bool.Decides.{nat_tests}
use Rattle.shm_debug.proofs.PlayerLemmas.{past_limit}
use Rattle.shm_debug.proofs.script_player.Player.gather.Goals as goal

pub returns-in-Err-clause-err : goal.returns-in-Err-clause-err
returns-in-Err-clause-err g c =
    let some : 0 < length c.args.bytes.now = grind (arith, nat_tests) in
    past_limit c.self.inside.lines c.self.inside.session c.self.inside.line.items c.args.self.now c.self.invariant c.self.view_is
    c.args.bytes.now c.in-Err.fault c.requires some (λ l h. c.in-Err.ensures.err l (omega (arith, h, c.self.inside.line.ok.0)))
