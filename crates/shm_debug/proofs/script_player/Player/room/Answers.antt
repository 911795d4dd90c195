use Rattle.shm_debug.proofs.PlayerLemmas.{open_line}
use Rattle.shm_debug.proofs.script_player.Player.room.Goals as goal

pub returns-clause-none_yet : goal.returns-clause-none_yet
returns-clause-none_yet g c = open_line c.self.inside.lines c.self.inside.session c.self.inside.line.items c.args.self.now c.self.invariant c.self.view_is
