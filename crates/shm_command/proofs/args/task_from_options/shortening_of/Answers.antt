use Rattle.std.proofs.Common.{sym}
use Rattle.shm_command.proofs.args.task_from_options.shortening_of.Goals as goal

pub returns : goal.returns
returns c = record { bytes = c.in_ok-at.ensures; forgets = sym c.is_set-forgets.ensures }
