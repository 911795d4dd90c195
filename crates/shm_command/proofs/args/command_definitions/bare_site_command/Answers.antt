use Rattle.std.proofs.Common.{rules}
use Rattle.shm_command.proofs.args.command_definitions.bare_site_command.Goals as goal

pub returns : goal.returns
returns c = record { app = search rules; local = search rules }
