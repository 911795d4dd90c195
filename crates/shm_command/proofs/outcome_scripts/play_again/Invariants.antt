use Rattle.std.proofs.Common.{◌≡◌, take}
use Rattle.shm_debug.specs.Standing.{standing}
use Rattle.shm_model.specs.World.{Preset}
use Rattle.shm_command.proofs.outcome_scripts.play_again.Given as goal

-- the events so far happened
abbrev pub invariant-events : goal.invariant-events
invariant-events l = l.session ≡ standing (Preset l.fn.sites l.fn.pages) (take l.event-index l.events)
