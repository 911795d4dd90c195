use Rattle.std.proofs.Common.{◌≤◌, ◌+◌, length}
use Rattle.shm_model.specs.Opening.{opening_of}
use Rattle.shm_world.specs.Undo.{room_in}
use Rattle.shm_world.specs.World.{StandsFor}
use Rattle.shm_debug.specs.Standing.{standing, without_last, world_of}
use Rattle.shm_debug.specs.Undos.{AllLeadBack}
use Rattle.shm_debug.proofs.session_back.undo_last.Given as goal

-- the world stands before so many of the last events, and there is room, and enough kept, to go on
abbrev pub invariant-undos : goal.invariant-undos
invariant-undos g l =
    let s = standing (opening_of l.fn.opening) l.events in
    record {
      within : l._back ≤ l.count;
      enough : l.count ≤ length l.undos.ring.items + l._back;
      room : l.count ≤ room_in l.world + l._back;
      stands : StandsFor l.world (world_of (without_last s l._back));
      lead : AllLeadBack (without_last s l._back) l.undos;
    }
