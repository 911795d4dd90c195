use Rattle.std.proofs.Common.{arith, subst, sym}
use Rattle.shm_model.specs.Opening.{opening_of}
use Rattle.shm_world.specs.World.{StandsFor}
use Rattle.shm_debug.specs.Standing.{Standing, standing, without_last, world_of}
use Rattle.shm_debug.specs.Undos.{AllLeadBack}
use Rattle.shm_debug.proofs.Undoing.{without-none}
use Rattle.shm_debug.proofs.session_back.undo_last.Goals as goal

pub undos-init : goal.undos-init
undos-init g c =
    let s = standing (opening_of c.args.opening) c.args.events.now in
    record {
      within = omega arith;
      enough = omega (arith, c.len.ensures);
      room = omega (arith, c.in-Ok.ensures.room);
      stands = c.in-Ok.ensures.same (world_of (without_last s 0)) (subst (λ (t : Standing). StandsFor {A = g.row.A.Denot} c.args.world.now (world_of t)) (sym (without-none s)) c.requires.stands);
      lead = subst (λ (t : Standing). AllLeadBack {A = g.row.A.Denot} t c.args.undos.now) (sym (without-none s)) c.requires.lead;
    }
