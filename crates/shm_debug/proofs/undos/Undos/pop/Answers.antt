use Rattle.std.proofs.Common.{IfSome, ap, reverse, subst, sym}
use Rattle.shm_world.specs.Undo.{LeadsBack}
use Rattle.shm_debug.specs.Standing.{without_last, world_of}
use Rattle.shm_debug.specs.Undos.{LeadBack}
use Rattle.shm_debug.proofs.Undoing.{leads-last}
use Rattle.shm_debug.proofs.undos.Undos.pop.Goals as goal

pub returns-clause-leads : goal.returns-clause-leads
returns-clause-leads g c = λ s all.
    subst (λ us. IfSome c.pop_back.result (λ undo. LeadsBack undo (world_of s) (world_of (without_last s 1)) × LeadBack (without_last s 1) (reverse us)))
    (sym (ap (λ b. b.items) c.pop_back.ensures.items))
    (leads-last s c.args.self.now.ring.items c.pop_back.result c.pop_back.ensures.value all)
