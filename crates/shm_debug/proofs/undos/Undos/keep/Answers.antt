use Rattle.std.proofs.Common.{ap, reverse, subst, sym}
use Rattle.shm_debug.specs.Standing.{with_event}
use Rattle.shm_debug.specs.Undos.{LeadBack}
use Rattle.shm_debug.proofs.Undoing.{leads-more}
use Rattle.shm_debug.proofs.undos.Undos.keep.Goals as goal

pub returns : goal.returns
returns g c = λ s event all one.
    let ring = c.args.self.now.ring in
    subst (λ us. LeadBack (with_event s event) (reverse us)) (sym (ap (λ b. b.items) c.push_back.ensures.items))
    (leads-more s event ring.capacity ring.items c.args.undo all one)
