use Rattle.std.proofs.Common.{ap, refl, sym, ◌∙◌}
use Rattle.shm_world.specs.Members.{members_of}
use Rattle.shm_world.specs.Undo.{with_site}
use Rattle.shm_world.proofs.Undoing.{goes-back}
use Rattle.shm_world.proofs.world.World.take_back.Goals as goal

pub returns-in-Some-clause-back : goal.returns-in-Some-clause-back
returns-in-Some-clause-back g c = λ after before stands back.
    let old = c.args.self.now in
    goes-back old _ c.args.undo after before stands back c.put.ensures.count
    (c.put.ensures.sites
    ∙ ap (λ o. with_site o (members_of old.members)) (sym c.in-Some.is)) c.go_back.ensures.sent c.go_back.ensures.live

pub returns-in_default-clause-back : goal.returns-in_default-clause-back
returns-in_default-clause-back g c = λ after before stands back.
    let old = c.args.self.now in
    goes-back old _ c.args.undo after before stands back refl
    (ap (λ o. with_site o (members_of old.members)) (sym c.in_default.is)) c.go_back.ensures.sent c.go_back.ensures.live
