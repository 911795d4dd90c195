use Rattle.std.proofs.Common.{refl}
use Rattle.shm_model.specs.Site.{untouched}
use Rattle.shm_attach.specs.Attachments.{attachments_of}
use Rattle.shm_parts.specs.Purged.{purged_of}
use Rattle.shm_parts.proofs.Held.{masked, site_of}
use Rattle.shm_parts.proofs.holdings.Holdings.make_room.Goals as goal

pub returns-clause-same : goal.returns-clause-same
returns-clause-same g c = λ site.
    let held = c.args.self.now in
    λ i. site_of (masked (purged_of held.purged) (c.ensure.ensures.same (untouched held.sites held.me) refl i))
    (attachments_of held.attachments) (purged_of held.purged) (c.reserve_copy.ensures.same i) site
