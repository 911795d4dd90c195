use Rattle.shm_model.specs.Site.{untouched}
use Rattle.shm_parts.proofs.Held.{masked, site_of}
use Rattle.shm_parts.proofs.Reaches.{reach_opened}
use Rattle.shm_parts.proofs.holdings.Holdings.empty.Goals as goal

pub invariant_of-result : goal.invariant_of-result
invariant_of-result g c =
    record { reached = reach_opened c.new.result c.new-2.result c.new-3.result c.frames_for.result c.args.limit c.new-2.ensures c.frames_for.ensures }

pub returns-clause-held : goal.returns-clause-held
returns-clause-held g c = λ site.
    λ i. site_of (masked (c.new-3.ensures i) (c.new.ensures.entries (untouched c.args.sites c.args.me) i)) (c.new-2.ensures i) (c.new-3.ensures i) (c.frames_for.ensures i) site
