use Rattle.shm_model.specs.Site.{untouched}
use Rattle.shm_attach.specs.Attachments.{attachments_of}
use Rattle.shm_parts.proofs.Held.{masked, site_of}
use Rattle.shm_parts.proofs.Reaches.{reach_copied}
use Rattle.shm_parts.proofs.holdings.Holdings.copy.Goals as goal

pub invariant_of-result : goal.invariant_of-result
invariant_of-result g c =
    let held = c.args.self.now in
    record {
      reached = reach_copied held.entries c.in_ok-entries.entries held.attachments c.copy-3.result held.purged c.in_ok-purged.purged held.frames c.in_ok-frames.frames
          c.in_ok-entries.ensures.stored c.copy-3.ensures c.in_ok-purged.ensures c.in_ok-frames.ensures held.reached;
    }

pub returns-clause-held : goal.returns-clause-held
returns-clause-held g c = λ sites me site.
    λ i. site_of (masked (c.in_ok-purged.ensures i) (c.in_ok-entries.ensures.entries (untouched sites me) i)) (attachments_of (c.copy-3.ensures i)) (c.in_ok-purged.ensures i) (c.in_ok-frames.ensures i) site
