use Rattle.std.proofs.Common.{Some, ap}
use Rattle.shm_attach.specs.Attachments.{attachments_of}
use Rattle.shm_parts.specs.Holdings.{held_frames}
use Rattle.shm_parts.specs.Purged.{purged_of}
use Rattle.shm_parts.proofs.Held.{Pages, masked, site_of}
use Rattle.shm_parts.proofs.Reaches.{page_below, reach_attached}
use Rattle.shm_parts.proofs.holdings.Holdings.restore_attachment.Goals as goal

pub returns-in-Err-clause-refused : goal.returns-in-Err-clause-refused
returns-in-Err-clause-refused g c = λ site.
    let held = c.args.self.now in
    ap (λ (e : Pages). site_of (masked (purged_of held.purged) e) (attachments_of held.attachments) (purged_of held.purged) (held_frames held.frames) site) c.store_pages.ensures.same

pub invariant_of-self-in-Ok : goal.invariant_of-self-in-Ok
invariant_of-self-in-Ok g c =
    let held = c.args.self.now in
    record {
      reached = reach_attached held.entries c.store_pages.new.entries held.attachments c.restore.new.self held.purged held.frames (Some c.args.number)
          (record { id = c.args.id; size = c.args.size; ro = c.args.ro }) c.restore.ensures c.store_pages.ensures.others
          (λ index below mine. c.in-Ok.ensures.stored index (page_below c.args.size c.rounded-bytes.result index c.rounded-bytes.ensures.whole below) mine)
          c.requires.alive held.reached;
    }

pub returns-in-Ok-clause-after : goal.returns-in-Ok-clause-after
returns-in-Ok-clause-after g c = λ site.
    let held = c.args.self.now in
    λ i. site_of (masked (purged_of held.purged) (c.store_pages.ensures.same i)) (c.restore.ensures i) (purged_of held.purged) (held_frames held.frames) site
