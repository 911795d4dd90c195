use Rattle.std.proofs.Common.{◌∙◌, Bool, ap}
use Rattle.shm_place.specs.declared.page_id.PageId.{PageId}
use Rattle.shm_model.specs.Site.{untouched}
use Rattle.shm_attach.specs.Attachments.{attachments_of}
use Rattle.shm_page.specs.Entry.{entry_of}
use Rattle.shm_parts.specs.Entries.{entries_of}
use Rattle.shm_parts.specs.Holdings.{held_frames}
use Rattle.shm_parts.specs.Purged.{purged_of}
use Rattle.shm_parts.proofs.Held.{Pages, masked, masked_at, site_of}
use Rattle.shm_parts.proofs.HeldRestoring.{reach_entry, stored_still, stored_there}
use Rattle.shm_parts.proofs.holdings.Holdings.restore_entry.Goals as goal

pub invariant_of-self : goal.invariant_of-self
invariant_of-self g c =
    let held = c.args.self.now in
    record {
      reached = reach_entry c.restore.result held.entries c.restore.new.self held.attachments held.purged held.frames c.args.page
          c.restore.ensures.stored c.restore.ensures.same held.reached;
    }

pub returns-in-Ok-clause-after : goal.returns-in-Ok-clause-after
returns-in-Ok-clause-after g c = λ sites me site.
    let held = c.args.self.now in
    let rest = untouched sites me in
    ap (λ (e : Pages). site_of e (attachments_of held.attachments) (purged_of held.purged) (held_frames held.frames) site)
    (ap (masked (purged_of held.purged)) (c.in-Ok.ensures.entries rest) ∙ masked_at (purged_of held.purged) (entries_of rest held.entries) c.args.page (entry_of c.args.entry) c.requires)

pub returns-in-Ok-clause-stored : goal.returns-in-Ok-clause-stored
returns-in-Ok-clause-stored g c = stored_there c.args.self.now.entries c.restore.new.self c.args.page c.in-Ok.ensures.stored

pub returns-in-Ok-clause-stays : goal.returns-in-Ok-clause-stays
returns-in-Ok-clause-stays g c = λ q there. stored_still c.args.self.now.entries c.restore.new.self c.args.page q c.in-Ok.ensures.stored there

pub returns-in-Err-clause-refused : goal.returns-in-Err-clause-refused
returns-in-Err-clause-refused g c = λ sites me site.
    let held = c.args.self.now in
    ap (λ (e : Pages). site_of (masked (purged_of held.purged) e) (attachments_of held.attachments) (purged_of held.purged) (held_frames held.frames) site) (c.in-Err.ensures.refused (untouched sites me))

pub returns-in-Err-clause-stays : goal.returns-in-Err-clause-stays
returns-in-Err-clause-stays g c = λ q there. ap (λ (t : PageId → Bool). t q) c.in-Err.ensures.same ∙ there
