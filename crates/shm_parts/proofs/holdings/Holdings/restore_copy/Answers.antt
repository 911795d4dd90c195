use Rattle.std.proofs.Common.{◌∙◌, ◌&&◌, Option, is_some, ap, sym}
use Rattle.shm_model.specs.Site.{Frames as ModelFrames, untouched}
use Rattle.shm_attach.specs.Attachments.{attachments_of}
use Rattle.shm_parts.specs.Entries.{entries_of}
use Rattle.shm_parts.specs.Holdings.{held_frames}
use Rattle.shm_parts.specs.Purged.{purged_of}
use Rattle.shm_parts.specs.Restored.{is_new_copy, with_copy}
use Rattle.shm_parts.proofs.EntryLemmas.{if_ok, on_err}
use Rattle.shm_parts.proofs.Held.{masked, site_of}
use Rattle.shm_parts.proofs.HeldRestoring.{chosen, reach_copy}
use Rattle.shm_parts.proofs.holdings.Holdings.restore_copy.Goals as goal

pub returns-in_default-clause-joins : goal.returns-in_default-clause-joins
returns-in_default-clause-joins g c =
    ap (λ o. is_some o && is_new_copy c.args.page.now (held_frames c.args.self.now.frames)) c.in_default.ensures

pub invariant_of-self : goal.invariant_of-self
invariant_of-self g c =
    let held = c.args.self.now in
    record {
      reached = reach_copy held.entries held.attachments held.purged held.frames c.join_copies.new.frames c.args.page.now c.join_copies.result
          (ap is_some (sym c.in-Some.ensures)) c.join_copies.ensures.after c.join_copies.ensures.refused held.reached;
    }

pub returns-clause-joins : goal.returns-clause-joins
returns-clause-joins g c =
    if_ok c.join_copies.result (λ joins is. is ∙ ap (λ o. is_some o && is_new_copy c.args.page.now (held_frames c.args.self.now.frames)) c.in-Some.ensures) c.join_copies.ensures.joins

pub returns-clause-after : goal.returns-clause-after
returns-clause-after g c =
    let held = c.args.self.now in
    if_ok c.join_copies.result
    (λ joins is. λ sites me site.
    chosen joins (λ (f : Option ModelFrames). site_of (masked (purged_of held.purged) (entries_of (untouched sites me) held.entries)) (attachments_of held.attachments) (purged_of held.purged) f site)
    (held_frames c.join_copies.new.frames) (with_copy c.args.page.now (held_frames held.frames)) (held_frames held.frames) is)
    c.join_copies.ensures.after

pub returns-clause-refused : goal.returns-clause-refused
returns-clause-refused g c =
    let held = c.args.self.now in
    on_err c.join_copies.result
    (λ same. λ sites me site.
    ap (λ (f : Option ModelFrames). site_of (masked (purged_of held.purged) (entries_of (untouched sites me) held.entries)) (attachments_of held.attachments) (purged_of held.purged) f site) same)
    c.join_copies.ensures.refused
