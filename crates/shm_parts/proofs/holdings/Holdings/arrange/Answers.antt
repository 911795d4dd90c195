use Rattle.std.proofs.Common.{◌≡◌, ◌∙◌, Option, Some, ap, sym}
use Rattle.shm_place.specs.declared.page_id.PageId.{PageId}
use Rattle.shm_model.specs.Site.{Frames as ModelFrames, untouched}
use Rattle.shm_attach.specs.Attachments.{attachments_of}
use Rattle.shm_parts.specs.Entries.{entries_of}
use Rattle.shm_parts.specs.Holdings.{arranged_frames, given_up, held_frames, with_holdings}
use Rattle.shm_parts.specs.Purged.{purged_of}
use Rattle.shm_parts.proofs.Held.{Pages, masked, masked_forget, site_of}
use Rattle.shm_parts.proofs.Reaches.{first_stored, reach_arranged, reach_stored}
use Rattle.shm_parts.proofs.holdings.Holdings.arrange.Goals as goal

pub invariant_of-self : goal.invariant_of-self
invariant_of-self g c =
    let held = c.args.self.now in
    record {
      reached = reach_arranged held.entries held.attachments held.purged held.frames c.arrange_copies.new.frames c.args.change c.args.page.now c.requires.stored
          (ap (λ (t : Option PageId × Option ModelFrames). t.1) c.arrange_copies.ensures) held.reached;
    }

pub forget-requires : goal.forget-requires
forget-requires g c =
    let held = c.args.self.now in
    first_stored held.entries held.attachments held.purged held.frames c.args.change c.args.page.now c.in-Some.first c.requires.stored
    (sym (ap (λ (t : Option PageId × Option ModelFrames). t.0) c.arrange_copies.ensures) ∙ c.in-Some.is) held.reached

pub invariant_of-self-2 : goal.invariant_of-self-2
invariant_of-self-2 g c =
    let held = c.args.self.now in
    let arranged = reach_arranged held.entries held.attachments held.purged held.frames c.arrange_copies.new.frames c.args.change c.args.page.now c.requires.stored
    (ap (λ (t : Option PageId × Option ModelFrames). t.1) c.arrange_copies.ensures) held.reached in
    record { reached = reach_stored held.entries c.forget.new.self held.attachments held.purged c.arrange_copies.new.frames c.forget.ensures.same arranged }

pub returns-clause-copies : goal.returns-clause-copies
returns-clause-copies g c = λ sites me site.
    let held = c.args.self.now in
    let rest = untouched sites me in
    let frames = held_frames c.arrange_copies.new.frames in
    let told : ◌≡◌ {A = Option PageId × Option ModelFrames} (Some c.in-Some.first, frames) (arranged_frames c.args.change c.args.page.now (held_frames held.frames)) =
    ap (λ (first : Option PageId). (first, frames)) (sym c.in-Some.is) ∙ c.arrange_copies.ensures in
    ap (λ (e : Pages). site_of e (attachments_of held.attachments) (purged_of held.purged) frames site)
    (ap (masked (purged_of held.purged)) (c.forget.ensures.after rest) ∙ masked_forget (purged_of held.purged) (entries_of rest held.entries) c.in-Some.first)
    ∙ ap (λ (t : Option PageId × Option ModelFrames). given_up t (with_holdings sites me held site)) told
