use Rattle.std.proofs.Common.{◌∙◌, ℕ, Bool, ap, refl}
use Rattle.shm_model.specs.Site.{untouched}
use Rattle.shm_attach.specs.Attachments.{attachments_of}
use Rattle.shm_parts.specs.Entries.{entries_of}
use Rattle.shm_parts.specs.Holdings.{held_frames}
use Rattle.shm_parts.specs.Purged.{purged_of}
use Rattle.shm_parts.proofs.Held.{masked, masked_purge, site_of}
use Rattle.shm_parts.proofs.HeldRestoring.{reach_purging}
use Rattle.shm_parts.proofs.holdings.Holdings.restore_purged.Goals as goal

pub invariant_of-self : goal.invariant_of-self
invariant_of-self g c =
    let held = c.args.self.now in
    record {
      reached = reach_purging c.insert.result held.entries held.attachments held.purged c.insert.new.self held.frames c.args.id
          (c.names.ensures.each c.if-names.false) c.insert.ensures.added c.insert.ensures.refused held.reached;
    }

pub returns-in-Err-clause-refused : goal.returns-in-Err-clause-refused
returns-in-Err-clause-refused g c = λ sites me site.
    let held = c.args.self.now in
    ap (λ (p : ℕ → Bool). site_of (masked p (entries_of (untouched sites me) held.entries)) (attachments_of held.attachments) p (held_frames held.frames) site) c.in-Err.ensures.refused

pub returns-in-Ok-clause-after : goal.returns-in-Ok-clause-after
returns-in-Ok-clause-after g c = λ sites me site.
    let held = c.args.self.now in
    let rest = untouched sites me in
    let entries = ap (λ (p : ℕ → Bool). masked p (entries_of rest held.entries)) c.in-Ok.ensures.added
    ∙ masked_purge (purged_of held.purged) (entries_of rest held.entries) (entries_of rest held.entries) c.args.id (λ page apart. refl) in
    λ i. site_of (entries i) (attachments_of held.attachments) (c.in-Ok.ensures.added i) (held_frames held.frames) site
