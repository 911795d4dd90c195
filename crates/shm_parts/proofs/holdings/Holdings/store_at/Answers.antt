use Rattle.std.proofs.Common.{◌≡◌, false, ap}
use Rattle.shm_model.specs.Entry as model
use Rattle.shm_model.specs.Site.{untouched}
use Rattle.shm_attach.specs.Attachments.{attachments_of}
use Rattle.shm_parts.specs.Entries.{entries_of, is_stored}
use Rattle.shm_parts.specs.Holdings.{held_frames}
use Rattle.shm_parts.specs.Purged.{purged_of}
use Rattle.shm_parts.specs.Reach.{manages}
use Rattle.shm_parts.proofs.Held.{elsewhere, store_no, store_yes}
use Rattle.shm_parts.proofs.Reaches.{reach_stored}
use Rattle.shm_parts.proofs.holdings.Holdings.store_at.Goals as goal

pub invariant_of-self : goal.invariant_of-self
invariant_of-self g c =
    let held = c.args.self.now in
    record { reached = reach_stored held.entries c.store_near.new.self held.attachments held.purged held.frames c.store_near.ensures.same held.reached }

pub returns-then-store_near-clause-step : goal.returns-then-store_near-clause-step
returns-then-store_near-clause-step g c = λ site.
    let held = c.args.self.now in
    let sites = held.sites in
    let me = held.me in
    let rest = untouched sites me in
    let absent = (λ (fresh : is_stored held.entries c.args.page.now ≡ false). ap model.writable (elsewhere (manages sites me c.args.page.now) (is_stored held.entries c.args.page.now) c.requires.stored fresh)) in
    store_yes sites me c.args.page.now c.args.within c.args.byte (entries_of rest held.entries) (entries_of rest c.store_near.new.self)
    (attachments_of held.attachments) (purged_of held.purged) (held_frames held.frames) site
    c.requires.alive (c.if-store_near.ensures.writable rest absent) (c.if-store_near.ensures.after rest)

pub returns-clause-step : goal.returns-clause-step
returns-clause-step g c = λ site.
    let held = c.args.self.now in
    let sites = held.sites in
    let me = held.me in
    let rest = untouched sites me in
    let absent = (λ (fresh : is_stored held.entries c.args.page.now ≡ false). ap model.writable (elsewhere (manages sites me c.args.page.now) (is_stored held.entries c.args.page.now) c.requires.stored fresh)) in
    store_no sites me c.args.page.now c.args.within c.args.byte (entries_of rest held.entries) (entries_of rest c.store_near.new.self)
    (attachments_of held.attachments) (purged_of held.purged) (held_frames held.frames) site
    c.requires.alive (c.if-store_near.ensures.writable rest absent) (c.if-store_near.ensures.after rest)
