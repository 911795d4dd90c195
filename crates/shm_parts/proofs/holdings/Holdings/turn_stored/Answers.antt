use Rattle.std.proofs.Common.{◌∙◌, ap, Bool, sym}
use Rattle.shm_place.specs.declared.page_id.PageId.{PageId}
use Rattle.shm_model.specs.Site.{untouched}
use Rattle.shm_attach.specs.Attachments.{attachments_of}
use Rattle.shm_page.specs.Out.{out_of}
use Rattle.shm_parts.specs.Entries.{entries_of}
use Rattle.shm_parts.specs.Message.{entry_note_of}
use Rattle.shm_parts.specs.Holdings.{held_frames, with_holdings}
use Rattle.shm_parts.specs.Purged.{purged_of}
use Rattle.shm_parts.proofs.Held.{Pages, masked, site_of}
use Rattle.shm_parts.proofs.Reaches.{reach_stored}
use Rattle.shm_parts.specs.Frames.{installs}
use Rattle.shm_parts.proofs.Installs.{only-a-grant-installs}
use Rattle.shm_parts.proofs.Turned.{turned_quiet, turned_sent}
use Rattle.shm_parts.proofs.holdings.Holdings.turn_stored.Goals as goal

pub invariant_of-self : goal.invariant_of-self
invariant_of-self g c =
    let held = c.args.self.now in
    record { reached = reach_stored held.entries c.turn.new.self held.attachments held.purged held.frames c.turn.ensures.same held.reached }

pub returns-in-Err-clause-refused : goal.returns-in-Err-clause-refused
returns-in-Err-clause-refused g c = λ site.
    let held = c.args.self.now in
    ap (λ (e : Pages). site_of (masked (purged_of held.purged) e) (attachments_of held.attachments) (purged_of held.purged) (held_frames held.frames) site)
    (c.in-Err.ensures.refused (untouched c.args.self.now.sites c.args.self.now.me))

pub returns-in_default-clause-step : goal.returns-in_default-clause-step
returns-in_default-clause-step g c = λ site.
    let held = c.args.self.now in
    let rest = untouched c.args.self.now.sites c.args.self.now.me in
    turned_quiet c.args.self.now.sites c.args.self.now.me c.args.page.now (entry_note_of c.args.note) (entries_of rest held.entries) (entries_of rest c.turn.new.self)
    (attachments_of held.attachments) (purged_of held.purged) (held_frames held.frames) (out_of c.in-Ok.turned.0) site
    c.requires.alive c.in_default.ensures.nothing (c.in-Ok.ensures.out rest) (c.in-Ok.ensures.after rest)

pub arrange-requires-clause-stored : goal.arrange-requires-clause-stored
arrange-requires-clause-stored g c =
    ap (λ (t : PageId → Bool). t c.args.page.now) c.turn.ensures.same ∙ c.requires.stored

pub arrange-requires-clause-room : goal.arrange-requires-clause-room
arrange-requires-clause-room g c = λ came.
    let rest = untouched c.args.self.now.sites c.args.self.now.me in
    c.requires.room (only-a-grant-installs c.args.self.now.me c.args.note (entries_of rest c.args.self.now.entries c.args.page.now) (ap installs (sym (c.in-Ok.ensures.change rest)) ∙ came))

pub returns-clause-step : goal.returns-clause-step
returns-clause-step g c = λ site.
    let held = c.args.self.now in
    let rest = untouched c.args.self.now.sites c.args.self.now.me in
    turned_sent c.args.self.now.sites c.args.self.now.me c.args.page.now (entry_note_of c.args.note) (entries_of rest held.entries) (entries_of rest c.turn.new.self)
    (attachments_of held.attachments) (purged_of held.purged) (held_frames held.frames) (out_of c.in-Ok.turned.0) c.in-Some.envelope c.in-Ok.turned.1
    (with_holdings c.args.self.now.sites c.args.self.now.me c.arrange.new.self) site
    c.requires.alive c.in-Some.ensures.something c.in-Some.ensures.sent (c.in-Ok.ensures.out rest) (c.in-Ok.ensures.change rest) (c.in-Ok.ensures.after rest)
    (λ x. c.arrange.ensures.copies c.args.self.now.sites c.args.self.now.me x)
