use Rattle.std.proofs.Common.{sym, ◌∙◌}
use Rattle.shm_model.specs.Calls.{Attachment}
use Rattle.shm_model.specs.declared.call.Reply.TheVariants.{Attached as AttachedReply}
use Rattle.shm_attach.specs.Attachments.{attachments_of, put_at}
use Rattle.shm_parts.specs.Holdings.{with_holdings}
use Rattle.shm_site.specs.Site.{site_of}
use Rattle.shm_site.proofs.CallSteps.{attached_none, attached_some}
use Rattle.shm_site.proofs.Seats.{attached_here, same_here}
use Rattle.shm_site.proofs.Steps.{on_err}
use Rattle.shm_site.proofs.site.Site.attach.Goals as goal

pub returns-in_err-attachment-clause-refused : goal.returns-in_err-attachment-clause-refused
returns-in_err-attachment-clause-refused g c =
    let site = c.args.self.now in
    on_err c.from_residual.result (same_here site.sites site.me site.holdings.sites site.holdings.me site.held_sites site.held_me site.holdings c.attach.new.self (site_of site) (c.in_err-attachment.ensures.refused (site_of site)))

pub returns-in-None-clause-step : goal.returns-in-None-clause-step
returns-in-None-clause-step g c =
    let site = c.args.self.now in
    let old = site_of site in
    let new : Attachment = record { id = c.args.id; size = c.args.attached.size; ro = c.args.attached.ro } in
    let held = rw c.in-None.is at (attached_here site.sites site.me site.holdings.sites site.holdings.me site.held_sites site.held_me site.holdings c.attach.new.self old (put_at c.in_ok-attachment.attachment new (attachments_of site.holdings.attachments)) (c.in_ok-attachment.ensures.after old)) in
    attached_none c.args.number c.args.id (AttachedReply c.args.attached) new old (with_holdings site.sites site.me c.attach.new.self old)
    (sym c.is_purged.ensures ∙ c.if-is_purged.false) (sym c.in-None.is ∙ c.in_ok-attachment.ensures.number) held

pub returns-in-Some-clause-step : goal.returns-in-Some-clause-step
returns-in-Some-clause-step g c =
    let site = c.args.self.now in
    let old = site_of site in
    let new : Attachment = record { id = c.args.id; size = c.args.attached.size; ro = c.args.attached.ro } in
    let held = rw c.in-Some.is at (attached_here site.sites site.me site.holdings.sites site.holdings.me site.held_sites site.held_me site.holdings c.attach.new.self old (put_at c.in_ok-attachment.attachment new (attachments_of site.holdings.attachments)) (c.in_ok-attachment.ensures.after old)) in
    attached_some c.args.number c.args.id c.in-Some.field-0 (AttachedReply c.args.attached) new old (with_holdings site.sites site.me c.attach.new.self old)
    (sym c.is_purged.ensures ∙ c.if-is_purged.false) (sym c.in-Some.is ∙ c.in_ok-attachment.ensures.number) held
    ∙ (rw c.in-Some.is at c.end_call.ensures.step)
