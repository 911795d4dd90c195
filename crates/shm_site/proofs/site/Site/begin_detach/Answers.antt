use Rattle.std.proofs.Common.{None, ap, map, sym, ◌∙◌}
use Rattle.shm_model.specs.Basics.{at}
use Rattle.shm_model.specs.Site as model
use Rattle.shm_attach.specs.Attachments.{attachments_of}
use Rattle.shm_parts.specs.Holdings.{with_holdings}
use Rattle.shm_parts.specs.Message.{envelope_of}
use Rattle.shm_site.specs.Site.{site_of}
use Rattle.shm_parts.specs.declared.holdings.Holdings.{Holdings}
use Rattle.shm_site.proofs.CallSteps.{detach_began}
use Rattle.shm_site.proofs.site.Site.begin_detach.Goals as goal

pub returns-in-Began-clause-step : goal.returns-in-Began-clause-step
returns-in-Began-clause-step g c =
    let site = c.args.self.now in
    let next = c.call.new.self in
    let steps = c.in_ok-refused.ensures.step in
    let called : model.Site = site_of next in
    let taken = c.detach.ensures.taken next.sites next.me called
    ∙ ap (λ (held : Holdings g.row.A.Denot). record called { attachments = at (attachments_of held.attachments) c.args.number None }) c.call.ensures.holdings in
    record {
      makes = record {
        sent = steps.makes.sent;
        behind = steps.makes.behind;
        made = detach_began site.sites site.me c.args.number c.in-Some.id c.in-Began.call (attachments_of site.holdings.attachments c.args.number)
            (site_of site) called (with_holdings next.sites next.me c.detach.new.self called) (map envelope_of steps.makes.sent)
            (sym c.in-Some.is ∙ c.segment.ensures)
            (rw c.in-Began.is at steps.makes.made)
            taken;
      };
      seat = steps.seat;
    }
