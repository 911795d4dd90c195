use Rattle.std.proofs.Common.{◌∙◌, ap}
use Rattle.shm_model.specs.Step.{on_message}
use Rattle.shm_parts.specs.Message.{message_of}
use Rattle.shm_site.specs.Site.{site_of}
use Rattle.shm_site.proofs.Steps.{quietly}
use Rattle.shm_site.proofs.site.Site.on_message.Goals as goal

pub returns-in-Ok-on_reply-clause-step : goal.returns-in-Ok-on_reply-clause-step
returns-in-Ok-on_reply-clause-step g c =
    let site = c.args.self.now in
    quietly (g.O.Outbox.nothing c.args.outbox.now) c.on_reply.ensures.seat
    (ap (λ m. on_message site.sites site.me c.args.from (message_of m) (site_of site)) c.in-Reply.is ∙ c.in-Ok-on_reply.ensures.step)
