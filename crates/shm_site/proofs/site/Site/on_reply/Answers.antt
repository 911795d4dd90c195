use Rattle.std.proofs.Common.{◌∙◌, [], ap}
use Rattle.shm_model.specs.declared.call.Op.{Op}
use Rattle.shm_model.specs.declared.call.Op.TheVariants.{Attach}
use Rattle.shm_model.specs.SegmentCalls.{on_reply, reply_counts}
use Rattle.shm_site.specs.Site.{site_of, stepped}
use Rattle.shm_site.proofs.CallSteps.{if_made}
use Rattle.shm_site.proofs.site.Site.on_reply.Goals as goal

pub returns-in-Attach-clause-step : goal.returns-in-Attach-clause-step
returns-in-Attach-clause-step g c =
    let site = site_of c.args.self.now in
    let attach : Op = Attach c.in-Attach.cred c.in-Attach.id c.in-Attach.ro in
    let counts = c.in-Some.ensures.step site ∙ ap (λ (op : Op). reply_counts c.args.number op c.args.reply site) c.in-Attach.is in
    if_made (on_reply c.args.number c.args.reply site) (reply_counts c.args.number attach c.args.reply site)
    (λ answer. stepped c.on_attach_reply.new.self answer []) c.on_attach_reply.result counts (c.on_attach_reply.ensures.step c.in-Attach.cred c.in-Attach.ro)
