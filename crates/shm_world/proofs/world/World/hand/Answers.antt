use Rattle.std.proofs.Common.{◌∙◌, ap, arith, slice_get}
use Rattle.std.proofs.lemmas.Result.{IfOk-weaker, on_err_weaker}
use Rattle.shm_model.specs.Message.{Deliver}
use Rattle.shm_model.specs.Step.{deliver}
use Rattle.shm_parts.specs.Message.{envelope_of}
use Rattle.shm_site.specs.Site.{site_of}
use Rattle.shm_site.specs.Step.{is_refused}
use Rattle.shm_world.proofs.Steps.{answered, found, stays, went}
use Rattle.shm_world.proofs.world.World.hand.Goals as goal

pub returns-clause-step : goal.returns-clause-step
returns-clause-step g c = λ w stands.
    let old = c.args.self.now in
    let e = envelope_of c.args.envelope in
    let s = c.args.envelope.to in
    let one = found site_of old.members.sites.items s (omega (arith, old.members.whole, c.in_default.ensures.site)) in
    IfOk-weaker c.deliver.result _ _
    (λ answer made. went old _ w s one.site (Deliver e) answer stands
    (ap (λ l. slice_get l s) stands.sites ∙ one.there)
    (omega (arith, c.in_default.ensures.numbers, stands.carries.count))
    (made one.site one.there) c.deliver.ensures.count)
    c.deliver.ensures.step

pub returns-clause-refused : goal.returns-clause-refused
returns-clause-refused g c = λ w stands.
    on_err_weaker c.deliver.result (λ same. stays c.args.self.now _ w stands c.deliver.ensures.count same.0 same.1) c.deliver.ensures.refused

pub returns-clause-memory : goal.returns-clause-memory
returns-clause-memory g c = λ w stands.
    let old = c.args.self.now in
    let e = envelope_of c.args.envelope in
    let s = c.args.envelope.to in
    let one = found site_of old.members.sites.items s (omega (arith, old.members.whole, c.in_default.ensures.site)) in
    on_err_weaker c.deliver.result (λ grows.
    ap is_refused (answered w s one.site (Deliver e)
    (ap (λ l. slice_get l s) stands.sites ∙ one.there)
    (omega (arith, c.in_default.ensures.numbers, stands.carries.count)))
    ∙ ap (λ n. is_refused (deliver n s e one.site).answer) stands.count ∙ grows one.site one.there)
    c.deliver.ensures.memory

pub returns-clause-places : goal.returns-clause-places
returns-clause-places g c = on_err_weaker c.deliver.result (λ same. same.1.places) c.deliver.ensures.refused
