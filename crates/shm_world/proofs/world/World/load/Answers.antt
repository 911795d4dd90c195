use Rattle.std.proofs.Common.{◌∙◌, ap, arith, slice_get}
use Rattle.std.proofs.lemmas.Result.{IfOk-weaker, on_err_weaker}
use Rattle.shm_model.specs.Access.{load}
use Rattle.shm_model.specs.Message.{Load}
use Rattle.shm_site.specs.Site.{site_of}
use Rattle.shm_site.specs.Step.{is_fault}
use Rattle.shm_world.proofs.Steps.{answered, found, stays, went}
use Rattle.shm_world.proofs.world.World.load.Goals as goal

pub returns-clause-step : goal.returns-clause-step
returns-clause-step g c = λ w stands.
    let old = c.args.self.now in
    let s = c.args.site in
    let one = found site_of old.members.sites.items s (omega (arith, old.members.whole, c.in_default.ensures.site)) in
    IfOk-weaker c.load.result _ _
    (λ answer made. went old _ w s one.site (Load c.args.at c.args.offset) answer stands
    (ap (λ l. slice_get l s) stands.sites ∙ one.there)
    (omega (arith, c.in_default.ensures.numbers, stands.carries.count))
    (made one.site one.there) c.load.ensures.count)
    c.load.ensures.step

pub returns-clause-refused : goal.returns-clause-refused
returns-clause-refused g c = λ w stands.
    on_err_weaker c.load.result (λ same. stays c.args.self.now _ w stands c.load.ensures.count same.0 same.1) c.load.ensures.refused

pub returns-clause-memory : goal.returns-clause-memory
returns-clause-memory g c = λ w stands.
    let old = c.args.self.now in
    let s = c.args.site in
    let one = found site_of old.members.sites.items s (omega (arith, old.members.whole, c.in_default.ensures.site)) in
    on_err_weaker c.load.result (λ grows.
    ap is_fault (answered w s one.site (Load c.args.at c.args.offset)
    (ap (λ l. slice_get l s) stands.sites ∙ one.there)
    (omega (arith, c.in_default.ensures.numbers, stands.carries.count)))
    ∙ ap (λ n. is_fault (load n s c.args.at c.args.offset one.site).answer) stands.count ∙ grows one.site one.there)
    c.load.ensures.memory
