use Rattle.std.proofs.Common.{◌∙◌, ap, arith, slice_get}
use Rattle.shm_site.specs.Site.{site_of}
use Rattle.shm_site.specs.Step.{input_of, may_grow}
use Rattle.shm_world.specs.World.{input_may_grow}
use Rattle.shm_world.proofs.Steps.{answered, found, grows, stays, went}
use Rattle.shm_world.proofs.world.World.act.Goals as goal

pub returns-in-Ok-clause-step : goal.returns-in-Ok-clause-step
returns-in-Ok-clause-step g c = λ w stands.
    let old = c.args.self.now in
    let s = c.args.site in
    let i = input_of c.args.input in
    let one = found site_of old.members.sites.items s (omega (arith, old.members.whole, c.in_default.ensures.site)) in
    went old _ w s one.site i c.in-Ok.answer stands
    (ap (λ l. slice_get l s) stands.sites ∙ one.there)
    (omega (arith, c.in_default.ensures.numbers, stands.carries.count))
    (c.in-Ok.ensures.step one.site one.there) c.in-Ok.ensures.count

pub returns-in-Err-clause-refused : goal.returns-in-Err-clause-refused
returns-in-Err-clause-refused g c = λ w stands. stays c.args.self.now _ w stands c.in-Err.ensures.count c.in-Err.ensures.refused.0 c.in-Err.ensures.refused.1

pub returns-in-Err-clause-memory : goal.returns-in-Err-clause-memory
returns-in-Err-clause-memory g c = λ w stands.
    let old = c.args.self.now in
    let s = c.args.site in
    let i = input_of c.args.input in
    let one = found site_of old.members.sites.items s (omega (arith, old.members.whole, c.in_default.ensures.site)) in
    ap (input_may_grow i) (answered w s one.site i
    (ap (λ l. slice_get l s) stands.sites ∙ one.there)
    (omega (arith, c.in_default.ensures.numbers, stands.carries.count)))
    ∙ grows w.count s one.site i (ap (λ n. may_grow n s one.site i) stands.count ∙ c.in-Err.ensures.memory one.site one.there)
