use Rattle.std.proofs.Common.{◌∙◌, ap, arith, slice_get, sym}
use Rattle.shm_model.specs.Step.{foreign}
use Rattle.shm_parts.specs.Message.{envelope_of}
use Rattle.shm_site.specs.Site.{site_of}
use Rattle.shm_world.proofs.Steps.{found, turned_away}
use Rattle.shm_world.proofs.world.World.answer_without_copy.Goals as goal

pub returns-then-is_foreign-clause-step : goal.returns-then-is_foreign-clause-step
returns-then-is_foreign-clause-step g c = λ w stands.
    let old = c.args.self.now in
    let e = c.args.envelope.now in
    let one = found site_of old.members.sites.items e.to (omega (arith, old.members.whole, c.in_default.ensures.site)) in
    turned_away old w one.site (envelope_of e) stands
    (ap (λ l. slice_get l e.to) stands.sites ∙ one.there)
    (omega (arith, c.in_default.ensures.numbers, stands.carries.count))
    (ap (λ n. foreign n e.to (envelope_of e)) stands.count ∙ sym c.is_foreign.ensures ∙ c.if-is_foreign.true)
