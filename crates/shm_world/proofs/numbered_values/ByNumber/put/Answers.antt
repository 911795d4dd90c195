use Rattle.std.proofs.Common.{◌==◌, Some, if◌then◌else◌, ap, subst, sym, ◌∙◌}
use Rattle.shm_world.specs.ByNumber.{StandsAt, value_of}
use Rattle.shm_world.proofs.Numbers.{set_rises, set_values, stood}
use Rattle.shm_world.proofs.numbered_values.ByNumber.put.Goals as goal

pub invariant_of-self : goal.invariant_of-self
invariant_of-self g c =
    let old = c.self.inside.places.items in
    let here : StandsAt c.args.number c.in-Some.at old = subst (λ b. StandsAt c.args.number c.in-Some.at b.places) (sym c.self.view_is) c.in-Some.ensures.some in
    let it = stood c.args.number c.in-Some.at old here in
    set_rises 0 c.self.inside.next c.in-Some.at it.0 (record { number = c.args.number; value = Some c.args.value }) old it.1.0 (sym it.1.1) ∙ c.self.invariant

pub returns-clause-value : goal.returns-clause-value
returns-clause-value g c k =
    let old = c.self.inside.places.items in
    let here : StandsAt c.args.number c.in-Some.at old = subst (λ b. StandsAt c.args.number c.in-Some.at b.places) (sym c.self.view_is) c.in-Some.ensures.some in
    let it = stood c.args.number c.in-Some.at old here in
    set_values 0 c.self.inside.next k c.in-Some.at it.0 (record { number = c.args.number; value = Some c.args.value }) old c.self.invariant it.1.0 (sym it.1.1)
    ∙ ap (λ n. if n == k then Some c.args.value else value_of k old) it.1.1
    ∙ ap (λ b. if c.args.number == k then Some c.args.value else value_of k b.places) c.self.view_is
