use Rattle.std.proofs.Common.{◌≡◌, ◌∙◌, ap, subst, sym, arith, rules, length, option_copied, vec_len}
use Rattle.shm_world.specs.ByNumber.{StandsAt, value_of}
use Rattle.shm_world.proofs.Numbers.{stands_within, value_absent, value_read}
use Rattle.shm_world.proofs.numbered_values.ByNumber.get.Goals as goal

pub returns-in_err-at : goal.returns-in_err-at
returns-in_err-at g c = ap (λ r. option_copied r) c.from_residual.ensures ∙ sym (value_absent c.args.number c.args.self.now.places c.in_err-at.ensures.none)

pub index-requires : goal.index-requires
index-requires g c =
    let counted : vec_len c.self.inside.places ≡ length c.self.inside.places.items = search rules in
    omega (arith, counted, stands_within c.args.number c.in_ok-at.at c.self.inside.places.items (subst (λ b. StandsAt c.args.number c.in_ok-at.at b.places) (sym c.self.view_is) c.in_ok-at.ensures.some))

pub returns : goal.returns
returns g c =
    let here : StandsAt c.args.number c.in_ok-at.at c.self.inside.places.items = subst (λ b. StandsAt c.args.number c.in_ok-at.at b.places) (sym c.self.view_is) c.in_ok-at.ensures.some in
    c.as_ref.ensures.value
    ∙ sym (value_read c.self.inside.next c.args.number c.in_ok-at.at c.index.result.now c.self.inside.places.items c.self.invariant here c.index.ensures)
    ∙ ap (λ b. value_of c.args.number b.places) c.self.view_is
