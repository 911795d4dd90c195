use Rattle.std.proofs.Common.{◌≡◌, ◌∙◌, None, refl, subst, sym, arith, rules, length, vec_len}
use Rattle.shm_world.specs.ByNumber.{StandsAt, value_of}
use Rattle.shm_world.specs.declared.numbered_place.Place.{Place}
use Rattle.shm_world.proofs.Numbers.{for_none, none_already, put_rises, put_stands, put_values, stands_within, value_absent, value_read}
use Rattle.shm_world.proofs.numbered_values.ByNumber.take.Goals as goal

pub returns-in_err-at-clause-none : goal.returns-in_err-at-clause-none
returns-in_err-at-clause-none g c =
    let items = c.args.self.now.places in
    for_none c.from_residual.result (value_of c.args.number items ≡ None) c.from_residual.ensures (value_absent c.args.number items c.in_err-at.ensures.none)

pub returns-in_err-at-clause-after : goal.returns-in_err-at-clause-after
returns-in_err-at-clause-after g c = λ k.
    let items = c.args.self.now.places in
    none_already c.args.number k items (value_absent c.args.number items c.in_err-at.ensures.none)

pub index_mut-requires : goal.index_mut-requires
index_mut-requires g c =
    let counted : vec_len c.self.inside.places ≡ length c.self.inside.places.items = search rules in
    omega (arith, counted, stands_within c.args.number c.in_ok-at.at c.self.inside.places.items (subst (λ b. StandsAt c.args.number c.in_ok-at.at b.places) (sym c.self.view_is) c.in_ok-at.ensures.some))

pub returns-in_err-value-clause-none : goal.returns-in_err-value-clause-none
returns-in_err-value-clause-none g c =
    rw (← c.self.view_is) (for_none c.from_residual-in_err-value.result (value_of c.args.number c.self.inside.places.items ≡ None) c.from_residual-in_err-value.ensures
    (value_read c.self.inside.next c.args.number c.in_ok-at.at c.index_mut.result.now c.self.inside.places.items c.self.invariant (subst (λ b. StandsAt c.args.number c.in_ok-at.at b.places) (sym c.self.view_is) c.in_ok-at.ensures.some) c.index_mut.ensures.value
    ∙ sym c.take.ensures.value ∙ c.in_err-value.was))

pub returns-in_err-value-clause-after : goal.returns-in_err-value-clause-after
returns-in_err-value-clause-after g c = λ k.
    let w : Place g.row.V.Denot = record { number = c.index_mut.result.now.number; value = c.take.new.self } in
    rw (← c.self.view_is) (put_values c.self.inside.next c.args.number k c.in_ok-at.at c.index_mut.result.now w None c.self.inside.places.items c.self.invariant
    (subst (λ b. StandsAt c.args.number c.in_ok-at.at b.places) (sym c.self.view_is) c.in_ok-at.ensures.some) c.index_mut.ensures.value refl c.take.ensures.after)

pub invariant_of-self-2 : goal.invariant_of-self-2
invariant_of-self-2 g c =
    let w : Place g.row.V.Denot = record { number = c.index_mut.result.now.number; value = c.take.new.self } in
    put_rises c.self.inside.next c.args.number c.in_ok-at.at c.index_mut.result.now w c.self.inside.places.items c.self.invariant
    (subst (λ b. StandsAt c.args.number c.in_ok-at.at b.places) (sym c.self.view_is) c.in_ok-at.ensures.some) c.index_mut.ensures.value refl

pub returns-clause-some : goal.returns-clause-some
returns-clause-some g c =
    rw (← c.self.view_is) (value_read c.self.inside.next c.args.number c.in_ok-at.at c.index_mut.result.now c.self.inside.places.items c.self.invariant
    (subst (λ b. StandsAt c.args.number c.in_ok-at.at b.places) (sym c.self.view_is) c.in_ok-at.ensures.some) c.index_mut.ensures.value
    ∙ sym c.take.ensures.value ∙ c.in_ok-value.was)

pub returns-clause-after : goal.returns-clause-after
returns-clause-after g c = λ k.
    let w : Place g.row.V.Denot = record { number = c.index_mut.result.now.number; value = c.take.new.self } in
    rw (← c.self.view_is) (put_values c.self.inside.next c.args.number k c.in_ok-at.at c.index_mut.result.now w None c.self.inside.places.items c.self.invariant
    (subst (λ b. StandsAt c.args.number c.in_ok-at.at b.places) (sym c.self.view_is) c.in_ok-at.ensures.some) c.index_mut.ensures.value refl c.take.ensures.after)

pub returns-clause-place : goal.returns-clause-place
returns-clause-place g c =
    let w : Place g.row.V.Denot = record { number = c.index_mut.result.now.number; value = c.take.new.self } in
    put_stands c.args.number c.in_ok-at.at c.index_mut.result.now w c.self.inside.places.items (subst (λ b. StandsAt c.args.number c.in_ok-at.at b.places) (sym c.self.view_is) c.in_ok-at.ensures.some) c.index_mut.ensures.value refl
