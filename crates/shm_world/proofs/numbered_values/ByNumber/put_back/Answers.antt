use Rattle.std.proofs.Common.{◌≡◌, ◌<◌, Some, arith, length, refl, subst, sym, rules, vec_len}
use Rattle.std.proofs.lemmas.Option.{slice_get_read}
use Rattle.shm_world.specs.ByNumber.{StandsAt}
use Rattle.shm_world.specs.declared.numbered_place.Place.{Place}
use Rattle.shm_world.proofs.Numbers.{put_rises, put_values, stands}
use Rattle.shm_world.proofs.numbered_values.ByNumber.put_back.Goals as goal

pub invariant_of-self-2 : goal.invariant_of-self-2
invariant_of-self-2 g c =
    let items = c.self.inside.places.items in
    let place = c.index.result.now in
    let at = c.args.at in
    let counted : vec_len c.self.inside.places ≡ length items = search rules in
    let within : at < length items = omega (arith, c.if-len-at.false, c.len.ensures, counted) in
    let here : StandsAt place.number at items = stands place.number at place items (slice_get_read items (length items) at place refl within c.index.ensures) refl in
    let new : Place g.row.V.Denot = record { number = place.number; value = Some c.args.value } in
    put_rises c.self.inside.next place.number at place new items c.self.invariant here c.index.ensures refl

pub returns-clause-value : goal.returns-clause-value
returns-clause-value g c = λ number k here.
    let place = c.index.result.now in
    let new : Place g.row.V.Denot = record { number = place.number; value = Some c.args.value } in
    let there : StandsAt number c.args.at c.self.inside.places.items = subst (λ b. StandsAt number c.args.at b.places) (sym c.self.view_is) here in
    rw (← c.self.view_is) (put_values c.self.inside.next number k c.args.at place new (Some c.args.value) c.self.inside.places.items c.self.invariant there c.index.ensures refl refl)
