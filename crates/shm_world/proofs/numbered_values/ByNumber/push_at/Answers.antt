use Rattle.std.proofs.Common.{◌≡◌, ◌+◌, Some, [], ◌∷◌, ap, subst, sym, slice_get, ◌∙◌, arith}
use Rattle.std.specs.Option.{option_map}
use Rattle.shm_world.specs.ByNumber.{StandsAt, rises, value_of}
use Rattle.shm_world.specs.declared.numbered_place.Place.{Place}
use Rattle.shm_world.proofs.Joining.{pushed-rises, pushed-stands, pushed-values}
use Rattle.shm_world.proofs.numbered_values.ByNumber.push_at.Goals as goal

pub invariant_of-self : goal.invariant_of-self
invariant_of-self g c =
    let n = c.args.number in
    let same : c.self.inside.next ≡ c.args.self.now.next = ap (λ b. b.next) c.self.view_is in
    ap (λ ps. rises 0 ps (n + 1)) c.push_reserved.ensures.items
    ∙ pushed-rises 0 c.self.inside.next (record { number = n; value = Some c.args.value }) c.self.inside.places.items c.self.invariant (omega (arith, same, c.requires.free))

pub returns-clause-value : goal.returns-clause-value
returns-clause-value g c k =
    let same : c.self.inside.next ≡ c.args.self.now.next = ap (λ b. b.next) c.self.view_is in
    rw (← c.self.view_is) (ap (value_of k) c.push_reserved.ensures.items
    ∙ pushed-values 0 c.self.inside.next k (record { number = c.args.number; value = Some c.args.value }) c.self.inside.places.items c.self.invariant (omega (arith, same, c.requires.free)))

pub returns-clause-places : goal.returns-clause-places
returns-clause-places g c j at s =
    ap (λ ps. option_map (λ (p : Place _). p.number) (slice_get ps at)) c.push_reserved.ensures.items
    ∙ pushed-stands j at c.self.inside.places.items (record { number = c.args.number; value = Some c.args.value } ∷ [])
    (subst (λ b. StandsAt j at b.places) (sym c.self.view_is) s)
