use Rattle.std.proofs.Common.{◌≡◌, ◌-◌, ℕ, ap, subst, sym, ◌∙◌, arith, vec_capacity, vec_len}
use Rattle.std.specs.List.{insert}
use Rattle.shm_world.specs.ByNumber.{StandsAt, place_for, rises, value_of}
use Rattle.shm_world.proofs.Joining.{inserted-is, inserted-rises, inserted-values}
use Rattle.shm_world.proofs.Numbers.{place_within}
use Rattle.shm_world.proofs.numbered_values.ByNumber.insert.Goals as goal

pub insert-requires : goal.insert-requires
insert-requires g c =
    let old = c.self.inside.places.items in
    let here : c.place_for-at.result ≡ place_for c.args.place.number old = c.place_for-at.ensures ∙ sym (ap (λ b. place_for c.args.place.number b.places) c.self.view_is) in
    omega (arith, here, place_within c.args.place.number old, c.self.inside.places.ok.0)

pub invariant_of-self : goal.invariant_of-self
invariant_of-self g c =
    let old = c.self.inside.places.items in
    let same : c.self.inside.next ≡ c.args.self.now.next = ap (λ b. b.next) c.self.view_is in
    let room : vec_capacity c.self.inside.places - vec_len c.self.inside.places ≡ c.args.self.now.spare = ap (λ b. b.spare) c.self.view_is in
    let here : c.place_for-at.result ≡ place_for c.args.place.number old = c.place_for-at.ensures ∙ sym (ap (λ b. place_for c.args.place.number b.places) c.self.view_is) in
    let made : c.insert.new.self.items ≡ insert old (place_for c.args.place.number old) c.args.place =
    inserted-is c.place_for-at.result c.args.place _ old c.insert.new.self.items c.insert.ensures.items (c.insert.ensures.succeeds (omega (arith, room, c.requires.room))) here in
    ap (λ ps. rises 0 ps c.self.inside.next) made
    ∙ inserted-rises 0 c.self.inside.next c.args.place old c.self.invariant (omega arith) (omega (arith, same, c.requires.given)) (subst (λ b. (at : ℕ) → StandsAt c.args.place.number at b.places → ⊥) (sym c.self.view_is) c.requires.absent)

pub returns-clause-value : goal.returns-clause-value
returns-clause-value g c k =
    let old = c.self.inside.places.items in
    let room : vec_capacity c.self.inside.places - vec_len c.self.inside.places ≡ c.args.self.now.spare = ap (λ b. b.spare) c.self.view_is in
    let here : c.place_for-at.result ≡ place_for c.args.place.number old = c.place_for-at.ensures ∙ sym (ap (λ b. place_for c.args.place.number b.places) c.self.view_is) in
    let made : c.insert.new.self.items ≡ insert old (place_for c.args.place.number old) c.args.place =
    inserted-is c.place_for-at.result c.args.place _ old c.insert.new.self.items c.insert.ensures.items (c.insert.ensures.succeeds (omega (arith, room, c.requires.room))) here in
    rw (← c.self.view_is) (ap (value_of k) made ∙ inserted-values k c.args.place old)
