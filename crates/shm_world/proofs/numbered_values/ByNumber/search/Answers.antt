use Rattle.std.proofs.Common.{ℕ, ap, sym, ◌∙◌}
use Rattle.shm_world.specs.ByNumber.{StandsAt, place_for}
use Rattle.shm_world.proofs.Numbers.{for_none, found, misplaced, stands, unplaced}
use Rattle.shm_world.proofs.numbered_values.ByNumber.search.Goals as goal

pub returns-in_err-place-clause-none : goal.returns-in_err-place-clause-none
returns-in_err-place-clause-none g c =
    let items = c.self.inside.places.items in
    let here = c.place_for-at.ensures ∙ sym (ap (λ b. place_for c.args.number b.places) c.self.view_is) in
    rw (← c.self.view_is) (for_none c.from_residual.result ((at : ℕ) → StandsAt c.args.number at items → ⊥) c.from_residual.ensures
    (unplaced c.self.inside.next c.args.number c.place_for-at.result c.deref.result.now items c.self.invariant here c.deref.ensures.value c.in_err-place.ensures.lookup.0))

pub returns-then-place-number-clause-some : goal.returns-then-place-number-clause-some
returns-then-place-number-clause-some g c =
    let items = c.self.inside.places.items in
    let place = c.in_ok-place.place.now in
    let at = c.place_for-at.result in
    rw (← c.self.view_is) (stands c.args.number at place items (found at place c.deref.result.now items c.deref.ensures.value c.in_ok-place.ensures.lookup.0 c.in_ok-place.ensures.lookup.1) c.if-place-number.true)

pub returns-else-place-number-clause-none : goal.returns-else-place-number-clause-none
returns-else-place-number-clause-none g c =
    let items = c.self.inside.places.items in
    let place = c.in_ok-place.place.now in
    let at = c.place_for-at.result in
    let here = c.place_for-at.ensures ∙ sym (ap (λ b. place_for c.args.number b.places) c.self.view_is) in
    rw (← c.self.view_is) (misplaced c.self.inside.next c.args.number at place items c.self.invariant here
    (found at place c.deref.result.now items c.deref.ensures.value c.in_ok-place.ensures.lookup.0 c.in_ok-place.ensures.lookup.1) c.if-place-number.false)
