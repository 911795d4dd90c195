use Rattle.std.proofs.Common.{ap, sym, ◌∙◌}
use Rattle.shm_world.proofs.Numbers.{found, stands}
use Rattle.shm_world.proofs.numbered_values.ByNumber.place_from_end.Goals as goal

pub returns-then-guess-number : goal.returns-then-guess-number
returns-then-guess-number g c =
    let items = c.self.inside.places.items in
    let guess = c.in_ok-guess.guess.now in
    let at = c.in_ok-at.at in
    rw (← c.self.view_is) (stands c.args.number at guess items (found at guess c.deref.result.now items c.deref.ensures.value c.in_ok-guess.ensures.lookup.0 c.in_ok-guess.ensures.lookup.1) c.if-guess-number.true)
