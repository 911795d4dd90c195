use Rattle.std.proofs.Common.{◌∙◌, ap, sym, arith}
use Rattle.std.proofs.lemmas.List.{take_all}
use Rattle.shm_parts.specs.Places.{in_order}
use Rattle.shm_parts.proofs.InPlace.{placed_more_in_order}
use Rattle.shm_parts.proofs.pages_with_books.Bookings.by_place.Goals as goal

pub places-preserved : goal.places-preserved
places-preserved g c =
    let self = c.args.self.now in
    c.in_ok-put_at.ensures.entries
    ∙ placed_more_in_order self.places.entries (in_order self.places.entries) self.marked self.next c.places.index c.in-Some.page.now c.in-Some.place.now c.places.rising
    self.placed c.len-count.ensures.unique (sym c.in-Some.ensures.entry) c.places.invariant

pub returns : goal.returns
returns g c =
    let es = c.args.self.now.places.entries in
    c.places.invariant ∙ ap in_order (take_all c.places.index es (omega (arith, c.len-count.ensures.len, c.places-test.false)))
