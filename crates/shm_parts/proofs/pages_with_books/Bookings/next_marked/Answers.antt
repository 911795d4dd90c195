use Rattle.shm_parts.specs.Places.{in_order}
use Rattle.shm_parts.proofs.NextLemmas.{next_is, next_there, rest_is}
use Rattle.shm_parts.proofs.pages_with_books.Bookings.next_marked.Goals as goal

pub returns-clause-next : goal.returns-clause-next
returns-clause-next g c =
    let self = c.args.self.now in
    next_is self.places.entries (in_order self.places.entries) self.marked self.next c.args.last c.first_after.result self.placed c.first_after.ensures.found c.first_after.ensures.behind c.first_after.ensures.least

pub returns-clause-rest : goal.returns-clause-rest
returns-clause-rest g c =
    let self = c.args.self.now in
    rest_is self.places.entries (in_order self.places.entries) self.marked self.next c.args.last c.first_after.result self.placed c.first_after.ensures.none

pub returns-clause-there : goal.returns-clause-there
returns-clause-there g c =
    let self = c.args.self.now in
    next_there self.places.entries (in_order self.places.entries) self.marked self.next c.first_after.result self.placed c.first_after.ensures.found
