use Rattle.std.proofs.Common.{◌∙◌, ℕ, Bool, ap}
use Rattle.shm_parts.specs.Message.{entry_note_of}
use Rattle.shm_parts.proofs.Turned.{refused_same, turned_same}
use Rattle.shm_parts.proofs.holdings.Holdings.turn.Goals as goal

pub turn_stored-requires-clause-alive : goal.turn_stored-requires-clause-alive
turn_stored-requires-clause-alive g c =
    ap (λ (t : ℕ → Bool). t c.args.page.now.seg) c.make_room.ensures.purged ∙ c.requires

pub returns-in-Ok-clause-step : goal.returns-in-Ok-clause-step
returns-in-Ok-clause-step g c =
    let old = c.args.self.now in
    let mid = c.make_room.new.self in
    turned_same old.sites old.me mid.sites mid.me c.args.page.now (entry_note_of c.args.note) old mid c.turn_stored.new.self c.turn_stored.result
    c.make_room.ensures.seat.0 c.make_room.ensures.seat.1 c.make_room.ensures.same c.turn_stored.ensures.step

pub returns-in-Ok-clause-refused : goal.returns-in-Ok-clause-refused
returns-in-Ok-clause-refused g c =
    let old = c.args.self.now in
    let mid = c.make_room.new.self in
    refused_same old.sites old.me mid.sites mid.me old mid c.turn_stored.new.self c.turn_stored.result
    c.make_room.ensures.seat.0 c.make_room.ensures.seat.1 c.make_room.ensures.same c.turn_stored.ensures.refused
