use Rattle.std.proofs.Common.{◌∙◌, ap, sym}
use Rattle.shm_process.specs.RowOf.{accesses_of, row_of}
use Rattle.shm_process.specs.Rows.{size}
use Rattle.shm_process.specs.Rows as spec
use Rattle.shm_wire.specs.TagOf.{tag_text}
use Rattle.shm_process.proofs.FurtherRows.{room_after}
use Rattle.shm_process.proofs.access_row.Row.room_for_loads.Goals as goal

pub returns-in-Loads : goal.returns-in-Loads
returns-in-Loads g c =
    let next : spec.Row = record { clock = c.args.clock; tag = tag_text c.args.tag.now; at = c.args.at; offset = c.args.offset; accesses = spec.Loads 1 } in
    let goes = sym (c.is_followed.ensures.follows (spec.Loads 1)) ∙ c.if-not-is_followed.false in
    λ some. (c.in-Loads.count, ap accesses_of c.in-Loads.is, room_after (row_of c.args.self.now) next c.in-Loads.count goes (ap (λ a. size (accesses_of a)) c.in-Loads.is))
