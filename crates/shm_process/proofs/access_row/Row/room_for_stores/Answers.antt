use Rattle.std.proofs.Common.{◌≡◌, ◌∙◌, [], ap, arith, length, sym}
use Rattle.shm_process.specs.RowOf.{accesses_of, row_of}
use Rattle.shm_process.specs.Rows.{size}
use Rattle.shm_process.specs.Rows as spec
use Rattle.shm_wire.specs.TagOf.{tag_text}
use Rattle.shm_process.proofs.FurtherRows.{room_after}
use Rattle.shm_process.proofs.access_row.Row.room_for_stores.Goals as goal

pub returns-in-Stores : goal.returns-in-Stores
returns-in-Stores g c =
    let next : spec.Row = record { clock = c.args.clock; tag = tag_text c.args.tag.now; at = c.args.at; offset = c.args.offset; accesses = spec.Stores [] } in
    let goes = sym (c.is_followed.ensures.follows (spec.Stores [])) ∙ c.if-not-is_followed.false in
    let count : length c.in-Stores.bytes.items ≡ c.len.result = omega (arith, c.in-Stores.bytes.ok.0, c.len.ensures) in
    λ byte some. (
      c.in-Stores.bytes.items,
      ap accesses_of c.in-Stores.is,
      room_after (row_of c.args.self.now) next c.len.result goes (ap (λ a. size (accesses_of a)) c.in-Stores.is ∙ count),
    )
