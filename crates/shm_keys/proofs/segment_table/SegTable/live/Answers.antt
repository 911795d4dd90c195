use Rattle.std.proofs.Common.{◌/◌, ◌<◌, ◌≤◌, length, sym, ◌∙◌, refl, arith}
use Rattle.std.proofs.lemmas.Grind.{common_steps}
use Rattle.shm_keys.proofs.Segments.{read_by_id, with_id_missing}
use Rattle.shm_keys.proofs.segment_table.SegTable.live.Goals as goal

pub returns-then-place-len-clause-refused : goal.returns-then-place-len-clause-refused
returns-then-place-len-clause-refused g c = λ call.
    let at_home = rw (← c.self.view_is) at c.requires in
    let past : length c.self.inside.segments.items ≤ c.args.id / c.self.inside.sites = grind (arith, common_steps) in
    rw (← c.self.view_is) (rw (with_id_missing c.self.inside.home c.self.inside.sites c.self.inside.segments.items c.args.id c.self.invariant.numbered at_home past) refl)

pub returns-then-is_destroyed-clause-refused : goal.returns-then-is_destroyed-clause-refused
returns-then-is_destroyed-clause-refused g c = λ call.
    let at_home = rw (← c.self.view_is) at c.requires in
    let within : c.args.id / c.self.inside.sites < length c.self.inside.segments.items = grind (arith, common_steps) in
    let read = rw c.place_of-place.ensures at c.index.ensures in
    let found = read_by_id c.self.inside.home c.self.inside.sites c.self.inside.segments.items c.args.id c.index.result.now c.self.invariant.numbered at_home within read in
    rw (← c.self.view_is) (rw (found.0, sym c.is_destroyed.ensures ∙ c.if-is_destroyed.true) refl)

pub returns-clause-live : goal.returns-clause-live
returns-clause-live g c =
    let at_home = rw (← c.self.view_is) at c.requires in
    let within : c.args.id / c.self.inside.sites < length c.self.inside.segments.items = grind (arith, common_steps) in
    let read = rw c.place_of-place.ensures at c.index.ensures in
    let found = read_by_id c.self.inside.home c.self.inside.sites c.self.inside.segments.items c.args.id c.index.result.now c.self.invariant.numbered at_home within read in
    rw (← c.self.view_is) (record { found = found.0; alive = sym c.is_destroyed.ensures ∙ c.if-is_destroyed.false; own = found.1 })
