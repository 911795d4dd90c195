use Rattle.std.proofs.Common.{arith, sym, ◌∙◌}
use Rattle.shm_parts.proofs.PutRowLemmas.{placed-absent}
use Rattle.shm_parts.proofs.page_vector_helpers.make_room_for.Goals.{then-len-capacity-via-then-len-capacity, then-len-capacity-via-else-len-capacity+then-contains_key}
use Rattle.shm_parts.proofs.page_vector_helpers.make_room_for.Goals as goal

pub returns-then-len-capacity-clause-room : goal.returns-then-len-capacity-clause-room
returns-then-len-capacity-clause-room g c = λ absent.
    elim c.then-len-capacity.branch [
      | then-len-capacity-via-then-len-capacity w ↦ omega (arith, w.if-len-capacity.true, c.len.ensures, c.capacity.ensures)
      | then-len-capacity-via-else-len-capacity+then-contains_key w ↦
          absurd (placed-absent c.args.page.now c.args.places.now.entries c.args.rows.now.items c.requires.found (sym w.contains_key.ensures ∙ w.if-contains_key.true) absent)
    ]
