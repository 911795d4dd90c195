use Rattle.std.proofs.Common.{refl, rules}
use Rattle.shm_journal.proofs.TellingLemmas.{part_refused, part_told}
use Rattle.shm_state.specs.PartOf.{part_in}
use Rattle.shm_state.specs.Told.{wrong}
use Rattle.shm_journal.proofs.state_telling.tell_part.Goals as goal

pub returns-in-Ok : goal.returns-in-Ok
returns-in-Ok g c = λ t h.
    let old = c.args.telling in
    let taken = c.in-Ok.ensures.told t.told h.tells in
    part_told old (record { told = c.take.new.self; mapped = old.mapped }) t (part_in c.args.part) h taken.right taken.taken c.take.ensures.seat refl

pub returns-else-lacks_memory : goal.returns-else-lacks_memory
returns-else-lacks_memory g c = λ t h.
    let why = (c.in-Err.ensures.told t.told h.tells).why in
    part_refused c.args.telling t (part_in c.args.part) c.in-Err.fault h (c.lacks_memory.ensures (search rules) (part_in c.args.part) (wrong c.args.telling.told.sites c.args.telling.told.me (part_in c.args.part) t.told) why)
