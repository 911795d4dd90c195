use Rattle.std.proofs.Common.{◌≡◌, ◌∙◌, ◌++◌, [], ◌∷◌, true, false, refl, rules, sym}
use Rattle.shm_keys.specs.Restored.{is_next_segment}
use Rattle.shm_state.proofs.Taken.{chosen_first, fit-once, taken}
use Rattle.shm_state.proofs.ToldSteps.{says, seen, segment-told, table-alike, tells}
use Rattle.shm_state.specs.Part.{Segment}
use Rattle.shm_state.specs.Told.{once}
use Rattle.shm_state.proofs.told_state.Told.take_segment.Goals as goal

pub returns-clause-told : goal.returns-clause-told
returns-clause-told g c = λ said h.
    let old = c.args.self.now in
    let segment = c.args.segment in
    let yes : c.in-Ok.taken ≡ true = search rules in
    let next : is_next_segment old.me old.sites said.state.table segment ≡ true =
    (λ i. is_next_segment (sym old.own_home i) (sym old.all_sites i) (sym (table-alike old said h) i) segment) ∙ sym c.in-Ok.ensures.taken ∙ yes in
    taken (Segment segment) said _ (once (is_next_segment old.me old.sites said.state.table segment) false) _
    (fit-once (is_next_segment old.me old.sites said.state.table segment) false next refl)
    (tells _ _ (segment-told (seen old) said (says old said h) segment c.restore_segment.new.self
    (chosen_first c.in-Ok.taken (record old.table { segments = old.table.segments ++ segment ∷ [] }) old.table c.restore_segment.new.self c.in-Ok.ensures.after yes)))
