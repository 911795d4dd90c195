use Rattle.std.proofs.Common.{◌≡◌, ◌∙◌, ◌++◌, [], ◌∷◌, true, false, refl, rules, sym}
use Rattle.shm_keys.specs.Restored.{is_next_purge, purge_from}
use Rattle.shm_state.proofs.Taken.{chosen_first, fit-once, taken}
use Rattle.shm_state.proofs.ToldSteps.{missing-told, says, seen, table-alike, tells}
use Rattle.shm_state.specs.Part.{Missing}
use Rattle.shm_state.specs.Told.{once}
use Rattle.shm_state.proofs.told_state.Told.take_missing.Goals as goal

pub returns-clause-told : goal.returns-clause-told
returns-clause-told g c = λ said h.
    let old = c.args.self.now in
    let purge = purge_from (c.args.id, c.args.missing) in
    let yes : c.in-Ok.taken ≡ true = search rules in
    let next : is_next_purge said.state.table said.state.missing purge ≡ true =
    (λ i. is_next_purge (sym (table-alike old said h) i) (sym h.missing i) purge) ∙ sym c.in-Ok.ensures.taken ∙ yes in
    taken (Missing purge) said _ (once (is_next_purge said.state.table said.state.missing purge) false) _
    (fit-once (is_next_purge said.state.table said.state.missing purge) false next refl)
    (tells _ _ (missing-told (seen old) said (says old said h) purge c.restore_purge.new.self
    (chosen_first c.in-Ok.taken (record old.table { missing = old.table.missing ++ purge ∷ [] }) old.table c.restore_purge.new.self c.in-Ok.ensures.after yes)))
