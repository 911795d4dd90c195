use Rattle.std.proofs.Common.{ap, ◌∙◌}
use Rattle.indexmap.specs.IndexMap.{with_value_at}
use Rattle.shm_parts.specs.declared.page_entries.Entries.{Entries}
use Rattle.shm_parts.specs.Entries.{change_of, entry_or, row}
use Rattle.shm_parts.specs.Message.{entry_note_of}
use Rattle.shm_parts.proofs.EntryLemmas.{entries-turned, entries-kept, if_ok, on_err, on_ok, stands-entry, stands-within, stands-written, stored-turned}
use Rattle.shm_parts.proofs.page_entries.Entries.turn.Goals as goal

pub pair_mut-entry-requires : goal.pair_mut-entry-requires
pair_mut-entry-requires g c = stands-within c.args.self.now c.args.page c.args.place c.requires.place

pub returns-clause-after : goal.returns-clause-after
returns-clause-after g c =
    let old = c.args.self.now in
    let v = c.pair_mut-entry.result.1.now in
    let w = c.turn_in.new.entry in
    let e = c.pair_mut-entry.ensures in
    let new : Entries g.row.A.Denot = record { map = with_value_at old.map c.args.place w } in
    on_ok c.turn_in.result
    (λ is rest. entries-turned old new c.args.page v w (stands-entry old c.args.page c.args.place _ v w e.unique c.requires.place e.value) (stands-written old c.args.page c.args.place _ v w e.unique c.requires.place e.value)
    rest (λ x. (row c.args.me (entry_note_of c.args.note) x).0) is)
    c.turn_in.ensures.after

pub returns-clause-out : goal.returns-clause-out
returns-clause-out g c =
    let old = c.args.self.now in
    let v = c.pair_mut-entry.result.1.now in
    let e = c.pair_mut-entry.ensures in
    let note = entry_note_of c.args.note in
    if_ok c.turn_in.result
    (λ r is rest. is ∙ ap (λ o. (row c.args.me note (entry_or (rest c.args.page) o)).1) (stands-entry old c.args.page c.args.place _ v v e.unique c.requires.place e.value))
    c.turn_in.ensures.out

pub returns-clause-change : goal.returns-clause-change
returns-clause-change g c =
    let old = c.args.self.now in
    let v = c.pair_mut-entry.result.1.now in
    let e = c.pair_mut-entry.ensures in
    let note = entry_note_of c.args.note in
    if_ok c.turn_in.result
    (λ r is rest. is ∙ ap (λ o. change_of (entry_or (rest c.args.page) o) (row c.args.me note (entry_or (rest c.args.page) o)).0) (stands-entry old c.args.page c.args.place _ v v e.unique c.requires.place e.value))
    c.turn_in.ensures.change

pub returns-clause-same : goal.returns-clause-same
returns-clause-same g c =
    let old = c.args.self.now in
    let v = c.pair_mut-entry.result.1.now in
    let w = c.turn_in.new.entry in
    let e = c.pair_mut-entry.ensures in
    let new : Entries g.row.A.Denot = record { map = with_value_at old.map c.args.place w } in
    stored-turned old new c.args.page v w (stands-entry old c.args.page c.args.place _ v w e.unique c.requires.place e.value) (stands-written old c.args.page c.args.place _ v w e.unique c.requires.place e.value)

pub returns-clause-refused : goal.returns-clause-refused
returns-clause-refused g c =
    let old = c.args.self.now in
    let v = c.pair_mut-entry.result.1.now in
    let w = c.turn_in.new.entry in
    let e = c.pair_mut-entry.ensures in
    let new : Entries g.row.A.Denot = record { map = with_value_at old.map c.args.place w } in
    on_err c.turn_in.result
    (λ is rest. entries-kept old new c.args.page v w (stands-entry old c.args.page c.args.place _ v w e.unique c.requires.place e.value) (stands-written old c.args.page c.args.place _ v w e.unique c.requires.place e.value) rest is)
    c.turn_in.ensures.refused
