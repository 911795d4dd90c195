use Rattle.std.proofs.Common.{◌≡◌, if◌then◌else◌, ap, subst, sym, ◌∙◌}
use Rattle.shm_model.specs.Basics.{at_page}
use Rattle.shm_model.specs.Access.{stored_entry}
use Rattle.indexmap.specs.IndexMap.{with_value_at}
use Rattle.shm_parts.specs.declared.page_entries.Entries.{Entries}
use Rattle.shm_parts.specs.Entries.{entries_of, is_stored}
use Rattle.shm_parts.proofs.EntryLemmas.{entries-if, stands-entry, stands-found, stands-written, stored-turned}
use Rattle.shm_parts.proofs.page_entries.Entries.store_near.Goals.{in_default-via-in-None-1, in_default-via-in-Some+else-eq}
use Rattle.shm_parts.proofs.page_entries.Entries.store_near.Goals as goal

pub returns-clause-after : goal.returns-clause-after
returns-clause-after g c =
    let old = c.args.self.now in
    let v = c.pair_mut-entry.result.1.now in
    let w = c.store_in.new.entry in
    let e = c.pair_mut-entry.ensures in
    let new : Entries g.row.A.Denot = record { map = with_value_at old.map c.args.place w } in
    let stands = stands-found old c.args.page c.args.place c.in-Some.standing.now c.in-Some._entry.now (sym c.in-Some.ensures.entry) (sym c.eq.ensures ∙ c.if-eq.true) in
    λ rest. entries-if old new c.args.page v w (stands-entry old c.args.page c.args.place _ v w e.unique stands e.value) (stands-written old c.args.page c.args.place _ v w e.unique stands e.value)
    rest (stored_entry c.args.within c.args.byte) c.store_in.result c.store_in.ensures.after

pub returns-clause-same : goal.returns-clause-same
returns-clause-same g c =
    let old = c.args.self.now in
    let v = c.pair_mut-entry.result.1.now in
    let w = c.store_in.new.entry in
    let e = c.pair_mut-entry.ensures in
    let new : Entries g.row.A.Denot = record { map = with_value_at old.map c.args.place w } in
    let stands = stands-found old c.args.page c.args.place c.in-Some.standing.now c.in-Some._entry.now (sym c.in-Some.ensures.entry) (sym c.eq.ensures ∙ c.if-eq.true) in
    stored-turned old new c.args.page v w (stands-entry old c.args.page c.args.place _ v w e.unique stands e.value) (stands-written old c.args.page c.args.place _ v w e.unique stands e.value)

pub returns-2-clause-after : goal.returns-2-clause-after
returns-2-clause-after g c = λ rest.
    let kept : c.in_default.self ≡ c.args.self.now = elim c.in_default.branch [
      | in_default-via-in-None-1 w ↦ w.self-is
      | in_default-via-in-Some+else-eq w ↦ w.self-is
    ] in
    subst (λ old. entries_of rest c.store.new.self ≡ (if c.store.result then at_page (entries_of rest old) c.args.page (stored_entry c.args.within c.args.byte (entries_of rest old c.args.page)) else entries_of rest old)) kept (c.store.ensures.after rest)

pub returns-2-clause-same : goal.returns-2-clause-same
returns-2-clause-same g c =
    let kept : c.in_default.self ≡ c.args.self.now = elim c.in_default.branch [
      | in_default-via-in-None-1 w ↦ w.self-is
      | in_default-via-in-Some+else-eq w ↦ w.self-is
    ] in
    c.store.ensures.same ∙ ap is_stored kept
