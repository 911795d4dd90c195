use Rattle.std.proofs.Common.{ap, is_some, sym}
use Rattle.shm_model.specs.Access.{stored_entry}
use Rattle.shm_parts.specs.declared.page_entries.Entries.{Entries}
use Rattle.shm_parts.proofs.EntryLemmas.{entries-if, stored-turned}
use Rattle.shm_parts.proofs.page_entries.Entries.store.Goals as goal

pub returns-clause-after : goal.returns-clause-after
returns-clause-after g c =
    let old = c.args.self.now in
    let w = c.store_in.new.entry in
    let new : Entries g.row.A.Denot = record { map = c.get_mut.follows.lender w } in
    λ rest. entries-if old new c.args.page c.in-Some.entry.now w c.in-Some.ensures.value ((c.get_mut.follows.holds w).3 (ap is_some (sym c.in-Some.ensures.value))).0 rest (stored_entry c.args.within c.args.byte) c.store_in.result c.store_in.ensures.after

pub returns-clause-same : goal.returns-clause-same
returns-clause-same g c =
    let w = c.store_in.new.entry in
    let new : Entries g.row.A.Denot = record { map = c.get_mut.follows.lender w } in
    stored-turned c.args.self.now new c.args.page c.in-Some.entry.now w c.in-Some.ensures.value ((c.get_mut.follows.holds w).3 (ap is_some (sym c.in-Some.ensures.value))).0
