use Rattle.std.proofs.Common.{refl}
use Rattle.shm_page.specs.Entry.{entry_of}
use Rattle.shm_parts.specs.declared.page_entries.Entries.{Entries}
use Rattle.shm_parts.proofs.EntryLemmas.{entries-put}
use Rattle.shm_parts.proofs.ListedLemmas.{stored-joined}
use Rattle.shm_parts.proofs.page_entries.Entries.restore.Goals as goal

pub returns-in-Ok-clause-entries : goal.returns-in-Ok-clause-entries
returns-in-Ok-clause-entries g c =
    let new : Entries g.row.A.Denot = record { map = c.insert.new.self } in
    λ rest. entries-put c.args.self.now new c.args.page c.args.entry c.in-Ok.ensures.updates.0 rest (entry_of c.args.entry) refl

pub returns-in-Ok-clause-stored : goal.returns-in-Ok-clause-stored
returns-in-Ok-clause-stored g c =
    let new : Entries g.row.A.Denot = record { map = c.insert.new.self } in
    stored-joined c.args.self.now new c.args.page c.args.entry c.in-Ok.ensures.updates.0
