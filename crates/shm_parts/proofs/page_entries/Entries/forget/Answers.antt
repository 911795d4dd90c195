use Rattle.shm_parts.specs.declared.page_entries.Entries.{Entries}
use Rattle.shm_parts.proofs.EntryLemmas.{stored-turned}
use Rattle.shm_parts.proofs.page_entries.Entries.forget.Goals as goal

pub returns-clause-same : goal.returns-clause-same
returns-clause-same g c =
    let w = c.forget_in.new.entry in
    let new : Entries g.row.A.Denot = record { map = c.get_mut.follows.lender w } in
    stored-turned c.args.self.now new c.args.page c.in-Some.entry.now w c.in-Some.ensures.value ((c.get_mut.follows.holds w).3 c.requires).0
