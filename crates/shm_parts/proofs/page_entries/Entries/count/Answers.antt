use Rattle.std.proofs.Common.{◌∙◌, sym}
use Rattle.std.proofs.Math.Path.{fun_ext}
use Rattle.std.proofs.lemmas.List.{length-map}
use Rattle.shm_parts.specs.Listed.{page_and_entry}
use Rattle.shm_parts.proofs.ListedLemmas.{any_stored, stored_filled}
use Rattle.shm_parts.proofs.page_entries.Entries.count.Goals as goal

pub returns-clause-count : goal.returns-clause-count
returns-clause-count g c = c.len.ensures.len ∙ sym (length-map c.args.self.now.map.entries page_and_entry)

pub returns-clause-listed : goal.returns-clause-listed
returns-clause-listed g c = λ rest. fun_ext (λ page. stored_filled c.args.self.now.map.entries c.len.ensures.unique rest page)

pub returns-clause-stored : goal.returns-clause-stored
returns-clause-stored g c = fun_ext (λ page. sym (any_stored c.args.self.now.map.entries page))
