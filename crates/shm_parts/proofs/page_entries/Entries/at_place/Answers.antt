use Rattle.std.proofs.Common.{◌∙◌, Some, ap, sym}
use Rattle.std.proofs.lemmas.Option.{slice_get-map}
use Rattle.std.specs.Option.{option_map}
use Rattle.shm_page.specs.declared.entry.Entry.{Entry}
use Rattle.shm_parts.specs.Listed.{page_and_entry}
use Rattle.shm_parts.proofs.page_entries.Entries.at_place.Goals as goal

pub returns-in_default-clause-none : goal.returns-in_default-clause-none
returns-in_default-clause-none g c = slice_get-map page_and_entry c.args.self.now.map.entries c.args.place ∙ ap (option_map page_and_entry) (sym c.in_default.ensures.entry)

pub returns-clause-found : goal.returns-clause-found
returns-clause-found g c =
    slice_get-map page_and_entry c.args.self.now.map.entries c.args.place ∙ ap (option_map page_and_entry) (sym c.in-Some.ensures.entry)
    ∙ ap (λ (e : Entry g.row.A.Denot). Some (page_and_entry (c.in-Some.page.now, e))) (sym c.stored.view_is)
