use Rattle.std.proofs.Common.{◌∙◌, List, [], ◌∷◌, ◌++◌, ap}
use Rattle.shm_place.specs.declared.page_id.PageId.{PageId}
use Rattle.shm_model.specs.Basics.{at_page}
use Rattle.shm_model.specs.Entry.{Entry as EntryOf}
use Rattle.shm_parts.specs.Holdings.{held_entries, with_holdings}
use Rattle.shm_state.proofs.Taken.{on_err}
use Rattle.shm_state.proofs.ToldSteps.{entry-told, holdings-same, pages-same, purged-alike, says, seen, tells}
use Rattle.shm_state.specs.PartOf.{entry_in}
use Rattle.shm_state.proofs.told_state.Told.store_entry.Goals as goal

pub returns-in_err-restore_entry-clause-refused : goal.returns-in_err-restore_entry-clause-refused
returns-in_err-restore_entry-clause-refused g c = on_err c.from_residual-in_err-restore_entry.result _ (λ said h.
    let old = c.args.self.now in
    let room = pages-same (seen old) said (says old said h) c.reserve.new.self.keys c.reserve.ensures.keys in
    tells _ _ (holdings-same (record (seen old) { pages = c.reserve.new.self.keys }) said room c.restore_entry.new.self (c.in_err-restore_entry.ensures.refused old.sites old.me)))

pub returns-clause-stored : goal.returns-clause-stored
returns-clause-stored g c = λ said h.
    let old = c.args.self.now in
    let page = c.args.page in
    let sites = old.sites in
    let me = old.me in
    tells _ _ (
    entry-told (seen old) said (says old said h) page (entry_in c.args.entry.now) c.restore_entry.new.self c.note.new.pages.keys
    (purged-alike old said h page.seg ∙ c.requires.alive) (c.note.ensures ∙ ap (λ (l : List PageId). l ++ page ∷ []) c.reserve.ensures.keys)
    (λ site.
    c.in_ok-restore_entry.ensures.after sites me site
    ∙ ap (λ (e : EntryOf). record (with_holdings sites me old.holdings site) { entries = at_page (held_entries sites me old.holdings) page e }) c.in_ok-entry.ensures))
