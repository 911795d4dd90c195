use Rattle.std.proofs.Common.{◌≡◌, ◌∙◌, ◌&&◌, List, true, false, not, nat_lt, rules, ap, sym}
use Rattle.std.specs.List.{list_any}
use Rattle.std.specs.Map.{keys_of}
use Rattle.shm_place.specs.declared.page_id.PageId.{PageId}
use Rattle.shm_place.specs.Limits.{pages}
use Rattle.shm_place.specs.Page.{same_page}
use Rattle.shm_parts.specs.Listed.{purged_in}
use Rattle.shm_state.proofs.Taken.{fit-once, taken, twice, unfit}
use Rattle.shm_state.proofs.ToldSteps.{purged-alike}
use Rattle.shm_state.specs.Part.{Entry}
use Rattle.shm_state.specs.PartOf.{entry_in}
use Rattle.shm_state.specs.Told.{is_filled, once}
use Rattle.shm_state.proofs.told_state.Told.take_entry.Goals as goal

pub returns-then-not-fits_entry-clause-told : goal.returns-then-not-fits_entry-clause-told
returns-then-not-fits_entry-clause-told g c = λ said h.
    let old = c.args.self.now in
    let page = c.args.page in
    let entry = entry_in c.args.entry in
    let fits = nat_lt page.index pages && not (purged_in said.state.purged page.seg) && is_filled entry in
    let no : fits ≡ false =
    ap (λ b. nat_lt page.index pages && not b && is_filled entry) (purged-alike old said h page.seg) ∙ sym c.fits_entry.ensures ∙ (search rules) in
    unfit (Entry page entry) said old fits (list_any (same_page page) (keys_of said.state.entries)) no h

pub returns-then-contains-clause-told : goal.returns-then-contains-clause-told
returns-then-contains-clause-told g c = λ said h.
    let old = c.args.self.now in
    let page = c.args.page in
    let entry = entry_in c.args.entry in
    let fits = nat_lt page.index pages && not (purged_in said.state.purged page.seg) && is_filled entry in
    let fit : fits ≡ true =
    ap (λ b. nat_lt page.index pages && not b && is_filled entry) (purged-alike old said h page.seg) ∙ sym c.fits_entry.ensures ∙ (search rules) in
    let again : list_any (same_page page) (keys_of said.state.entries) ≡ true =
    ap (λ (l : List PageId). list_any (same_page page) l) (sym h.pages) ∙ sym c.contains.ensures ∙ c.if-contains.true in
    twice (Entry page entry) said old fits (list_any (same_page page) (keys_of said.state.entries)) fit again h

pub returns-in-Ok-clause-told : goal.returns-in-Ok-clause-told
returns-in-Ok-clause-told g c = λ said h.
    let old = c.args.self.now in
    let page = c.args.page in
    let entry = entry_in c.args.entry in
    let fits = nat_lt page.index pages && not (purged_in said.state.purged page.seg) && is_filled entry in
    let fit : fits ≡ true =
    ap (λ b. nat_lt page.index pages && not b && is_filled entry) (purged-alike old said h page.seg) ∙ sym c.fits_entry.ensures ∙ (search rules) in
    let new : list_any (same_page page) (keys_of said.state.entries) ≡ false =
    ap (λ (l : List PageId). list_any (same_page page) l) (sym h.pages) ∙ sym c.contains.ensures ∙ c.if-contains.false in
    taken (Entry page entry) said _ (once fits (list_any (same_page page) (keys_of said.state.entries))) _
    (fit-once fits (list_any (same_page page) (keys_of said.state.entries)) fit new) (c.in-Ok.ensures.stored said h)
