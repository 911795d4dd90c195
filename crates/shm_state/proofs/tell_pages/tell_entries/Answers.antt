use Rattle.std.proofs.Common.{◌≡◌, ◌∙◌, ◌++◌, [], ◌∷◌, take, slice_get, Some, if◌then◌else◌, ap, rules}
use Rattle.shm_page.specs.Entry.{entry_of}
use Rattle.shm_model.specs.Entry.{Entry}
use Rattle.shm_parts.specs.Listed.{stored_list}
use Rattle.shm_parts.specs.Purged.{purged_of}
use Rattle.shm_site.specs.State.{State}
use Rattle.shm_state.proofs.Tellings.{grown_alive}
use Rattle.shm_state.specs.Telling.{alive, said_by}
use Rattle.shm_state.proofs.tell_pages.tell_entries.Goals as goal

pub places-preserved : goal.places-preserved
places-preserved g c =
    let old : State = said_by c.args.out.now.items in
    let held = c.args.held.now in
    let place = c.places.place in
    let page = c.in-Some.page in
    let entry : Entry = entry_of c.in-Some.entry.now in
    let here : slice_get (stored_list held.entries) place ≡ Some (page, entry) = search rules in
    let gone : c.contains.result ≡ purged_of held.purged page.seg = search rules in
    record {
      said = c.in_ok-tell_entry.ensures.said
          ∙ ap (λ (s : State). record s { entries = s.entries ++ (if c.contains.result then [] else (page, entry) ∷ []) }) c.places.invariant.said
          ∙ ap (λ entries. record old { entries = entries })
          (ap (λ b. (old.entries ++ alive (purged_of held.purged) (take place (stored_list held.entries))) ++ (if b then [] else (page, entry) ∷ [])) gone
          ∙ grown_alive (purged_of held.purged) old.entries (stored_list held.entries) place (page, entry) here);
      order = c.in_ok-tell_entry.ensures.order;
    }
