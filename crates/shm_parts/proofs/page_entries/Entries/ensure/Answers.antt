use Rattle.std.proofs.Common.{rules, ◌≡◌, ap, sym, ◌∙◌, true, false, is_some}
use Rattle.std.specs.Map.{lookup}
use Rattle.indexmap.specs.Entry.{entry_index, entry_map_ref, map_with_value}
use Rattle.shm_place.specs.Page.{same_page}
use Rattle.shm_parts.specs.declared.page_entries.Entries.{Entries}
use Rattle.shm_parts.proofs.StandsLemmas.{ensured-put, stands-kept, stands-put}
use Rattle.shm_parts.proofs.page_entries.Entries.ensure.Goals as goal

pub returns-in-Occupied-clause-place : goal.returns-in-Occupied-clause-place
returns-in-Occupied-clause-place g c =
    let old = c.args.self.now.map.entries in
    let there : is_some (lookup (same_page c.args.page) old) ≡ true = search rules in
    stands-kept _ (entry_map_ref c.in_ok-stored.field-0).now.entries old c.args.page c.index.result (c.index.ensures ∙ ap entry_index (sym c.in-Occupied.is) ∙ c.in_ok-stored.ensures.index) there (search rules) c.in_ok-stored.ensures.unchanged

pub returns-in_ok-entry-in-Vacant-clause-same : goal.returns-in_ok-entry-in-Vacant-clause-same
returns-in_ok-entry-in-Vacant-clause-same g c =
    let w = c.in_ok-entry-in-Vacant.entry in
    let new : Entries g.row.A.Denot = record { map = map_with_value c.in_ok-stored.field-0 w } in
    let fresh : is_some (lookup (same_page c.args.page) c.args.self.now.map.entries) ≡ false = search rules in
    λ rest is. ensured-put c.args.self.now new _ c.args.page w (search rules) ((c.in_ok-stored.ensures.update.0 w).0) fresh rest (c.in_ok-entry-in-Vacant.ensures ∙ sym is)

pub returns-in_ok-entry-in-Vacant-clause-place : goal.returns-in_ok-entry-in-Vacant-clause-place
returns-in_ok-entry-in-Vacant-clause-place g c =
    let w = c.in_ok-entry-in-Vacant.entry in
    stands-put _ (map_with_value c.in_ok-stored.field-0 w).entries c.args.self.now.map.entries c.args.page c.index-place.result w
    (c.index-place.ensures ∙ ap entry_index (sym c.in-Vacant.is) ∙ c.in_ok-stored.ensures.index) (search rules) (c.in_ok-stored.ensures.update.1 w)
