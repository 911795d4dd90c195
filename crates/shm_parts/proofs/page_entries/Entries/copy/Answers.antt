use Rattle.std.proofs.Common.{is_some, ap, ap₂}
use Rattle.std.proofs.lemmas.List.Elements.{same_from_all_zip}
use Rattle.std.specs.Map.{lookup}
use Rattle.shm_place.specs.Page.{same_page}
use Rattle.shm_parts.specs.Entries.{entry_or}
use Rattle.shm_parts.proofs.page_entries.Entries.copy.Goals as goal

pub returns-clause-entries : goal.returns-clause-entries
returns-clause-entries g c rest =
    let all = same_from_all_zip _ c.args.self.now.map.entries c.in_ok-map.map.entries c.in_ok-map.ensures.cases (λ old new is. ap₂ (λ page entry. (page, entry)) is.0 is.1) in
    ap (λ l q. entry_or (rest q) (lookup (same_page q) l)) all

pub returns-clause-stored : goal.returns-clause-stored
returns-clause-stored g c =
    let all = same_from_all_zip _ c.args.self.now.map.entries c.in_ok-map.map.entries c.in_ok-map.ensures.cases (λ old new is. ap₂ (λ page entry. (page, entry)) is.0 is.1) in
    ap (λ l q. is_some (lookup (same_page q) l)) all
