use Rattle.std.proofs.Common.{subst}
use Rattle.std.specs.List.{IsDistinct}
use Rattle.std.specs.Map.{keys_of}
use Rattle.shm_place.specs.Page.{same_page}
use Rattle.shm_parts.proofs.Distinct.{standing_distinct}
use Rattle.shm_parts.proofs.ordered_pages.OrderedPages.count.Goals as goal

pub returns-clause-apart : goal.returns-clause-apart
returns-clause-apart g c =
    subst (λ es. IsDistinct same_page (keys_of es)) c.self.view_is (standing_distinct c.self.inside.rows.items c.self.invariant.0.apart)
