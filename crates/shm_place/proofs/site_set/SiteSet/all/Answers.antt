use Rattle.std.proofs.Common.{false, true, ap, not, arith, ◌≡◌, ◌<◌, length, slice_index_or}
use Rattle.std.proofs.lemmas.List.Folds.{list_all_at}
use Rattle.std.proofs.lemmas.Bool.Decides.{nat_tests}
use Rattle.shm_place.proofs.site_set.SiteSet.all.Goals as goal

pub returns-clause-some : goal.returns-clause-some
returns-clause-some c =
    let within : 0 < length c.loop-index.members = omega arith in
    let first : slice_index_or c.loop-index.members 0 false ≡ true = grind (arith, nat_tests, c.loop-index.invariant.below 0) in
    list_all_at not c.loop-index.members 0 false within (ap not first)
