use Rattle.std.proofs.Common.{ℕ, nat_lt, rules, arith}
use Rattle.std.proofs.lemmas.List.Sorted.{IsPartitionPoint-from_clause, IsPartitionedBy-ltb}
use Rattle.shm_place.specs.declared.page_id.PageId.{PageId}
use Rattle.shm_parts.proofs.RisingLemmas.{leading_is, rises}
use Rattle.shm_parts.proofs.pages_by_place.count_before.Goals as goal

pub returns-clause-count : goal.returns-clause-count
returns-clause-count c =
    let es = c.args.pages.now in
    let test = (λ (e : ℕ × PageId). nat_lt e.0 c.args.place) in
    let point = IsPartitionPoint-from_clause test es c.partition_point.result c.partition_point.ensures.partitioned
    (IsPartitionedBy-ltb (λ (e : ℕ × PageId). e.0) es c.args.place (rises es c.requires)) (λ a r f k. search rules) in
    leading_is test es c.partition_point.result c.partition_point.ensures.bound (λ k d lt. point.0 k d (omega arith) lt) (λ k d le lt. point.1 k d le lt)
