use Rattle.std.proofs.Common.{ltb, arith, rules}
use Rattle.std.proofs.lemmas.Bool.{ltb-true, ltb-false}
use Rattle.std.proofs.lemmas.List.Sorted.{IsPartitionPoint-from_clause, IsPartitionedBy-ltb}
use Rattle.shm_keys.specs.declared.pending_purge.Purge.{Purge}
use Rattle.shm_keys.proofs.Purges.{not_falling}
use Rattle.shm_keys.proofs.pending_purge.place_of.Goals as goal

pub returns-clause-below : goal.returns-clause-below
returns-clause-below c =
    let point = IsPartitionPoint-from_clause (λ (p : Purge). ltb p.id c.args.id) c.args.purges.now c.partition_point.result c.partition_point.ensures.partitioned
    (IsPartitionedBy-ltb (λ (p : Purge). p.id) c.args.purges.now c.args.id (not_falling c.args.purges.now c.requires)) (λ a r f k. search rules) in
    λ k d lt. ltb-true _ _ (point.0 k d (omega arith) lt)

pub returns-clause-above : goal.returns-clause-above
returns-clause-above c =
    let point = IsPartitionPoint-from_clause (λ (p : Purge). ltb p.id c.args.id) c.args.purges.now c.partition_point.result c.partition_point.ensures.partitioned
    (IsPartitionedBy-ltb (λ (p : Purge). p.id) c.args.purges.now c.args.id (not_falling c.args.purges.now c.requires)) (λ a r f k. search rules) in
    λ k d le lt. ltb-false _ _ (point.1 k d le lt)
