use Rattle.std.proofs.Common.{◌∙◌, ℕ, not, nat_le, Option, Some, ap, sym, rules, arith}
use Rattle.std.proofs.lemmas.List.Sorted.{IsPartitionPoint-from_clause, IsPartitionedBy-leb}
use Rattle.shm_place.specs.declared.page_id.PageId.{PageId}
use Rattle.shm_parts.specs.Places.{is_behind, leading}
use Rattle.shm_parts.proofs.RisingLemmas.{leading_is, leading_none, not_behind, rises}
use Rattle.shm_parts.proofs.pages_by_place.count_up_to.Goals as goal

pub returns-in-None : goal.returns-in-None
returns-in-None c =
    let es = c.args.pages.now in
    leading_none es ∙ ap (λ (last : Option ℕ). leading (λ (e : ℕ × PageId). not (is_behind last e.0)) es) (sym c.in-None.is)

pub returns-in-Some : goal.returns-in-Some
returns-in-Some c =
    let es = c.args.pages.now in
    let test = (λ (e : ℕ × PageId). nat_le e.0 c.in-Some.place) in
    let point = IsPartitionPoint-from_clause test es c.partition_point.result c.partition_point.ensures.partitioned
    (IsPartitionedBy-leb (λ (e : ℕ × PageId). e.0) es c.in-Some.place (rises es c.requires)) (λ a r f k. search rules) in
    leading_is (λ (e : ℕ × PageId). not (is_behind (Some c.in-Some.place) e.0)) es c.partition_point.result c.partition_point.ensures.bound
    (λ k d lt. sym (not_behind c.in-Some.place _) ∙ point.0 k d (omega arith) lt) (λ k d le lt. sym (not_behind c.in-Some.place _) ∙ point.1 k d le lt)
    ∙ ap (λ (last : Option ℕ). leading (λ (e : ℕ × PageId). not (is_behind last e.0)) es) (sym c.in-Some.is)
