use Rattle.std.proofs.Common.{◌≡◌, ◌≤◌, ◌+◌, ℕ, List, length, ap, arith, nat_eq, vec_capacity}
use Rattle.std.proofs.lemmas.Grind.{common_steps}
use Rattle.std.specs.Map.{lookup}
use Rattle.indexmap.specs.IndexMap.{get}
use Rattle.shm_keys.proofs.Making.{table-copied}
use Rattle.shm_keys.proofs.segment_table.SegTable.copy.Goals as goal

pub invariant_of-result : goal.invariant_of-result
invariant_of-result g c =
    let same_segments : c.in_ok-segments.segments.items ≡ c.self.inside.segments.items = grind (arith, common_steps) in
    let same_purges : c.reserve.new.self.items ≡ c.self.inside.purges.items = grind (arith, common_steps) in
    let same_keys : c.in_ok-keys.keys.entries ≡ c.self.inside.keys.entries = c.in_ok-keys.ensures in
    let roomy : c.self.inside.live + length c.reserve.new.self.items ≤ vec_capacity c.reserve.new.self = grind (arith, common_steps) in
    table-copied c.self.inside.home c.self.inside.sites c.self.inside.segments.items c.in_ok-segments.segments.items (get nat_eq c.self.inside.keys) (get nat_eq c.in_ok-keys.keys) c.self.inside.live
    c.self.inside.purges.items c.reserve.new.self.items (vec_capacity c.self.inside.purges) (vec_capacity c.reserve.new.self) c.self.invariant same_segments same_purges
    (λ key. ap (λ (es : List (ℕ × ℕ)). lookup (nat_eq key) es) same_keys) roomy
