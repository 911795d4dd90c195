use Rattle.std.proofs.Common.{◌≡◌, ◌≤◌, ◌+◌, ◌++◌, ◌∷◌, [], ◌==◌, ◌&&◌, not, if◌then◌else◌, ℕ, Option, Some, length, ◌∙◌, ap, arith, nat_eq, vec_capacity}
use Rattle.std.proofs.lemmas.Grind.{common_steps}
use Rattle.indexmap.specs.IndexMap.{get}
use Rattle.shm_model.specs.Permission.{Segment}
use Rattle.shm_keys.proofs.Making.{with_place}
use Rattle.shm_keys.proofs.Restored.{table-taken}
use Rattle.shm_keys.proofs.segment_table.SegTable.push_next.Goals as goal

pub invariant_of-self-2 : goal.invariant_of-self-2
invariant_of-self-2 g c =
    let items = c.self.inside.segments.items in
    let new : Segment = c.args.segment in
    let pushed : c.push.new.self.items ≡ items ++ (new ∷ []) = grind (arith, common_steps) in
    let kept : length c.reserve.new.segments.items ≡ length items = ap length c.reserve.ensures.segments in
    let count : c.len-place.result ≡ length items = omega (arith, kept) in
    let key : ℕ = c.segment.inside.key in
    let key_is : key ≡ new.key = ap (λ (s : Segment). s.key) c.segment.view_is in
    let places : ℕ → Option ℕ = get nat_eq c.self.inside.keys in
    let old : (key : ℕ) → get nat_eq c.reserve.new.keys key ≡ places key = c.reserve.ensures.keys in
    let more : (other : ℕ) → get nat_eq c.index_key.new.keys other ≡ with_place new.key (length items) places other = λ other.
    c.index_key.ensures other ∙ ap (λ n. with_place key n (get nat_eq c.reserve.new.keys) other) count
    ∙ ap (λ (o : Option ℕ). if not (key == 0) && (key == other) then Some (length items) else o) (old other)
    ∙ ap (λ n. with_place n (length items) places other) key_is in
    let counts = c.live_one.ensures.one in
    let few = c.live_one.ensures.few in
    let roomy : c.self.inside.live + c.live_one.result + length c.reserve.new.purges.items ≤ vec_capacity c.reserve.new.purges = grind (arith, common_steps) in
    table-taken c.self.inside.home c.self.inside.sites items c.push.new.self.items places (get nat_eq c.index_key.new.keys) c.self.inside.live (c.self.inside.live + c.live_one.result) c.self.inside.purges.items c.reserve.new.purges.items
    (vec_capacity c.self.inside.purges) (vec_capacity c.reserve.new.purges) new c.self.invariant pushed c.reserve.ensures.purges (rw (← c.self.view_is) at c.requires) more (ap (λ n. c.self.inside.live + n) counts) roomy
