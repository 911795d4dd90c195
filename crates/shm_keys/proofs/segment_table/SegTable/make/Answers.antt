use Rattle.std.proofs.Common.{◌≡◌, ◌≤◌, ◌<◌, ◌+◌, ◌*◌, ◌++◌, ◌∷◌, [], ◌⊎◌, inl, inr, ◌≢◌, ◌==◌, ◌&&◌, not, if◌then◌else◌, ℕ, Option, Some, None, length, sym, ◌∙◌, ap, subst, refl, arith, nat_eq, vec_capacity}
use Rattle.std.proofs.lemmas.Grind.{common_steps}
use Rattle.indexmap.specs.IndexMap.{get}
use Rattle.shm_model.specs.Permission.{Segment}
use Rattle.shm_model.specs.Kernel.{Called, make, with_key, new_segment}
use Rattle.shm_model.specs.declared.call.Reply.TheVariants.{Id}
use Rattle.shm_keys.proofs.Making.{make_full, make_new, next, table-made, with_place}
use Rattle.shm_keys.proofs.segment_table.SegTable.make.Goals as goal
use Rattle.shm_keys.proofs.segment_table.SegTable.make.Goals.{then-self-ge-MAX_LIVE-via-then-self-ge-MAX_LIVE, then-self-ge-MAX_LIVE-via-else-self-ge-MAX_LIVE+then-place}

pub returns-then-self-ge-MAX_LIVE-clause-answer : goal.returns-then-self-ge-MAX_LIVE-clause-answer
returns-then-self-ge-MAX_LIVE-clause-answer g c =
    let full : (64 ≤ c.self.inside.live) ⊎ (65536 ≤ length c.self.inside.segments.items) = elim c.then-self-ge-MAX_LIVE.branch [
      | then-self-ge-MAX_LIVE-via-then-self-ge-MAX_LIVE w ↦ inl w.if-self-ge-MAX_LIVE.true
      | then-self-ge-MAX_LIVE-via-else-self-ge-MAX_LIVE+then-place w ↦ inr (let h = w.if-place.true in omega (arith, h))
    ] in
    rw (← c.self.view_is) (make_full c.self.inside.home c.self.inside.sites c.args.cred c.args.key c.args.size c.args.mode c.self.inside.segments.items c.self.inside.live
    c.self.invariant.numbered c.self.invariant.counted c.if-size-eq0.false c.if-size-gt-MAX_SEGMENT_BYTES.false full)

pub returns-then-is_err-clause-answer : goal.returns-then-is_err-clause-answer
returns-then-is_err-clause-answer g c =
    let fewer : length c.self.inside.segments.items < 65536 = let h = c.if-place.false in omega (arith, h) in
    let called = make_new c.self.inside.home c.self.inside.sites c.args.cred c.args.key c.args.size c.args.mode c.self.inside.segments.items c.self.inside.live
    c.self.invariant.numbered c.self.invariant.counted c.if-size-eq0.false c.if-size-gt-MAX_SEGMENT_BYTES.false c.if-self-ge-MAX_LIVE.false fewer in
    rw (← c.self.view_is) (ap (λ (r : Called). r.reply) called ∙ ap Id (sym (next c.self.inside.home c.self.inside.sites c.self.inside.segments.items c.self.invariant.numbered)))

pub invariant_of-self-2 : goal.invariant_of-self-2
invariant_of-self-2 g c =
    let items = c.self.inside.segments.items in
    let new : Segment = new_segment c.id_at-id.result c.args.cred c.args.key c.args.size c.args.mode in
    let pushed : c.push.new.self.items ≡ items ++ (new ∷ []) = grind (arith, common_steps) in
    let count : c.len-place.result ≡ length items = omega arith in
    let fewer : length items < 65536 = let h = c.if-place.false in omega (arith, h, count) in
    let is_id : new.id ≡ length items * c.self.inside.sites + c.self.inside.home = c.id_at-id.ensures ∙ ap (λ n. n * c.self.inside.sites + c.self.inside.home) count in
    let places : ℕ → Option ℕ = get nat_eq c.self.inside.keys in
    let old : (key : ℕ) → get nat_eq c.reserve.new.keys key ≡ places key = c.reserve.ensures.keys in
    let more : (key : ℕ) → get nat_eq c.index_key.new.keys key ≡ with_place c.args.key (length items) places key = λ key.
    c.index_key.ensures key ∙ ap (λ n. with_place c.args.key n (get nat_eq c.reserve.new.keys) key) count
    ∙ ap (λ (o : Option ℕ). if not (c.args.key == 0) && (c.args.key == key) then Some (length items) else o) (old key) in
    let same : c.reserve.new.purges.items ≡ c.self.inside.purges.items = c.reserve.ensures.purges in
    let roomy : c.self.inside.live + 1 + length c.reserve.new.purges.items ≤ vec_capacity c.reserve.new.purges = grind (arith, common_steps) in
    let absent : new.key ≢ 0 → with_key new.key items ≡ None = rw (← c.self.view_is) at c.requires in
    table-made c.self.inside.home c.self.inside.sites items c.push.new.self.items places (get nat_eq c.index_key.new.keys) c.self.inside.live c.self.inside.purges.items c.reserve.new.purges.items
    (vec_capacity c.self.inside.purges) (vec_capacity c.reserve.new.purges) new c.self.invariant pushed same is_id fewer refl absent more roomy

pub returns-clause-answer : goal.returns-clause-answer
returns-clause-answer g c =
    let items = c.self.inside.segments.items in
    let new : Segment = new_segment c.id_at-id.result c.args.cred c.args.key c.args.size c.args.mode in
    let pushed : c.push.new.self.items ≡ items ++ (new ∷ []) = grind (arith, common_steps) in
    let count : c.len-place.result ≡ length items = omega arith in
    let fewer : length items < 65536 = let h = c.if-place.false in omega (arith, h, count) in
    let is_id : c.id_at-id.result ≡ length items * c.self.inside.sites + c.self.inside.home = c.id_at-id.ensures ∙ ap (λ n. n * c.self.inside.sites + c.self.inside.home) count in
    let called = make_new c.self.inside.home c.self.inside.sites c.args.cred c.args.key c.args.size c.args.mode items c.self.inside.live
    c.self.invariant.numbered c.self.invariant.counted c.if-size-eq0.false c.if-size-gt-MAX_SEGMENT_BYTES.false c.if-self-ge-MAX_LIVE.false fewer in
    rw (← c.self.view_is, pushed) (subst (λ n. make c.self.inside.sites c.self.inside.home c.args.cred c.args.key c.args.size c.args.mode items ≡ record { reply = Id n; segments = items ++ (new_segment n c.args.cred c.args.key c.args.size c.args.mode ∷ []) }) (sym is_id) called)
