use Rattle.std.proofs.Common.{◌≡◌, ◌<◌, true, length, take, nat_eq, vec_capacity, sym, subst, arith}
use Rattle.std.proofs.lemmas.Grind.{common_steps}
use Rattle.indexmap.specs.IndexMap.{get}
use Rattle.shm_keys.specs.Restored.{is_next_purge}
use Rattle.shm_keys.specs.declared.pending_purge.Purge.{Purge}
use Rattle.shm_keys.proofs.Restored.{each_purge_next}
use Rattle.shm_keys.proofs.segment_table.SegTable.pending_purge.Goals as goal

pub returns-clause-next : goal.returns-clause-next
returns-clause-next g c =
    let within : c.args.place < length c.self.inside.purges.items = grind (arith, common_steps) in
    let next = each_purge_next c.self.inside.home c.self.inside.sites c.self.inside.segments.items (get nat_eq c.self.inside.keys) c.self.inside.live c.self.inside.purges.items (vec_capacity c.self.inside.purges)
    c.args.place c.index-purge.result.now c.self.invariant within in
    rw (← c.self.view_is) (subst (λ (p : Purge). is_next_purge c.self.inside.segments.items (take c.args.place c.self.inside.purges.items) p ≡ true) (sym c.index-purge.ensures) next)
