use Rattle.std.proofs.Common.{arith}
use Rattle.shm_keys.specs.Table.{is_purged_from}
use Rattle.shm_keys.proofs.segment_table.SegTable.on_purged.Goals as goal

pub invariant_of-self : goal.invariant_of-self
invariant_of-self g c =
    let kept = c.self.invariant in
    let e = c.strike_out.ensures in
    record {
      few = kept.few;
      numbered = kept.numbered;
      indexed = kept.indexed;
      counted = kept.counted;
      rising = e.rising;
      all_missing = e.all_missing;
      purging = e.pass (is_purged_from c.self.inside.segments.items) kept.purging;
      roomy = let roomy = kept.roomy in let less = e.not_more in let room = e.capacity in omega (arith, roomy, less, room);
    }
