use Rattle.std.proofs.Common.{◌≡◌, ◌++◌, ◌≤◌, length}
use Rattle.std.specs.Vec.Iter.{into_iter_items}
use Rattle.shm_site.proofs.tick_and_restart.post_all.Given as goal

abbrev pub invariant-envelopes : goal.invariant-envelopes
invariant-envelopes g l = record {
  sent : g.O.Outbox.posted l.initial.outbox l.outbox l.yielded;
  all : l.fn.list.items ≡ l.yielded ++ into_iter_items l.envelope-iterator;
  room : length (into_iter_items l.envelope-iterator) ≤ g.O.Outbox.room l.outbox;
}
