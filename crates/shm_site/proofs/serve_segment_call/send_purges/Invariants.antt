use Rattle.std.specs.Prelude.{◌+◌, ◌≤◌, map}
use Rattle.std.specs.List.{range_with_len}
use Rattle.shm_model.specs.SegmentCalls.{purge_envelope}
use Rattle.shm_site.specs.Site.{Told}
use Rattle.shm_site.proofs.serve_segment_call.send_purges.Given as goal

abbrev pub invariant-sites : goal.invariant-sites
invariant-sites g l = record {
  sent : Told g.O.Outbox.posted l.initial.outbox l.outbox (map (purge_envelope l.me l.id) (range_with_len 0 l.to));
  room : l.fn.sites ≤ g.O.Outbox.room l.outbox + l.to;
}
