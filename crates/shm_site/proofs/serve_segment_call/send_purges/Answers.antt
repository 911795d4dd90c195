use Rattle.std.proofs.Common.{[], sym, refl, arith}
use Rattle.std.proofs.lemmas.List.FromFn.{map-range_with_len_more}
use Rattle.shm_model.specs.SegmentCalls.{purge_envelope}
use Rattle.shm_site.proofs.Orders.{told_more}
use Rattle.shm_site.proofs.serve_segment_call.send_purges.Goals as goal

pub sites-init : goal.sites-init
sites-init g c = record {
  sent = record { sent = []; behind = g.O.Outbox.nothing c.args.outbox.now; meant = refl };
  room = omega (arith, c.requires);
}

pub sites-preserved : goal.sites-preserved
sites-preserved g c =
    let purge = purge_envelope c.args.me c.args.id in
    record {
      sent = told_more _ g.O.Outbox.joined c.sites.invariant.sent c.push.ensures.posted refl (sym (map-range_with_len_more purge 0 c.sites.to c.sites.to (omega (arith))));
      room = omega (arith, c.sites.invariant.room, c.push.ensures.room);
    }
