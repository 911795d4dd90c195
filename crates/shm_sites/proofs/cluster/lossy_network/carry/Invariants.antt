-- A number was drawn for each envelope so far, and what goes on is by these.
use Rattle.std.proofs.Common.{◌≡◌, IfOk}
use Rattle.shm_sites.specs.Cluster.Carried.{carried, drawn_for}
use Rattle.shm_sites.specs.Cluster.Posted.{all_sent}
use Rattle.shm_sites.proofs.cluster.lossy_network.carry.Given as goal

abbrev pub invariant-envelopes : goal.invariant-envelopes
invariant-envelopes g l =
    record {
      drawn : l.draws ≡ drawn_for (all_sent l.yielded) l.fn.draws;
      carried : IfOk l.on (λ on. all_sent on.items ≡ carried (all_sent l.yielded) l.fn.draws);
    }
