use Rattle.std.proofs.Common.{◌≡◌, ◌≤◌, drop, length, true}
use Rattle.shm_world.specs.ByNumber.{rises}
use Rattle.shm_world.proofs.NetworkLemmas.{Copied}
use Rattle.shm_world.proofs.network.Network.copy.Given as goal

-- the places up to this one are copied, and there is room for the others
abbrev pub invariant-places : goal.invariant-places
invariant-places g l =
    let all = l.self.envelopes.places in
    record {
      room : length (drop l.place-index all) ≤ l.envelopes.spare;
      order : rises l.envelopes.next (drop l.place-index all) l.self.envelopes.next ≡ true;
      copied : Copied all (drop l.place-index all) l.envelopes.places l.envelopes.next;
    }
