use Rattle.std.proofs.Common.{◌≡◌, drop}
use Rattle.std.specs.List.{position_from}
use Rattle.shm_process.specs.NodeOf.{node_of}
use Rattle.shm_process.specs.Waiting.{can_be_made}
use Rattle.shm_process.proofs.node.Node.ready.Given as goal

-- the search from this place on finds what the whole search does
abbrev pub invariant-asks : goal.invariant-asks
invariant-asks g l =
    let node = node_of l.self in
    position_from (can_be_made node) l.at (drop l.at node.waiting) ≡ position_from (can_be_made node) 0 node.waiting
