use Rattle.std.proofs.Common.{◌≡◌, ◌++◌, drop, map, string_bytes}
use Rattle.std.specs.List.{flat_map}
use Rattle.shm_seal.specs.SealOf.{seal_of}
use Rattle.shm_process.specs.AskOf.{ask_of}
use Rattle.shm_process.specs.Desk.{reminder}
use Rattle.shm_process.specs.NodeOf.{node_of}
use Rattle.shm_process.specs.WaitingAsks.{next_access}
use Rattle.shm_process.proofs.desk_meets_line.push_reminders.Given as goal

-- those to come make the whole
abbrev pub invariant-asks : goal.invariant-asks
invariant-asks g l =
    string_bytes l.told ++ flat_map (λ ask. reminder (seal_of l.seal) (node_of l.node) (next_access ask)) (drop l.ask-index (map ask_of l.asks))
    ≡ string_bytes l.fn.told ++ flat_map (λ ask. reminder (seal_of l.seal) (node_of l.node) (next_access ask)) (map ask_of l.asks)
