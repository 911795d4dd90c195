use Rattle.std.proofs.Common.{◌≡◌, ◌++◌, map, string_bytes}
use Rattle.std.specs.List.{flat_map}
use Rattle.shm_parts.specs.Pendings.{pending_of, pendings_of}
use Rattle.shm_steps.specs.Section.{pending_text}
use Rattle.shm_steps.proofs.pending_requests.tell_pending.Given as goal

abbrev pub invariant-requests : goal.invariant-requests
invariant-requests g l =
    string_bytes l.out ++ flat_map (pending_text l.number) (map pending_of l.page-iterator)
    ≡ string_bytes l.initial.out ++ flat_map (pending_text l.number) (pendings_of l.fn.requests)
