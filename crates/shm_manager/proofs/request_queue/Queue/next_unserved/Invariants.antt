use Rattle.std.proofs.Common.{◌≡◌, length}
use Rattle.shm_number.specs.Served.{served_of}
use Rattle.shm_model.specs.Book as book
use Rattle.shm_manager.specs.Queue.{all_waiting}
use Rattle.shm_manager.proofs.request_queue.Queue.next_unserved.Given as goal

abbrev pub invariant-asks : goal.invariant-asks
invariant-asks g l =
    (book.unserved (served_of l.served) (all_waiting l.self-inside.ring.items) ≡ book.unserved (served_of l.served) (all_waiting l.initial.self-inside.ring.items))
    × (l.self-inside.ring.capacity ≡ 16)

abbrev pub decreases-asks : goal.decreases-asks
decreases-asks g l = length l.self-inside.ring.items
