-- The sites are those that there were, and each thread so far took a place of the room for all.
use Rattle.std.proofs.Common.{◌≡◌, ◌+◌, length, vec_capacity, vec_len}
use Rattle.shm_sites.specs.Cluster.Sites.{sites_of}
use Rattle.shm_sites.proofs.cluster.Cluster.start_threads.Given as goal

abbrev pub invariant-workers : goal.invariant-workers
invariant-workers g l =
    (goal.iterator-workers g).can_next l.worker-iterator
    × (goal.iterator-workers g).is_finite l.worker-iterator
    × (sites_of l.self ≡ sites_of l.fn.self)
    × (vec_capacity l.self.threads ≡ vec_capacity l.fn.self.threads)
    × (vec_len l.self.threads ≡ vec_len l.fn.self.threads + length l.yielded)
