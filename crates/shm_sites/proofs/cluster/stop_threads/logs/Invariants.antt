-- There is a log for each site that was taken apart, and room for those of the others.
use Rattle.std.proofs.Common.{◌≡◌, ◌+◌, vec_capacity, vec_len}
use Rattle.shm_sites.proofs.cluster.stop_threads.logs.Given as goal

abbrev pub invariant-sites : goal.invariant-sites
invariant-sites g l =
    (vec_len l.logs + l.post-iterator.rest.len ≡ vec_len l.fn.shared.posts)
    × (vec_capacity l.logs ≡ vec_len l.fn.shared.posts)
