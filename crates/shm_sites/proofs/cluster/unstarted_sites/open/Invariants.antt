-- There is a post for each number so far, and has it.
use Rattle.std.proofs.Common.{◌≡◌, vec_len}
use Rattle.shm_sites.specs.Cluster.Posts.{AtTheirNumbers}
use Rattle.shm_sites.proofs.cluster.unstarted_sites.open.Given as goal

abbrev pub invariant-sites : goal.invariant-sites
invariant-sites g l = (vec_len l.posts ≡ l.number) × AtTheirNumbers l.posts.items
