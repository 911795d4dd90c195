-- Nothing stands anywhere at first, and then the next post has the next number.
use Rattle.std.proofs.Common.{sym, subst, arith}
use Rattle.std.proofs.lemmas.Option.{none-some}
use Rattle.shm_sites.proofs.Posts.{numbered-more}
use Rattle.shm_sites.specs.Cluster.Posts.{AtTheirNumbers}
use Rattle.shm_sites.proofs.cluster.unstarted_sites.open.Goals as goal

pub sites-init : goal.sites-init
sites-init g c = (c.new-posts.ensures.len, subst AtTheirNumbers (sym c.new-posts.ensures.items) (λ number post at. absurd (none-some post at)))

pub sites-preserved : goal.sites-preserved
sites-preserved g c = (
  omega (arith, c.in_ok-push.ensures.len, c.sites.invariant.0),
  subst AtTheirNumbers (sym c.in_ok-push.ensures.items) (numbered-more c.sites.posts.items c.in_ok-post.post c.sites.invariant.1
      (omega (arith, c.in_ok-post.ensures, c.sites.invariant.0, c.sites.posts.ok))),
)
