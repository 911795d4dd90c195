-- The number of the site is the place that is looked at, and of the post there.
use Rattle.std.proofs.Common.{ℕ, subst}
use Rattle.std.specs.Slice.{IsItemAt}
use Rattle.shm_sites.proofs.Posts.{numbered-item}
use Rattle.shm_sites.proofs.cluster.shared_state.Shared.post_of.Goals as goal

pub returns-clause-item : goal.returns-clause-item
returns-clause-item g c =
    subst (λ (i : ℕ). IsItemAt c.args.self.now.posts.items i c.get.result) c.site.view_is
    (subst (λ posts. IsItemAt posts c.site.inside.0 c.get.result) c.deref.ensures.value c.get.ensures.lookup)

pub returns-clause-number : goal.returns-clause-number
returns-clause-number g c = numbered-item c.args.self.now.posts.items _ c.get.result c.args.self.now.numbered (returns-clause-item g c)
