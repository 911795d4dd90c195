-- The logs are those of the sites that the threads shared.
use Rattle.std.proofs.Common.{◌≡◌, IfOk, ap, subst, vec_len}
use Rattle.std.specs.Arc.{arc_value}
use Rattle.shm_sites.proofs.cluster.Cluster.stop.Goals as goal

pub returns-in-Some : goal.returns-in-Some
returns-in-Some g c =
    let same : c.in-Some.shared ≡ arc_value c.args.self.shared = c.in-Some.ensures in
    subst (λ n. IfOk c.logs.result (λ logs. vec_len logs ≡ n)) (ap (λ shared. vec_len shared.posts) same) c.logs.ensures
