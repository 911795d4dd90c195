-- How many sites a cluster has.
use Rattle.std.specs.Prelude.{ℕ, vec_len}
use Rattle.std.specs.Arc.{arc_value}
use Rattle.shm_sites.specs.declared.cluster.Cluster.{Cluster}

abbrev pub sites_of : {A : Type 0} → Cluster A → ℕ
sites_of cluster = vec_len (arc_value cluster.shared).posts
