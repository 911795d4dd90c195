-- A cluster's name of the code, as the definitions speak of it.
use Rattle.std.specs.Prelude.{ℕ, List, take}
use Rattle.shm_seal.specs.declared.cluster_name.ClusterName.{ClusterName}

abbrev pub name_of : ClusterName → List ℕ
name_of name = take name.length name.bytes
