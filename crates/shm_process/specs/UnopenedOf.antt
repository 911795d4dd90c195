-- Counts of the code, as the definitions speak of them.
use Rattle.shm_process.specs.Unopened as spec
use Rattle.shm_process.specs.declared.unopened_line_counts.Unopened.{Unopened}

abbrev pub unopened_of : Unopened → spec.Unopened
unopened_of counts = record { other_cluster = counts.other_cluster; no_digest = counts.no_digest; wrong_digest = counts.wrong_digest }
