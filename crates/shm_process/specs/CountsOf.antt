-- Counts of the code, as the definitions speak of them.
use Rattle.shm_process.specs.Counts as spec
use Rattle.shm_process.specs.UnopenedOf.{unopened_of}
use Rattle.shm_process.specs.declared.process_counts.Counts.{Counts}

abbrev pub counts_of : Counts → spec.Counts
counts_of counts = record {
  unopened = unopened_of counts.unopened;
  received = counts.received;
  sent = counts.sent;
  journal = counts.journal;
  since = counts.since;
}
