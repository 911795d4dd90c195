-- Counts of the code, as the definitions speak of them.
use Rattle.shm_process.specs.Health as spec
use Rattle.shm_process.specs.UnopenedOf.{unopened_of}
use Rattle.shm_process.specs.declared.health.Health.{Health}

abbrev pub health_in : Health → spec.Health
health_in health = record {
  steps = health.steps;
  clock = health.clock;
  taken = health.taken;
  passed = health.passed;
  waiting = health.waiting;
  received = health.received;
  sent = health.sent;
  journal = health.journal;
  since = health.since;
  unopened = unopened_of health.unopened;
}
