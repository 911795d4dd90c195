-- What a site's process tells of itself: how many steps it made, and its clock; how many lines it took and passed over; how many asks wait;
-- how many envelopes made a step, and how many it sent; the bytes of its journal; when it started; and how many lines it didn't open, by
-- their causes.
use Rattle.std.specs.Prelude.{ℕ, List, ◌++◌, codes}
use Rattle.std.specs.Fmt.{decimal}
use Rattle.shm_process.specs.Unopened.{Unopened}

pub record Health : Type 0 where
  pub steps : ℕ
  pub clock : ℕ
  pub taken : ℕ
  pub passed : ℕ
  pub waiting : ℕ
  pub received : ℕ
  pub sent : ℕ
  pub journal : ℕ
  pub since : ℕ
  pub unopened : Unopened

abbrev pub health_text : Health → List ℕ
health_text health =
    codes "health steps " ++ (decimal health.steps ++ (codes " clock " ++ (decimal health.clock ++ (codes " taken " ++ (decimal health.taken
    ++ (codes " passed " ++ (decimal health.passed ++ (codes " waiting " ++ (decimal health.waiting
    ++ (codes " received " ++ (decimal health.received ++ (codes " sent " ++ (decimal health.sent
    ++ (codes " journal " ++ (decimal health.journal ++ (codes " since " ++ (decimal health.since
    ++ (codes " other-cluster " ++ (decimal health.unopened.other_cluster ++ (codes " no-digest " ++ (decimal health.unopened.no_digest
    ++ (codes " wrong-digest " ++ decimal health.unopened.wrong_digest))))))))))))))))))))))
