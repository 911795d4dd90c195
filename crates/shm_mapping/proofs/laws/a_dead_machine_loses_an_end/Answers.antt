use Rattle.shm_mapping.proofs.Dead.{death-unseen, lives-as-one, lives-legal}
use Rattle.shm_mapping.proofs.laws.a_dead_machine_loses_an_end.Goals as goal

pub returns-clause-one_world : goal.returns-clause-one_world
returns-clause-one_world c = λ o turns is are. lives-as-one o is turns are

pub returns-clause-unseen : goal.returns-clause-unseen
returns-clause-unseen c = λ o turns s later is are is_turn. death-unseen o is turns s later are is_turn

pub returns-clause-legal : goal.returns-clause-legal
returns-clause-legal c = λ o turns is are. lives-legal o is turns are
