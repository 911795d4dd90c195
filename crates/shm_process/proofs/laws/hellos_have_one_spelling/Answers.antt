use Rattle.shm_process.proofs.HelloWords.{hello_is_read, hello_is_spelled}
use Rattle.shm_process.proofs.laws.hellos_have_one_spelling.Goals as goal

pub returns-clause-read : goal.returns-clause-read
returns-clause-read c = hello_is_spelled

pub returns-clause-spelled : goal.returns-clause-spelled
returns-clause-spelled c = hello_is_read
