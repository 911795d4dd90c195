use Rattle.shm_process.proofs.HelloWords.{hello_is_no_line}
use Rattle.shm_process.proofs.laws.a_hello_is_no_line_of_the_stream.Goals as goal

pub returns : goal.returns
returns c = hello_is_no_line
