use Rattle.shm_prompt.specs.Hints.{TellsPlain}
use Rattle.shm_prompt.proofs.plain_text.tell_plain.Given as goal

abbrev pub invariant-bytes : goal.invariant-bytes
invariant-bytes g l = TellsPlain l.fn.out.items l.out.items
