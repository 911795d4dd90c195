use Rattle.shm_prompt.proofs.DialogLemmas.{Going}
use Rattle.shm_prompt.proofs.deliver_all.deliver_all.Given as goal

-- so many deliveries were made, and nothing that is older than the next is on its way
abbrev pub invariant-deliveries : goal.invariant-deliveries
invariant-deliveries g l = Going l._made l.from l.fn.session l.session l.fn.out.items l.out.items
