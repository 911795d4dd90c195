use Rattle.shm_steps.proofs.pages_table.tell_state.Goals as goal

pub returns : goal.returns
returns g c = rw c.in-Some.is (rw c.state_name-state.ensures at c.write.ensures.bytes)
