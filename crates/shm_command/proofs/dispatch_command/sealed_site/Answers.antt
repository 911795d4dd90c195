use Rattle.shm_command.proofs.dispatch_command.sealed_site.Goals as goal

pub returns-in-Some-clause-served : goal.returns-in-Some-clause-served
returns-in-Some-clause-served g c = rw c.in-Some.is (c.be_kept_site-ended.result, c.tell_end.ensures, c.be_kept_site-ended.ensures)

pub returns-in-None-clause-served : goal.returns-in-None-clause-served
returns-in-None-clause-served g c = rw c.in-None.is (c.be_site-ended.result, c.tell_end-in-None.ensures, c.be_site-ended.ensures)
