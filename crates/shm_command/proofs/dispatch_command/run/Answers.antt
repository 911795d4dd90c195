-- Where no log can be made ready nothing is done; else what the fault says, and what was written before it.
use Rattle.std.proofs.Common.{ap, inl, inr}
use Rattle.shm_command.proofs.Streaming.{did_nothing}
use Rattle.shm_command.proofs.dispatch_command.run.Goals as goal

pub returns-in-Err-tell_run-clause-failed : goal.returns-in-Err-tell_run-clause-failed
returns-in-Err-tell_run-clause-failed g c other = inl (record {
  fault = c.in-Err-tell_run.failed;
  told = c.workload_fault.ensures.status;
  input = c.in-Err-tell_run.ensures.input;
  right = c.in-Err-tell_run.ensures.right;
  audit = c.in-Err-tell_run.ensures.audit;
  quiet = λ other. elim c.in-Err-tell_run.ensures.quiet [
    | inl is ↦ absurd (other is)
    | inr same ↦ ap g.O.Write.contents same
  ];
  cut = λ is. elim (c.in-Err-tell_run.ensures.cut is) [
    | inl same ↦ inl (ap g.O.Write.contents same)
    | inr front ↦ inr front
  ];
})

pub returns-in-Err-clause-failed : goal.returns-in-Err-clause-failed
returns-in-Err-clause-failed g c failed = inr (c.logs_fault.ensures, did_nothing (g.I.Read.remaining c.args.reader.now) (g.O.Write.contents c.args.out.now))
