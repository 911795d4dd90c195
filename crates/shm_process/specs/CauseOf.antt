-- What makes a step, of the code, as the definitions speak of it.
use Rattle.shm_wire.specs.LineOf.{line_of}
use Rattle.shm_process.specs.Cause as spec
use Rattle.shm_process.specs.declared.step_cause.Cause.{Cause}
use Rattle.shm_process.specs.declared.step_cause.Cause.TheVariants as code

abbrev pub cause_of : {A : Type 0} → Cause A → spec.Cause
cause_of (code.Line line) = spec.OfLine (line_of line)
cause_of code.Restart = spec.OfRestart
