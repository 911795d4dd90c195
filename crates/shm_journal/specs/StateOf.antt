-- A line of a state of the code, as the definitions speak of it.
use Rattle.std.specs.Prelude.{option_map}
use Rattle.shm_state.specs.PartOf.{part_in}
use Rattle.shm_wire.specs.TagOf.{tag_text}
use Rattle.shm_journal.specs.StateLines as spec
use Rattle.shm_journal.specs.declared.state_line.Ending.{Ending}
use Rattle.shm_journal.specs.declared.state_line.StateLine.{StateLine}
use Rattle.shm_journal.specs.declared.state_line.StateLine.TheVariants as code

abbrev pub ending_in : Ending → spec.Ending
ending_in ending = record { clock = ending.clock; steps = ending.steps; caller = option_map tag_text ending.caller }

abbrev pub state_line_in : {A : Type 0} → StateLine A → spec.StateLine
state_line_in (code.Part part) = spec.OfPart (part_in part)
state_line_in (code.Mapping m) = spec.OfMapping m
state_line_in (code.Ending ending) = spec.OfEnding (ending_in ending)
