-- What is handed to a box, as the definitions speak of it.
use Rattle.shm_site.specs.Step.{input_of}
use Rattle.shm_logs.specs.Boxes.Logged.{stamp_of}
use Rattle.shm_audit.specs.Entered as spec
use Rattle.shm_audit.specs.declared.box_replay_input.Handed.{Handed}

abbrev pub handed_of : {A : Type 0} → Handed A → spec.Handed
handed_of handed = record { input = input_of handed.input; source = stamp_of handed.source }
