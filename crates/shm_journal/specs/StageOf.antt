-- How far the code has read a journal, as the definitions speak of it.
use Rattle.std.specs.Prelude.{◌≡◌, Bool, true, false, Option, Some, None}
use Rattle.shm_process.specs.Node as process
use Rattle.shm_process.specs.NodeOf.{node_of}
use Rattle.shm_state.specs.ToldOf.{Tells}
use Rattle.shm_journal.specs.Stages as spec
use Rattle.shm_journal.specs.declared.state_telling.Telling.{Telling}
use Rattle.shm_journal.specs.declared.state_telling.Onward.{Onward}
use Rattle.shm_journal.specs.declared.state_telling.Onward.TheVariants as onward
use Rattle.shm_journal.specs.declared.journal_reading.Reading.{Reading}

-- what the code was told is this
pub record IsTelling {A : Type 0} (code : Telling A) (t : spec.Telling) : Type 0 where
  pub sites : code.told.sites ≡ t.sites
  pub me : code.told.me ≡ t.me
  pub tells : Tells code.told t.told
  pub mapped : code.mapped.items ≡ t.mapped

abbrev pub IsOnward : {A : Type 0} → Onward A → spec.Stage → Type 0
IsOnward (onward.Further telling) stage = (t : spec.Telling) × IsTelling telling t × (stage ≡ spec.InState t)
IsOnward (onward.Resumed node) stage = stage ≡ spec.Open (node_of node)

-- a line was told, or can't be
abbrev pub IsTold : {A : Type 0} → Option (Onward A) → Option spec.Stage → Type 0
IsTold None after = after ≡ None
IsTold (Some onward) after = (stage : spec.Stage) × (after ≡ Some stage) × IsOnward onward stage

-- a state is told, or may still begin
abbrev pub stage_telling : process.Node → Bool → spec.Telling → spec.Stage
stage_telling node true telling = spec.InState telling
stage_telling node false telling = spec.Opened node telling

abbrev pub StandsAt : {A : Type 0} → process.Node → Bool → Option (Telling A) → spec.Stage → Type 0
StandsAt node within None stage = stage ≡ spec.Open node
StandsAt node within (Some code) stage = (t : spec.Telling) × IsTelling code t × (stage ≡ stage_telling node within t)

-- the code has read so far
abbrev pub Stands : {A : Type 0} → Reading A → spec.Stage → Type 0
Stands reading stage = StandsAt (node_of reading.node) reading.in_state reading.telling stage
