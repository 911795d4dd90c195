-- An order of the steps of all logs, as a list of the names of its steps.
use Rattle.std.specs.Prelude.{◌<◌, List, [], length, map, slice_index_or}
use Rattle.std.specs.List.{All}
use Rattle.shm_model.specs.declared.answer.Answer.TheVariants.{Took}
use Rattle.shm_model.specs.Message.{Tick}
use Rattle.shm_model.specs.Log.{Logged, log_of}
use Rattle.shm_model.specs.Merge.{SiteStep}
use Rattle.shm_logs.specs.declared.log_audit.step_id.StepName.{StepName}

-- the name is that of a step in these logs
abbrev pub Names : List (List Logged) → StepName → Type 0
Names logs name = name.index < length (log_of logs name.site)

abbrev pub AllName : List (List Logged) → List StepName → Type 0
AllName logs names = All (Names logs) names

-- what a name that names no step stands for; there is none in an order of the steps of all logs
abbrev pub no_step : Logged
no_step = record { input = Tick; stamp = 0; source = record { at = 0; index = 0; place = 0 }; answer = Took; sent = [] }

-- the step that a name names
abbrev pub step_named : List (List Logged) → StepName → SiteStep
step_named logs name = record { site = name.site; logged = slice_index_or (log_of logs name.site) name.index no_step }

-- the steps, in the order of their names
abbrev pub order_of : List (List Logged) → List StepName → List SiteStep
order_of logs names = map (step_named logs) names
