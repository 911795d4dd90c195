-- How far a journal was read. Right behind its header it may tell a state, from which the site goes on; entries follow.
use Rattle.std.specs.Prelude.{ℕ, List, [], ◌∷◌, ◌++◌, Option, Some, None, if◌then◌else◌, option_map}
use Rattle.shm_process.specs.Node.{Node, new_node}
use Rattle.shm_process.specs.Recorded as recorded
use Rattle.shm_process.specs.Recorded.{Entry}
use Rattle.shm_state.specs.Part.{Part}
use Rattle.shm_site.specs.State.{site_from}
use Rattle.shm_state.specs.Stage.{is_whole}
use Rattle.shm_state.specs.Told.{Told, told_nothing, told_with, wrong}
use Rattle.shm_state.specs.declared.take_fault.TakeFault.{TakeFault}
use Rattle.shm_wire.specs.declared.mapping_text.Mapping.{Mapping}
use Rattle.shm_journal.specs.Lines.{Header, read_entry}
use Rattle.shm_journal.specs.StateLines.{Ending, StateLine, OfPart, OfMapping, OfEnding, read_state}

-- what a state of this site has told so far: parts of the site, and the pages that are mapped
pub record Telling : Type 0 where
  pub sites : ℕ
  pub me : ℕ
  pub told : Told
  pub mapped : List Mapping

-- the header alone, behind which a state may begin; a state that hasn't ended; or entries, which led to this site
pub data Stage : Type 0 where
  Opened : Node → Telling → Stage
  InState : Telling → Stage
  Open : Node → Stage

-- the site at which nothing has happened
abbrev pub opened : Header → Node
opened header = new_node header.sites header.me header.pages

abbrev pub telling_nothing : ℕ → ℕ → Telling
telling_nothing sites me = record { sites = sites; me = me; told = told_nothing; mapped = [] }

abbrev pub begun : Header → Stage
begun header = Opened (opened header) (telling_nothing header.sites header.me)

-- ---- a state

-- the site goes on from what was told of it: no ask waits, and no line was counted
abbrev pub resumed : Telling → Ending → Node
resumed telling ending = record {
  sites = telling.sites;
  me = telling.me;
  site = site_from telling.sites telling.me telling.told.state;
  clock = ending.clock;
  steps = ending.steps;
  taken = 0;
  passed = 0;
  caller = ending.caller;
  waiting = [];
  mapped = telling.mapped;
}

abbrev pub with_told : Telling → Told → Telling
with_told telling told = record telling { told = told }

abbrev pub with_mapping : Telling → Mapping → Telling
with_mapping telling m = record telling { mapped = telling.mapped ++ m ∷ [] }

abbrev pub unless_wrong : Option TakeFault → Told → Option Told
unless_wrong None told = Some told
unless_wrong (Some fault) told = None

-- with one part more, if nothing is wrong with it
unfoldable pub told_by : Telling → Part → Option Told
told_by telling part = unless_wrong (wrong telling.sites telling.me part telling.told) (told_with part telling.told)

-- the site, if its requests and its calls were told
unfoldable pub resumed_if : Telling → Ending → Option Node
resumed_if telling ending = if is_whole telling.told.last then Some (resumed telling ending) else None

-- a part may be none that can be told now, and a state end too early
abbrev pub tells : Telling → StateLine → Option Stage
tells telling (OfPart part) = option_map (λ told. InState (with_told telling told)) (told_by telling part)
tells telling (OfMapping m) = Some (InState (with_mapping telling m))
tells telling (OfEnding ending) = option_map Open (resumed_if telling ending)

abbrev pub tells_if : Telling → Option StateLine → Option Stage
tells_if telling None = None
tells_if telling (Some line) = tells telling line

-- ---- entries

unfoldable pub replayed_entry : Node → Option Entry → Option Node
replayed_entry node None = None
replayed_entry node (Some entry) = recorded.replayed_entry node entry

-- the site after the steps that a line records, if they can be its next ones
abbrev pub replayed_line : Node → List ℕ → Option Node
replayed_line node line = replayed_entry node (read_entry line)

-- ---- one more line

-- an entry, or a state's first line
abbrev pub first_taken : Node → Telling → List ℕ → Option Entry → Option Stage
first_taken node telling line (Some entry) = option_map Open (recorded.replayed_entry node entry)
first_taken node telling line None = tells_if telling (read_state line)

abbrev pub next_stage : Stage → List ℕ → Option Stage
next_stage (Opened node telling) line = first_taken node telling line (read_entry line)
next_stage (InState telling) line = tells_if telling (read_state line)
next_stage (Open node) line = option_map Open (replayed_line node line)
