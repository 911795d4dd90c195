-- What became of the lines of a workload in a run: a function of the workload and of the run's account.
use Rattle.std.specs.Prelude.{◌≡◌, ℕ, ◌+◌, ◌==◌, ◌&&◌, Bool, true, false, not, List, [], ◌∷◌, Option, Some, None, if◌then◌else◌, map, nat_lt, position, slice_get, slice_set}
use Rattle.shm_model.specs.declared.answer.Answer.{Answer}
use Rattle.shm_model.specs.Message.{Input, Load, Store}
use Rattle.shm_model.specs.Receipt.{access_of}
use Rattle.shm_model.specs.World.{Done}
use Rattle.shm_lines.specs.declared.workload_access.WorkloadAccess.{WorkloadAccess}
use Rattle.shm_simulate.specs.declared.gave.Gave.{Gave}
use Rattle.shm_simulate.specs.declared.gave.Gave.TheVariants as gave
use Rattle.shm_simulate.specs.Reactions.{reaction_of}
use Rattle.shm_simulate.specs.declared.reaction.Reaction.{Reaction}
use Rattle.shm_simulate.specs.declared.reaction.Reaction.TheVariants as reaction
use Rattle.shm_simulate.specs.declared.line_state.LineState.{LineState}

-- a line that wasn't tried yet
abbrev pub untried : WorkloadAccess → LineState
untried access = record { access = access; gave = gave.Nothing; faults = 0; rounds = 0 }

abbrev pub is_nothing : Gave → Bool
is_nothing gave.Nothing = true
is_nothing _ = false

-- the site's line, which isn't done yet
abbrev pub is_open_at : ℕ → LineState → Bool
is_open_at site line = (line.access.site == site) && is_nothing line.gave

-- the first line of the site that isn't done
abbrev pub next_line : ℕ → List LineState → Option ℕ
next_line site lines = position (is_open_at site) lines

-- one more, up to the greatest number of 32 bits
abbrev pub counted : ℕ → ℕ
counted count = if nat_lt count 4294967295 then count + 1 else count

-- a line whose access was answered so
abbrev pub heard : Reaction → LineState → LineState
heard (reaction.Byte byte) line = record line { gave = gave.Byte byte }
heard reaction.Stored line = record line { gave = gave.Stored }
heard reaction.Fault line = record line { faults = counted line.faults; rounds = counted line.rounds }
heard reaction.Waiting line = record line { rounds = counted line.rounds }
heard _ line = line

abbrev pub heard_by : Reaction → Option LineState → ℕ → List LineState → List LineState
heard_by reaction None place lines = lines
heard_by reaction (Some line) place lines = slice_set lines place (heard reaction line)

-- the line at this place was answered so
abbrev pub heard_at : Reaction → Option ℕ → List LineState → List LineState
heard_at reaction None lines = lines
heard_at reaction (Some place) lines = heard_by reaction (slice_get lines place) place lines

-- a site's answer to an access is for the first of its lines that isn't done
abbrev pub told : ℕ → Option Input → Answer → List LineState → List LineState
told site (Some (Load at offset)) answer lines = heard_at (reaction_of answer) (next_line site lines) lines
told site (Some (Store at offset byte)) answer lines = heard_at (reaction_of answer) (next_line site lines) lines
told site _ answer lines = lines

-- the lines after this account, which has the newest first
abbrev pub lines_after : List WorkloadAccess → List Done → List LineState
lines_after accesses [] = map untried accesses
lines_after accesses (d ∷ ds) = told d.site d.input d.answer (lines_after accesses ds)

-- what each line gave: the bytes of the loads
abbrev pub outcome_of : List WorkloadAccess → List Done → List Gave
outcome_of accesses account = map (λ (line : LineState). line.gave) (lines_after accesses account)

-- the access is the one of the first line of its site that isn't done
pub record IsNext (lines : List LineState) (site : ℕ) (access : Input) : Type 0 where
  pub place : ℕ
  pub line : LineState
  pub next : next_line site lines ≡ Some place
  pub there : slice_get lines place ≡ Some line
  pub asked : access_of line.access.asked ≡ access

abbrev pub Asks : List LineState → ℕ → Option Input → Type 0
Asks lines site (Some (Load at offset)) = IsNext lines site (Load at offset)
Asks lines site (Some (Store at offset byte)) = IsNext lines site (Store at offset byte)
Asks lines site _ = Unit {0}

-- Each site made the accesses of its lines alone, in their order, each again and again until it was done.
abbrev pub InOrder : List WorkloadAccess → List Done → Type 0
InOrder accesses [] = Unit {0}
InOrder accesses (d ∷ ds) = Asks (lines_after accesses ds) d.site d.input × InOrder accesses ds
