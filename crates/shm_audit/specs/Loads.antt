-- The steps of a site's process, each by what made it and what the site answered; and the loads of a block among them.
use Rattle.std.specs.Prelude.{⊤, ◌≡◌, ◌⊎◌, ℕ, ◌+◌, true, List, [], ◌∷◌, ◌++◌, length, map, Option, Some}
use Rattle.shm_model.specs.declared.answer.Answer.{Answer}
use Rattle.shm_model.specs.declared.answer.Answer.TheVariants.{Byte}
use Rattle.shm_model.specs.declared.asked_access.Asked.TheVariants.{Load}
use Rattle.shm_wire.specs.Line as stream
use Rattle.shm_wire.specs.Line.{read_line}
use Rattle.shm_wire.specs.declared.caller_ask.Question.TheVariants.{Read}
use Rattle.shm_process.specs.Access.{access_ask}
use Rattle.shm_process.specs.Cause.{Cause, OfLine}
use Rattle.shm_process.specs.Node.{Node, Said}
use Rattle.shm_process.specs.Recorded.{Event, Line, after_events}
use Rattle.shm_process.specs.Waiting.{has_room}
use Rattle.shm_audit.specs.Told.{all_said}

pub record Made : Type 0 where
  pub cause : Cause
  pub answer : Answer

abbrev pub made_by : Said → Made
made_by said = record { cause = said.cause; answer = said.answer }

-- the steps that a node makes at these events, one after another
abbrev pub made_at : Node → List Event → List Made
made_at node events = map made_by (all_said node events)

-- the loads of these bytes by a caller of this site: under one tag, through one attachment, one after another from an offset on
abbrev pub loads : ℕ → List ℕ → ℕ → ℕ → List ℕ → List Made
loads me tag at offset [] = []
loads me tag at offset (byte ∷ bytes) =
    record { cause = OfLine (stream.Ask (access_ask me tag (Load at offset))); answer = Byte byte }
    ∷ loads me tag at (offset + 1) bytes

-- these stand among those, in this order
abbrev pub Among : List Made → List Made → Type 0
Among [] steps = ⊤
Among (x ∷ xs) [] = ⊥
Among (x ∷ xs) (step ∷ steps) = ((x ≡ step) × Among xs steps) ⊎ Among (x ∷ xs) steps

-- Among these events a line asked this of the process, and found room to wait; and these steps stand among those that it made since.
pub record MadeSince (first : Node) (events : List Event) (ask : stream.Line) (steps : List Made) : Type 0 where
  pub before : List Event
  pub line : List ℕ
  pub since : List Event
  pub are : events ≡ before ++ Line line ∷ since
  pub room : has_room (after_events first before) ≡ true
  pub asked : read_line line ≡ Some ask
  pub made : Among steps (made_at (after_events first (before ++ Line line ∷ [])) since)

-- A block of these bytes, told of this step after these events: a caller of this site asked, under the tag that is told, for as many bytes,
-- through one attachment and from one offset on. Since then each was loaded at its own place, one after another, the last by this step.
pub record IsLoadedBlock (me : ℕ) (first : Node) (events : List Event) (told : Option (List ℕ)) (step : Made) (bytes : List ℕ) : Type 0 where
  pub tag : List ℕ
  pub at : ℕ
  pub offset : ℕ
  pub others : List Made
  pub is_told : told ≡ Some tag
  pub loaded : loads me tag at offset bytes ≡ others ++ step ∷ []
  pub since : MadeSince first events (stream.Ask (record { site = me; tag = tag; asked = Read at offset (length bytes) })) others
