-- What a journal begins with: its header, and then the state from which its site goes on, or none.
use Rattle.std.specs.Prelude.{◌≡◌, ◌⊎◌, ℕ, List, [], ◌∷◌, ◌++◌, map, Option, Some, option_and_then}
use Rattle.std.specs.List.{All}
use Rattle.shm_process.specs.Node.{Node}
use Rattle.shm_state.specs.Part.{Part}
use Rattle.shm_state.specs.PartWords.{IsPart}
use Rattle.shm_wire.specs.declared.mapping_text.Mapping.{Mapping}
use Rattle.shm_journal.specs.Lines.{Header, IsHeader, header_line}
use Rattle.shm_journal.specs.Stages.{Telling, opened, resumed_if, telling_nothing, told_by, with_told}
use Rattle.shm_journal.specs.StateLines.{Ending, StateLine, OfPart, OfMapping, OfEnding, IsEnding, IsMapping, state_line}

-- ---- a state

-- what a site keeps: its parts, one after another, what is mapped, and where its steps go on
pub record KeptSite : Type 0 where
  pub parts : List Part
  pub mapped : List Mapping
  pub ending : Ending

abbrev pub state_lines : KeptSite → List StateLine
state_lines site = map OfPart site.parts ++ (map OfMapping site.mapped ++ OfEnding site.ending ∷ [])

-- each on a line of its own
abbrev pub lines_text : List StateLine → List ℕ
lines_text [] = []
lines_text (line ∷ lines) = state_line line ++ 10 ∷ lines_text lines

abbrev pub state_text : KeptSite → List ℕ
state_text site = lines_text (state_lines site)

abbrev pub told_all : Telling → List Part → Option Telling
told_all telling [] = Some telling
told_all telling (part ∷ parts) = option_and_then (λ told. told_all (with_told telling told) parts) (told_by telling part)

-- the site that they make, if each part can be told behind those before it
abbrev pub restored : ℕ → ℕ → KeptSite → Option Node
restored sites me site =
    option_and_then (λ (t : Telling). resumed_if (record t { mapped = site.mapped }) site.ending) (told_all (telling_nothing sites me) site.parts)

-- a state of this header's site, from which the site goes on as this node
pub record IsKeptSite (header : Header) (site : KeptSite) (node : Node) : Type 0 where
  pub parts : All IsPart site.parts
  pub mapped : All IsMapping site.mapped
  pub ending : IsEnding site.ending
  pub makes : restored header.sites header.me site ≡ Some node

-- ---- a journal's beginning

-- the first lines, and the site that they lead to
pub record Beginning : Type 0 where
  pub header : Header
  pub text : List ℕ
  pub node : Node

abbrev pub header_text : Header → List ℕ
header_text header = header_line header ++ 10 ∷ []

-- the header alone: nothing has happened
abbrev pub anew : Header → Beginning
anew header = record { header = header; text = header_text header; node = opened header }

-- the header, and a state
abbrev pub from_state : Header → KeptSite → Node → Beginning
from_state header site node = record { header = header; text = header_text header ++ state_text site; node = node }

abbrev pub BeginsWithState : Beginning → Type 0
BeginsWithState b = (site : KeptSite) × IsKeptSite b.header site b.node × (b ≡ from_state b.header site b.node)

abbrev pub IsBeginning : Beginning → Type 0
IsBeginning b = IsHeader b.header × ((b ≡ anew b.header) ⊎ BeginsWithState b)
