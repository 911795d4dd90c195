-- A journal that begins with the state of its site: it leads to the site as a restart leaves it, but the restart isn't made.
use Rattle.std.specs.Prelude.{◌≡◌, ℕ, List, ◌++◌, Option, None, Some, is_some, true}
use Rattle.shm_model.specs.Step.{restart}
use Rattle.shm_process.specs.Node.{Node}
use Rattle.shm_process.specs.Recorded.{kept}
use Rattle.shm_state.specs.Part.{Part}
use Rattle.shm_state.specs.Told as state
use Rattle.shm_journal.specs.Begun.{IsKeptSite, KeptSite, header_text, state_text, told_all}
use Rattle.shm_journal.specs.Lines.{Header}
use Rattle.shm_journal.specs.Stages.{telling_nothing, with_told}
use Rattle.shm_journal.specs.StateLines.{Ending}
use Rattle.shm_journal.specs.declared.shorten_fault.ShortenFault.{ShortenFault}
use Rattle.shm_journal.specs.declared.shorten_fault.ShortenFault.TheVariants.{Limited, OutOfMemory, Untold}

-- what a restart leaves of the node, without the restart's own step
abbrev pub rested : Node → Node
rested node = record (kept node) { site = (restart node.site).site }

-- the header, and a state from which the site goes on so
abbrev pub Shortens : Header → Node → List ℕ → Type 0
Shortens header node text = (site : KeptSite) × (text ≡ header_text header ++ state_text site) × IsKeptSite header site (rested node)

-- where the node's steps go on
abbrev pub ending_at : Node → Ending
ending_at node = record { clock = node.clock; steps = node.steps; caller = node.caller }

-- each of these parts can be told behind those before it
abbrev pub AreTold : ℕ → ℕ → List Part → Type 0
AreTold sites me parts =
    told_all (telling_nothing sites me) parts ≡ Some (with_told (telling_nothing sites me) (state.told_all parts state.told_nothing))

-- Why a journal isn't shortened. Of a site that may hold only so many copies a state doesn't tell; of any other it can only be that memory is
-- refused, or that a part can't be told.
abbrev pub IsUnshortened : ShortenFault → Option ℕ → Type 0
IsUnshortened Limited limit = is_some limit ≡ true
IsUnshortened OutOfMemory limit = limit ≡ None
IsUnshortened Untold limit = limit ≡ None
