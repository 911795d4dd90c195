-- A process that serves in stretches. Each but the last ends at rest, since its journal is due to be made shorter. Where that was done the site
-- restarts, as at a start from the shorter journal; else it goes on as it is.
use Rattle.std.specs.Prelude.{⊤, ◌≡◌, ◌<◌, ℕ, Bool, true, false, List, [], ◌∷◌, Option, Result}
use Rattle.std.specs.Io.KnownBytes.{IsAtEnd}
use Rattle.shm_model.specs.Basics.{greatest}
use Rattle.shm_process.specs.Desk.{Desk, is_at_rest, restarted}
use Rattle.shm_journal.specs.Acts.{Around, Served, Stood}
use Rattle.shm_journal.specs.declared.process_error.ProcessFault.{ProcessFault}
use Rattle.shm_journal.specs.declared.service_stop.Stop.{Stop}
use Rattle.shm_journal.specs.declared.service_stop.Stop.TheVariants.{Ended, Due}

-- ---- where a stretch ends

-- at the end of the input
abbrev pub EndsAt : Stop → Option (List ℕ) → Type 0
EndsAt Ended remaining = IsAtEnd remaining
EndsAt Due remaining = ⊤

-- or at rest, where there is a clock for a restart
abbrev pub Rests : Stop → Desk → Type 0
Rests Ended desk = ⊤
Rests Due desk = (is_at_rest desk ≡ true) × (desk.node.clock < greatest)

-- for a journal that is due
abbrev pub IsDue : Stop → Bool → Type 0
IsDue Ended due = ⊤
IsDue Due due = due ≡ true

-- ---- stretches

-- the desk of the next one: the journal was made shorter, or it wasn't
abbrev pub resumed : Bool → Desk → Desk
resumed true desk = restarted desk
resumed false desk = desk

-- from the first desk these stretches were served, the last of them first, and whether the journal was made shorter behind each; the next begins
-- with this desk
abbrev pub Reaches : Desk → List Bool → Desk → Around → Around → Type 0
Reaches first [] desk old now = (desk ≡ first) × (now ≡ old)
Reaches first (shorter ∷ more) desk old now =
    (before : Desk) × (last : Desk) × (at : Around) × Reaches first more before old at × Stood before last at now × Rests Due last
    × (desk ≡ resumed shorter last)

-- some stretches, and then the last
abbrev pub ServedOn : Desk → Around → Around → Result Stop ProcessFault → Type 0
ServedOn first old new result =
    (stretches : List Bool) × (desk : Desk) × (now : Around) × Reaches first stretches desk old now × Served desk now new result

-- some stretches, and none behind them
abbrev pub StoppedBetween : Desk → Around → Around → Type 0
StoppedBetween first old new = (stretches : List Bool) × (desk : Desk) × Reaches first stretches desk old new
