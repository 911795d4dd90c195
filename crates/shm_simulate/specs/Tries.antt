-- How a run of a workload goes on, and when it ends.
use Rattle.std.specs.Prelude.{◌≡◌, ◌⊎◌, ℕ, ◌*◌, Bool, true, false, not, List, length, min, nat_lt}
use Rattle.std.specs.List.{list_all}
use Rattle.shm_model.specs.declared.event.Event.{Event}
use Rattle.shm_model.specs.declared.event.Event.TheVariants as event
use Rattle.shm_model.specs.declared.asked_access.Asked.{Asked}
use Rattle.shm_model.specs.declared.asked_access.Asked.TheVariants as asked
use Rattle.shm_simulate.specs.Lines.{is_nothing}
use Rattle.shm_simulate.specs.declared.line_state.LineState.{LineState}
use Rattle.shm_simulate.specs.declared.odds.Odds.{Odds}
use Rattle.shm_simulate.specs.declared.scheduler.Choice.{Choice}
use Rattle.shm_simulate.specs.declared.scheduler.Choice.TheVariants as choice

-- the event that tries an access
abbrev pub try_of : ℕ → Asked → Event
try_of site (asked.Load at offset) = event.Load site at offset
try_of site (asked.Store at offset byte) = event.Store site at offset byte

-- a load or a store
abbrev pub is_access : Event → Bool
is_access (event.Load _ _ _) = true
is_access (event.Store _ _ _ _) = true
is_access _ = false

-- a tick, a restart or a loss: no access, and nothing is handed over
abbrev pub is_silent : Event → Bool
is_silent (event.Tick _) = true
is_silent (event.Restart _) = true
is_silent (event.Lose _) = true
is_silent _ = false

-- An event that may be in a run where things go wrong by these odds: nothing is lost or repeated, and no site restarts, where its odds are
-- 0. No segment call is ever begun.
abbrev pub is_allowed : Odds → Event → Bool
is_allowed odds (event.Begin _ _) = false
is_allowed odds (event.Restart _) = nat_lt 0 odds.restart
is_allowed odds (event.Repeat _) = nat_lt 0 odds.repeat
is_allowed odds (event.Lose _) = nat_lt 0 odds.lose
is_allowed odds _ = true

abbrev pub Allowed : Odds → Event → Type 0
Allowed odds event = is_allowed odds event ≡ true

-- the same of what is chosen
abbrev pub may_choose : Odds → Choice → Bool
may_choose odds (choice.Restart _) = nat_lt 0 odds.restart
may_choose odds (choice.Repeat _) = nat_lt 0 odds.repeat
may_choose odds (choice.Lose _) = nat_lt 0 odds.lose
may_choose odds _ = true

-- every line is done
abbrev pub all_done : List LineState → Bool
all_done lines = list_all (λ (line : LineState). not (is_nothing line.gave)) lines

-- how many events a run of so many lines has at most: 1,000 for each line, and fewer than a script has lines
abbrev pub most_events : ℕ → ℕ
most_events lines = min (1000 * lines) 99999

-- a run ends once every line is done, and is given up after so many events
abbrev pub Ended : List LineState → List Event → Type 0
Ended lines events = (all_done lines ≡ true) ⊎ (length events ≡ most_events (length lines))
