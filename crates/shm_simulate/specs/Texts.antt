-- How a tally is told.
use Rattle.std.specs.Prelude.{ℕ, ◌+◌, ◌-◌, ◌/◌, ◌%◌, ◌^◌, List, [], ◌∷◌, ◌++◌, Option, Some, None, codes}
use Rattle.std.specs.Fmt.{decimal}
use Rattle.shm_simulate.specs.declared.gave.Gave.{Gave}
use Rattle.shm_simulate.specs.declared.gave.Gave.TheVariants as gave
use Rattle.shm_simulate.specs.declared.page_message.MessageKind.{MessageKind}
use Rattle.shm_simulate.specs.declared.page_message.MessageKind.TheVariants as kind
use Rattle.shm_simulate.specs.declared.measure.Measure.{Measure}
use Rattle.shm_simulate.specs.declared.measure.Measure.TheVariants as measure
use Rattle.shm_simulate.specs.declared.outcome.Outcome.{Outcome}
use Rattle.shm_simulate.specs.declared.spread.Spread.{Spread}
use Rattle.shm_simulate.specs.Lines.{counted}
use Rattle.shm_simulate.specs.Spreads.{ranked}

-- the name of a kind of messages
abbrev pub kind_text : MessageKind → List ℕ
kind_text kind.Ask = codes "Ask"
kind_text kind.Clear = codes "Clear"
kind_text kind.Cleared = codes "Cleared"
kind_text kind.Hand = codes "Hand"
kind_text kind.Page = codes "Page"
kind_text kind.Confirm = codes "Confirm"

-- a line that is a load tells its byte, and a line that wasn't done that its run was given up; the access at place 0 is line 2
abbrev pub gave_text : ℕ → Gave → List ℕ
gave_text line gave.Nothing = codes "line " ++ (decimal line ++ codes " gave up\n")
gave_text line (gave.Byte byte) = codes "line " ++ (decimal line ++ (codes " byte " ++ (decimal byte ++ codes "\n")))
gave_text line gave.Stored = []

abbrev pub given_text : ℕ → List Gave → List ℕ
given_text line [] = []
given_text line (one ∷ more) = gave_text line one ++ given_text (counted line) more

-- the seed of the run of this number, from 0, where the first has this seed
abbrev pub seed_of : ℕ → ℕ → ℕ
seed_of seed run = (seed + run) % 2 ^ 32

-- an outcome of this number: how often it came, and the seed of the first run that came to it; then its lines
abbrev pub outcome_head : ℕ → ℕ → Outcome → List ℕ
outcome_head seed number outcome =
    codes "outcome "
    ++ (decimal number ++ (codes " count " ++ (decimal outcome.count ++ (codes " seed " ++ (decimal (seed_of seed outcome.run) ++ codes "\n")))))

abbrev pub outcome_text : ℕ → ℕ → Outcome → List ℕ
outcome_text seed number outcome = outcome_head seed number outcome ++ given_text 2 outcome.given.items

abbrev pub outcomes_text : ℕ → ℕ → List Outcome → List ℕ
outcomes_text seed number [] = []
outcomes_text seed number (outcome ∷ outcomes) = outcome_text seed number outcome ++ outcomes_text seed (counted number) outcomes

-- what is measured
abbrev pub measure_text : Measure → List ℕ
measure_text (measure.Faults line) = codes "line " ++ (decimal line ++ codes " faults")
measure_text (measure.Rounds line) = codes "line " ++ (decimal line ++ codes " rounds")
measure_text (measure.Messages kind) = codes "messages " ++ kind_text kind
measure_text (measure.PageMessages page) = codes "page " ++ (decimal page ++ codes " messages")
measure_text (measure.Moves page) = codes "page " ++ (decimal page ++ codes " moves")
measure_text (measure.PageFaults page) = codes "page " ++ (decimal page ++ codes " faults")
measure_text measure.Ticks = codes "ticks"

-- a blank and the value, or a dash where there is none
abbrev pub value_text : Option ℕ → List ℕ
value_text None = codes " -"
value_text (Some value) = codes " " ++ decimal value

-- the least, the median and the greatest of the values of so many runs
abbrev pub spread_text : ℕ → Spread → List ℕ
spread_text runs spread =
    measure_text spread.measure ++ (value_text (ranked spread.counts.items 0 0)
    ++ (value_text (ranked spread.counts.items ((runs - 1) / 2) 0) ++ (value_text (ranked spread.counts.items (runs - 1) 0) ++ codes "\n")))

abbrev pub spreads_text : ℕ → List Spread → List ℕ
spreads_text runs [] = []
spreads_text runs (spread ∷ spreads) = spread_text runs spread ++ spreads_text runs spreads

-- what stands between the outcomes and the measures
abbrev pub heading : List ℕ
heading = codes "What no run came to is not therefore impossible.\nThe least, the median and the greatest of all runs:\n"

-- how many runs there were; each outcome; and each measure
abbrev pub tally_text : ℕ → ℕ → List Outcome → List Spread → List ℕ
tally_text seed runs outcomes spreads =
    codes "runs " ++ (decimal runs ++ (codes "\n" ++ (outcomes_text seed 1 outcomes ++ (heading ++ spreads_text runs spreads))))
