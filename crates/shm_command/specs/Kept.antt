-- The scripts of a simulation's outcomes, and the logs of a run, as they are kept in a folder.
use Rattle.std.specs.Prelude.{⊤, ◌≡◌, ℕ, ◌+◌, List, [], ◌∷◌, ◌++◌, codes, map, Option, None, Some}
use Rattle.std.specs.Fmt.{decimal}
use Rattle.std.specs.declared.alloc.Global.{Global}
use Rattle.shm_logs.specs.Boxes.SiteLog.{steps_of}
use Rattle.shm_logs.specs.declared.site_boxes.site_log.SiteLog.{SiteLog}
use Rattle.shm_model.specs.World.{Preset}
use Rattle.shm_debug.specs.Standing.{Standing, standing}
use Rattle.shm_prompt.specs.Saved.{lines_of, text_of_lines}
use Rattle.shm_prompt.specs.Saves.{Save, Whole}
use Rattle.shm_report.specs.LogText.{log_text}
use Rattle.shm_simulate.specs.declared.outcome.Outcome.{Outcome}

-- a file in a folder; one without a name is the folder where the program runs
abbrev pub in_folder : List ℕ → List ℕ → List ℕ
in_folder [] file = file
in_folder (first ∷ others) file = (first ∷ others) ++ (codes "/" ++ file)

-- the file of the outcome of this number
abbrev pub name_of_outcome : List ℕ → ℕ → List ℕ
name_of_outcome folder number = in_folder folder (codes "outcome-" ++ (decimal number ++ codes ".shm"))

-- the run that is kept of an outcome: how it began, and its events
abbrev pub run_of_outcome : ℕ → ℕ → Outcome → Standing
run_of_outcome sites pages outcome = standing (Preset sites pages) outcome.events.items

-- its script
abbrev pub script_of_outcome : ℕ → ℕ → Outcome → List ℕ
script_of_outcome sites pages outcome = text_of_lines (lines_of (run_of_outcome sites pages outcome))

-- each outcome's script is saved whole under its name; the first has this number
abbrev pub kept : List ℕ → ℕ → ℕ → ℕ → List Outcome → List Save
kept folder sites pages number [] = []
kept folder sites pages number (outcome ∷ outcomes) =
    Whole (name_of_outcome folder number) (script_of_outcome sites pages outcome) ∷ kept folder sites pages (number + 1) outcomes

-- the file of a site's log
abbrev pub name_of_log : List ℕ → ℕ → List ℕ
name_of_log folder site = in_folder folder (codes "site-" ++ (decimal site ++ codes ".log"))

-- a site's log is saved whole under its name
abbrev pub kept_log : List ℕ → SiteLog Global → Save
kept_log folder log = Whole (name_of_log folder log.me) (log_text log.me 0 (steps_of log))

-- each is
abbrev pub kept_logs : List ℕ → List (SiteLog Global) → List Save
kept_logs folder logs = map (kept_log folder) logs

-- of saves that are known there are these more
abbrev pub AddsAll : Option (List Save) → Option (List Save) → List Save → Type 0
AddsAll None new saves = ⊤
AddsAll (Some before) None saves = ⊥
AddsAll (Some before) (Some now) saves = now ≡ before ++ saves
