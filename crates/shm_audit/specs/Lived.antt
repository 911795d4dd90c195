-- What an audit finds in the journal of a site's lives: the site's box after exactly the steps that it made in them, life after life.
use Rattle.std.specs.Prelude.{◌≡◌, ℕ, List, [], ◌∷◌, ◌++◌, Some}
use Rattle.shm_process.specs.Node.{Node}
use Rattle.shm_process.specs.Recorded.{Entry, Event, after_events, entries_of, kept}
use Rattle.shm_journal.specs.Found.{Sound, opened}
use Rattle.shm_journal.specs.Lines.{Header}
use Rattle.shm_journal.specs.Lives.{after_lives}
use Rattle.shm_logs.specs.Boxes.Box.{Box, new_box}
use Rattle.shm_audit.specs.Entered.{box_after_all}
use Rattle.shm_audit.specs.Found.{found}
use Rattle.shm_audit.specs.Told.{ToldStep, told_at, told_by_log}

-- the steps of these lives, each as an entry of its own
abbrev pub steps_in_lives : Node → List (List Event) → List Entry
steps_in_lives node [] = []
steps_in_lives node (life ∷ lives) = entries_of node life ++ steps_in_lives (kept (after_events node life)) lives

-- what the process said of them
abbrev pub told_in_lives : Node → List (List Event) → List ToldStep
told_in_lives node [] = []
told_in_lives node (life ∷ lives) = told_at node life ++ told_in_lives (kept (after_events node life)) lives

-- the box of this header's site, in which nothing has happened
abbrev pub first_box : Header → Box
first_box header = new_box header.sites header.me header.pages

-- An audit finds a box in this file. Exactly the steps of these lives lead there; its site stands as the process's does after them; and its
-- log tells what the process said, step by step.
pub record FindsLog (header : Header) (lives : List (List Event)) (file : List ℕ) : Type 0 where
  pub box : Box
  pub sound : found file ≡ Sound box
  pub steps : box_after_all (first_box header) (steps_in_lives (opened header) lives) ≡ Some box
  pub site : box.site ≡ (after_lives (opened header) lives).site
  pub clock : box.clock ≡ (after_lives (opened header) lives).clock
  pub told : told_by_log box ≡ told_in_lives (opened header) lives
