use Rattle.std.proofs.Common.{◌≡◌, ◌∷◌, All, map, take}
use Rattle.shm_lines.specs.declared.script_line.Line.TheVariants.{Event as EventLine}
use Rattle.shm_prompt.specs.Saved.{text_of_lines}
use Rattle.shm_prompt.specs.Spelled.{IsSpelled}
use Rattle.shm_prompt.proofs.saved_script_text.text_of.Given as goal

-- the text of the first line and of the events so far, all of which are spelled
abbrev pub invariant-events : goal.invariant-events
invariant-events g l =
    (l.text.items ≡ text_of_lines (l.fn.first ∷ map EventLine (take l.event-index l.events)))
    × All IsSpelled (l.fn.first ∷ map EventLine (take l.event-index l.events))
