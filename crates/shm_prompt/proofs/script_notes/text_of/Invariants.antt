use Rattle.std.proofs.Common.{◌≡◌, ◌++◌, drop}
use Rattle.shm_prompt.specs.Notes.{notes_text}
use Rattle.shm_prompt.proofs.script_notes.text_of.Given as goal

-- the text so far, and then that of the others
abbrev pub invariant-notes : goal.invariant-notes
invariant-notes g l = l.text.items ++ notes_text (drop l.note-index l.notes) ≡ notes_text l.notes
