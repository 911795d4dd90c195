-- What may be typed: each line of a script, and the commands of the prompt beside them.
use Rattle.std.specs.Prelude.{ℕ, Bool, true, false, if◌then◌else◌, List, codes, Option, None, Some}
use Rattle.std.specs.Str.{bytes_eq}
use Rattle.shm_lines.specs.Line.{line_of}
use Rattle.shm_lines.specs.Spelling.{IsLine}
use Rattle.shm_lines.specs.Words.{◌>>=◌, words_of, next_word, next_number, is_end}
use Rattle.shm_prompt.specs.declared.prompt_command.Command.{Command}
use Rattle.shm_prompt.specs.declared.prompt_command.Command.TheVariants.{Line, Flight, Sites, Book, Segments, Run, Undo, Help, Save, Open, Note, Notes, Quit}

-- how many envelopes `run` delivers at most, where it isn't told
abbrev pub most_by_default : ℕ
most_by_default = 10000

-- the command, if no word is left
abbrev pub alone : Command → List (List ℕ) → Option Command
alone command words = if is_end words then Some command else None

-- a line of a script
abbrev pub scripted : List ℕ → Option Command
scripted bytes = do
  line ← line_of bytes
  Some (Line line)

-- `run`, or `run N`
abbrev pub run_of : List (List ℕ) → Option Command
run_of words =
    if is_end words then Some (Run most_by_default)
    else do
      (most, words) ← next_number words
      alone (Run most) words

-- `save FILE`, where the name is one word
abbrev pub save_of : List (List ℕ) → Option Command
save_of words = do
  (name, words) ← next_word words
  alone Save words

-- `sites` alone shows them; with numbers it is a line
abbrev pub sites_of : List ℕ → List (List ℕ) → Option Command
sites_of bytes words = if is_end words then Some Sites else scripted bytes

-- `book SEGMENT PAGE`
abbrev pub book_of : List (List ℕ) → Option Command
book_of words = do
  (seg, words) ← next_number words
  (index, words) ← next_number words
  alone (Book (record { seg = seg; index = index })) words

-- `open FILE`, where the name is one word
abbrev pub open_of : List (List ℕ) → Option Command
open_of words = do
  (name, words) ← next_word words
  alone Open words

-- `note TEXT`, where the text is all that stands behind the first blank
abbrev pub note_of : List (List ℕ) → Option Command
note_of words = do
  (word, words) ← next_word words
  Some Note

-- `notes FILE`, where the name is one word
abbrev pub notes_of : List (List ℕ) → Option Command
notes_of words = do
  (name, words) ← next_word words
  alone Notes words

-- notes, or a line of a script
abbrev pub noted_by : List ℕ → List ℕ → List (List ℕ) → Option Command
noted_by bytes verb words =
    if bytes_eq verb (codes "note") then note_of words
    else if bytes_eq verb (codes "notes") then notes_of words
    else scripted bytes

-- the shorter words for `help` and `quit`, a page's book, a script that is opened, or others
abbrev pub short_by : List ℕ → List ℕ → List (List ℕ) → Option Command
short_by bytes verb words =
    if bytes_eq verb (codes "?") then alone Help words
    else if bytes_eq verb (codes "exit") then alone Quit words
    else if bytes_eq verb (codes "book") then book_of words
    else if bytes_eq verb (codes "open") then open_of words
    else noted_by bytes verb words

abbrev pub other_by : List ℕ → List ℕ → List (List ℕ) → Option Command
other_by bytes verb words =
    if bytes_eq verb (codes "undo") then alone Undo words
    else if bytes_eq verb (codes "help") then alone Help words
    else if bytes_eq verb (codes "save") then save_of words
    else if bytes_eq verb (codes "quit") then alone Quit words
    else short_by bytes verb words

abbrev pub command_by : List ℕ → List ℕ → List (List ℕ) → Option Command
command_by bytes verb words =
    if bytes_eq verb (codes "flight") then alone Flight words
    else if bytes_eq verb (codes "sites") then sites_of bytes words
    else if bytes_eq verb (codes "segments") then alone Segments words
    else if bytes_eq verb (codes "run") then run_of words
    else other_by bytes verb words

-- what a line that was typed says; none: nothing
abbrev pub command_of : List ℕ → Option Command
command_of bytes = do
  (verb, words) ← next_word (words_of bytes)
  command_by bytes verb words

-- whether it ends the session
abbrev pub is_quit : Option Command → Bool
is_quit (Some Quit) = true
is_quit _ = false

-- whether it saves the script, or the notes
abbrev pub is_save : Option Command → Bool
is_save (Some Save) = true
is_save _ = false

abbrev pub is_notes : Option Command → Bool
is_notes (Some Notes) = true
is_notes _ = false

-- a line of a script is one that there is
abbrev pub IsCommand : Command → Type 0
IsCommand (Line line) = IsLine line
IsCommand _ = Unit {0}
