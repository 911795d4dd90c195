-- What is written for a script: for each line its number, a blank, what is said to it, and a line feed.
use Rattle.std.specs.Prelude.{ℕ, ◌+◌, List, [], ◌∷◌, ◌++◌, Option, None}
use Rattle.shm_lines.specs.declared.script_line.Line.{Line}
use Rattle.shm_debug.specs.Standing.{Standing}
use Rattle.shm_text.specs.Text.{line_text}
use Rattle.shm_debug.specs.Said.{said, next}

-- of the lines from this number on
abbrev pub text_from : ℕ → Option Standing → List Line → List ℕ
text_from number s [] = []
text_from number s (line ∷ lines) = line_text number (said s line) ++ text_from (number + 1) (next s line) lines

abbrev pub text_of : List Line → List ℕ
text_of lines = text_from 1 None lines
