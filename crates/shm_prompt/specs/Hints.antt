-- What is told of a wrong line: how its command is typed, or where it goes wrong; and what a terminal can be told.
use Rattle.std.specs.Prelude.{◌≡◌, ℕ, ◌==◌, ◌&&◌, ◌||◌, Bool, true, if◌then◌else◌, List, [], ◌∷◌, ◌++◌, codes, nat_le, Option, None, Some}
use Rattle.std.specs.List.{list_all}
use Rattle.std.specs.Str.{bytes_eq}
use Rattle.shm_lines.specs.Words.{words_of}

-- ---- what a terminal can be told

-- a printable character of ASCII, or a line feed
abbrev pub is_plain : ℕ → Bool
is_plain byte = (byte == 10) || (nat_le 32 byte && nat_le byte 126)

-- something is told, and each byte of it is plain
abbrev pub TellsPlain : List ℕ → List ℕ → Type 0
TellsPlain text text' = (more : List ℕ) × (text' ≡ text ++ more) × (list_all is_plain more ≡ true)

-- ---- how the commands are typed that are no lines of a script

-- of those that keep something: scripts in files, and notes
abbrev pub kept_form_of : List ℕ → Option (List ℕ)
kept_form_of verb =
    if bytes_eq verb (codes "save") then Some (codes "save FILE, where FILE is one word")
    else if bytes_eq verb (codes "open") then Some (codes "open FILE, where FILE is one word")
    else if bytes_eq verb (codes "note") then Some (codes "note TEXT")
    else if bytes_eq verb (codes "notes") then Some (codes "notes FILE, where FILE is one word")
    else None

-- of those that show a table, and of the former
abbrev pub shown_form_of : List ℕ → Option (List ℕ)
shown_form_of verb =
    if bytes_eq verb (codes "flight") then Some (codes "flight")
    else if bytes_eq verb (codes "book") then Some (codes "book SEGMENT PAGE")
    else if bytes_eq verb (codes "segments") then Some (codes "segments")
    else kept_form_of verb

-- of any
abbrev pub form_of : List ℕ → Option (List ℕ)
form_of verb =
    if bytes_eq verb (codes "run") then Some (codes "run, or run N with N from 0 to 4294967295, with no zero before other digits")
    else if bytes_eq verb (codes "undo") then Some (codes "undo")
    else if bytes_eq verb (codes "help") then Some (codes "help")
    else if bytes_eq verb (codes "?") then Some (codes "help")
    else if bytes_eq verb (codes "quit") then Some (codes "quit")
    else if bytes_eq verb (codes "exit") then Some (codes "quit")
    else shown_form_of verb

abbrev pub verb_among : List (List ℕ) → List ℕ
verb_among [] = []
verb_among (verb ∷ words) = verb

abbrev pub verb_of : List ℕ → List ℕ
verb_of typed = verb_among (words_of typed)

abbrev pub form_text : List ℕ → List ℕ
form_text form = codes "expected: " ++ (form ++ codes "\n")

-- ---- a wrong line

abbrev pub TellsForm : Option (List ℕ) → List ℕ → List ℕ → Type 0
TellsForm None text text' = TellsPlain text text'
TellsForm (Some form) text text' = text' ≡ text ++ form_text form

-- where its first word is such a command, how that is typed; or else something plain
abbrev pub TellsWrong : List ℕ → List ℕ → List ℕ → Type 0
TellsWrong typed text text' = TellsForm (form_of (verb_of typed)) text text'
