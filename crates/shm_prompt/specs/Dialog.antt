-- What stands in a dialog, what is told to the lines of a script, and what the commands make of it.
use Rattle.std.specs.Prelude.{◌≡◌, ℕ, ◌+◌, ◌≤◌, ◌==◌, ◌⊎◌, Bool, true, false, List, [], ◌∷◌, ◌++◌, codes, length, Option, None, Some, Result, Ok, Err}
use Rattle.std.specs.Fmt.{decimal}
use Rattle.std.specs.List.{slice_split}
use Rattle.shm_model.specs.declared.event.Event.TheVariants as event
use Rattle.shm_lines.specs.Line.{line_of}
use Rattle.shm_lines.specs.declared.script_line.Line.{Line}
use Rattle.shm_lines.specs.declared.script_line.Line.TheVariants as line
use Rattle.shm_text.specs.Text.{line_text}
use Rattle.shm_draw.specs.Captions.{Beside}
use Rattle.shm_debug.specs.Said.{next, standing_after}
use Rattle.shm_debug.specs.Standing.{Standing, with_event, world_of}
use Rattle.shm_prompt.specs.Given.{Bytes, Given, TooLong, Unread}
use Rattle.shm_prompt.specs.Hints.{TellsPlain, TellsWrong}
use Rattle.shm_prompt.specs.Notes.{notes_up_to, noted, text_typed, told_noted}
use Rattle.shm_prompt.specs.Refusals.{said_here}
use Rattle.shm_prompt.specs.Saves.{file_named}
use Rattle.shm_prompt.specs.State.{State}
use Rattle.shm_prompt.specs.Undo.{told_of_undo, undone}
use Rattle.shm_prompt.specs.declared.prompt_command.Command.{Command}
use Rattle.shm_prompt.specs.declared.prompt_command.Command.TheVariants as command
use Rattle.shm_prompt.specs.declared.help_text.TheConstants.{HELP}
use Rattle.shm_progress.specs.Deliveries.{IsAtRest}
use Rattle.shm_progress.specs.Rest.Deliveries.{AreOldest, FirstFrom}

-- the number of the last line of the script of what stands: its `sites` line, and a line for each event
abbrev pub last_line : Option Standing → ℕ
last_line None = 0
last_line (Some s) = length s.events + 1

-- what is told where no sites stand yet
abbrev pub not_begun : List ℕ
not_begun = codes "no sites stand yet: begin with a line as sites 2 preset 1\n"

-- what a replay says to the line, and behind a refusal its words; all behind the number of the line that stands last then
abbrev pub answered : Option Standing → Line → List ℕ
answered s l = line_text (last_line (next s l)) (said_here s l)

-- what is said to a line of a script
abbrev pub said_to : Option Standing → Line → List ℕ
said_to s (line.Sites opening) = answered s (line.Sites opening)
said_to None (line.Event e) = not_begun
said_to None (line.Show page) = not_begun
said_to None (line.Back n) = not_begun
said_to (Some s) (line.Event e) = answered (Some s) (line.Event e)
said_to (Some s) (line.Show page) = answered (Some s) (line.Show page)
said_to (Some s) (line.Back n) = answered (Some s) (line.Back n)

-- ---- `run`: deliveries and nothing else

abbrev pub delivered : Standing → List ℕ → Standing
delivered s [] = s
delivered s (k ∷ ks) = delivered (with_event s (event.Deliver k)) ks

-- each told as its line would be
abbrev pub told_of_deliveries : Standing → List ℕ → List ℕ
told_of_deliveries s [] = []
told_of_deliveries s (k ∷ ks) =
    answered (Some s) (line.Event (event.Deliver k)) ++ told_of_deliveries (with_event s (event.Deliver k)) ks

-- These deliveries, and nothing else, lead from what stood to what stands, and each was told. Each is that of the oldest envelope on its way.
pub record Deliveries (s t : Standing) (old new : List ℕ) : Type 0 where
  pub numbers : List ℕ
  pub oldest : AreOldest (world_of s) numbers
  pub stands : t ≡ delivered s numbers
  pub told : new ≡ old ++ told_of_deliveries s numbers

-- at most so many deliveries, up to the end: nothing is on its way, or so many were made and something still is
pub record Delivered (most : ℕ) (s t : Standing) (old new : List ℕ) (quiet : Bool) : Type 0 where
  pub made : Deliveries s t old new
  pub within : length made.numbers ≤ most
  pub none_left : quiet ≡ true → IsAtRest (world_of t)
  pub some_left : quiet ≡ false → (length made.numbers ≡ most) × ((k : ℕ) × FirstFrom (world_of t) 0 k)

-- what `run` tells at its end: that nothing is on its way, or that it stopped at its bound
abbrev pub run_end : ℕ → Bool → List ℕ
run_end most true = codes "nothing is on its way\n"
run_end most false = codes "stopped at the bound of " ++ (decimal most ++ codes ": more is on its way\n")

-- a whole `run`
pub record Ran (most : ℕ) (s t : Standing) (old new : List ℕ) : Type 0 where
  pub before_end : List ℕ
  pub quiet : Bool
  pub deliveries : Delivered most s t old before_end quiet
  pub told : new ≡ before_end ++ run_end most quiet

abbrev pub Runs : ℕ → Option Standing → Option Standing → List ℕ → List ℕ → Type 0
Runs most None new text text' = (new ≡ None) × (text' ≡ text ++ not_begun)
Runs most (Some s) None text text' = ⊥
Runs most (Some s) (Some t) text text' = Ran most s t text text'

-- ---- `undo`

-- what stands where no sites stand or where they do, and what is told
abbrev pub next_undo : Option Standing → Option Standing
next_undo None = None
next_undo (Some s) = Some (undone s)

abbrev pub told_undo : Option Standing → List ℕ
told_undo None = not_begun
told_undo (Some s) = told_of_undo s

-- ---- what a command makes of what stands, and what it tells behind what was told before; what the tables tell isn't said

-- something is told
abbrev pub TellsMore : List ℕ → List ℕ → Type 0
TellsMore text text' = (more : List ℕ) × (text' ≡ text ++ more)

-- something is told of what stands
abbrev pub TellsOfStanding : Option Standing → List ℕ → List ℕ → Type 0
TellsOfStanding None text text' = text' ≡ text ++ not_begun
TellsOfStanding (Some s) text text' = TellsMore text text'

-- the same, and only what a terminal can be told
abbrev pub ShowsStanding : Option Standing → List ℕ → List ℕ → Type 0
ShowsStanding None text text' = text' ≡ text ++ not_begun
ShowsStanding (Some s) text text' = TellsPlain text text'

-- ---- `open`: the lines of a script that was saved, as if they were typed into a fresh session

-- the parts that the line feeds leave
abbrev pub parts_of : List ℕ → List (List ℕ)
parts_of bytes = slice_split (λ byte. byte == 10) bytes

-- this line, and then the rest; or the number of the first that is none
abbrev pub then_lines : ℕ → Option Line → Result (List Line) ℕ → Result (List Line) ℕ
then_lines number None rest = Err number
then_lines number (Some l) (Err wrong) = Err wrong
then_lines number (Some l) (Ok lines) = Ok (l ∷ lines)

-- from the line of this number on; what stands after the last line feed is no line
abbrev pub lines_from : ℕ → List (List ℕ) → Result (List Line) ℕ
lines_from number [] = Ok []
lines_from number (rest ∷ []) = Ok []
lines_from number (bytes ∷ next ∷ others) = then_lines number (line_of bytes) (lines_from (number + 1) (next ∷ others))

-- the lines that these bytes are, or the number of the first that is none
abbrev pub lines_in : List ℕ → Result (List Line) ℕ
lines_in bytes = lines_from 1 (parts_of bytes)

-- each is told as if it was typed
abbrev pub told_to : Option Standing → List Line → List ℕ
told_to s [] = []
told_to s (l ∷ ls) = said_to s l ++ told_to (next s l) ls

-- of these bytes each line was acted on, and was told
pub record Plays (bytes : List ℕ) (s t : Option Standing) (text text' : List ℕ) : Type 0 where
  pub lines : List Line
  pub read : lines_in bytes ≡ Ok lines
  pub stands : t ≡ standing_after s lines
  pub told : text' ≡ text ++ told_to s lines

-- why a script isn't opened
abbrev pub wrong_text : ℕ → List ℕ
wrong_text number = codes "not opened: line " ++ (decimal number ++ codes " is none of a script\n")

abbrev pub empty_text : List ℕ
empty_text = codes "not opened: no line begins the sites\n"

abbrev pub unread_text : List ℕ → List ℕ
unread_text name = codes "not opened: " ++ (name ++ codes " can't be read\n")

abbrev pub long_text : List ℕ → List ℕ
long_text name = codes "not opened: " ++ (name ++ codes " is longer than any script\n")

abbrev pub unnamed_text : List ℕ
unnamed_text = codes "not opened: the file's name is no text\n"

-- what stands where lines lead to this: it, without notes; or where no sites stand then, what stood
abbrev pub opened_to : Option Standing → State → State
opened_to None old = old
opened_to (Some s) old = record { standing = Some s; notes = [] }

abbrev pub told_of_opened : Option Standing → List ℕ → List ℕ
told_of_opened None told = empty_text
told_of_opened (Some s) told = told

abbrev pub opened_by : Result (List Line) ℕ → State → State
opened_by (Err wrong) old = old
opened_by (Ok lines) old = opened_to (standing_after None lines) old

abbrev pub told_of_lines : Result (List Line) ℕ → List ℕ
told_of_lines (Err wrong) = wrong_text wrong
told_of_lines (Ok lines) = told_of_opened (standing_after None lines) (told_to None lines)

-- what stands after the file was read, and what is told
abbrev pub opened : Given → State → State
opened (Bytes bytes) old = opened_by (lines_in bytes) old
opened TooLong old = old
opened Unread old = old

abbrev pub told_of_opening : List ℕ → Given → List ℕ
told_of_opening name (Bytes bytes) = told_of_lines (lines_in bytes)
told_of_opening name TooLong = long_text name
told_of_opening name Unread = unread_text name

-- what the file of this name gave was opened
abbrev pub Opens : (List ℕ → Given → Type 0) → List ℕ → State → State → List ℕ → List ℕ → Type 0
Opens gives name old new text text' =
    (given : Given) × gives name given × (new ≡ opened given old) × (text' ≡ text ++ told_of_opening name given)

-- the same of the name that was typed, if it is one
abbrev pub OpensTyped : (List ℕ → Given → Type 0) → Option (List ℕ) → State → State → List ℕ → List ℕ → Type 0
OpensTyped gives None old new text text' = (new ≡ old) × (text' ≡ text ++ unnamed_text)
OpensTyped gives (Some name) old new text text' = Opens gives name old new text text'

-- ---- `note`

-- the notes after the text that was typed, and what is told; where no sites stand nothing is kept
abbrev pub next_notes : Option Standing → List Beside → List ℕ → List Beside
next_notes None notes typed = notes
next_notes (Some s) notes typed = noted notes (last_line (Some s)) (text_typed typed)

abbrev pub told_note : Option Standing → List ℕ → List ℕ
told_note None typed = not_begun
told_note (Some s) typed = told_noted (last_line (Some s)) (text_typed typed)

-- ---- each command

-- what stands, with the notes of lines that stand
abbrev pub standing_now : State → Option Standing → State
standing_now old s = record { standing = s; notes = notes_up_to (last_line s) old.notes }

-- after a line of a script: a `sites` line drops all notes
abbrev pub after_line : State → Line → State
after_line old (line.Sites opening) = record { standing = next old.standing (line.Sites opening); notes = [] }
after_line old (line.Event e) = standing_now old (next old.standing (line.Event e))
after_line old (line.Show page) = standing_now old (next old.standing (line.Show page))
after_line old (line.Back n) = standing_now old (next old.standing (line.Back n))

-- What was typed is told, where reading a file of a name may give so.
abbrev pub Obeyed : (List ℕ → Given → Type 0) → List ℕ → State → Command → State → List ℕ → List ℕ → Type 0
Obeyed gives typed old (command.Line l) new text text' = (new ≡ after_line old l) × (text' ≡ text ++ said_to old.standing l)
Obeyed gives typed old command.Undo new text text' = (new ≡ standing_now old (next_undo old.standing)) × (text' ≡ text ++ told_undo old.standing)
Obeyed gives typed old (command.Run most) new text text' = Runs most old.standing new.standing text text' × (new.notes ≡ old.notes)
Obeyed gives typed old command.Flight new text text' = (new ≡ old) × ShowsStanding old.standing text text'
Obeyed gives typed old command.Sites new text text' = (new ≡ old) × ShowsStanding old.standing text text'
Obeyed gives typed old (command.Book page) new text text' = (new ≡ old) × ShowsStanding old.standing text text'
Obeyed gives typed old command.Segments new text text' = (new ≡ old) × ShowsStanding old.standing text text'
Obeyed gives typed old command.Help new text text' = (new ≡ old) × (text' ≡ text ++ HELP.now)
Obeyed gives typed old command.Save new text text' = (new ≡ old) × TellsOfStanding old.standing text text'
Obeyed gives typed old command.Open new text text' = OpensTyped gives (file_named typed) old new text text'
Obeyed gives typed old command.Note new text text' =
    (new ≡ record old { notes = next_notes old.standing old.notes typed }) × (text' ≡ text ++ told_note old.standing typed)
Obeyed gives typed old command.Notes new text text' = (new ≡ old) × TellsOfStanding old.standing text text'
Obeyed gives typed old command.Quit new text text' = (new ≡ old) × (text' ≡ text)

-- the same of what was typed; a wrong line changes nothing, and is told what was expected
abbrev pub ObeyedTyped : (List ℕ → Given → Type 0) → List ℕ → State → Option Command → State → List ℕ → List ℕ → Type 0
ObeyedTyped gives typed old None new text text' = (new ≡ old) × TellsWrong typed text text'
ObeyedTyped gives typed old (Some command) new text text' = Obeyed gives typed old command new text text'

-- ---- what stands where memory was refused

-- a line of a script: what stood, or what stands after it
abbrev pub Halted : Option Standing → Line → Option Standing → Type 0
Halted old l new = (new ≡ old) ⊎ (new ≡ next old l)

-- all notes, or those of lines that stand
abbrev pub LeavesNotes : State → State → Type 0
LeavesNotes old new = (new.notes ≡ old.notes) ⊎ (new.notes ≡ notes_up_to (last_line new.standing) old.notes)

-- some of a run's deliveries, each of the oldest envelope on its way
pub record SomeDelivered (most : ℕ) (s t : Standing) : Type 0 where
  pub numbers : List ℕ
  pub oldest : AreOldest (world_of s) numbers
  pub within : length numbers ≤ most
  pub stands : t ≡ delivered s numbers

abbrev pub HaltedRun : ℕ → Option Standing → Option Standing → Type 0
HaltedRun most None new = new ≡ None
HaltedRun most (Some s) None = ⊥
HaltedRun most (Some s) (Some t) = SomeDelivered most s t

abbrev pub HaltedCommand : State → Command → State → Type 0
HaltedCommand old (command.Line l) new = Halted old.standing l new.standing × LeavesNotes old new
HaltedCommand old command.Undo new = ((new.standing ≡ old.standing) ⊎ (new.standing ≡ next_undo old.standing)) × LeavesNotes old new
HaltedCommand old (command.Run most) new = HaltedRun most old.standing new.standing × (new.notes ≡ old.notes)
HaltedCommand old _ new = new ≡ old

abbrev pub HaltedTyped : State → Option Command → State → Type 0
HaltedTyped old None new = new ≡ old
HaltedTyped old (Some command) new = HaltedCommand old command new

-- ---- a line that ends

-- what is told of a line that is too long
abbrev pub too_long : List ℕ
too_long = codes "a line has at most 200 bytes\n"
