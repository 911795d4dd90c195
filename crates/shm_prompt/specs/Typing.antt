-- What is typed, line by line: which lines are obeyed, and what stands, what is told, what is saved and what isn't after each.
use Rattle.std.specs.Prelude.{◌≡◌, ℕ, ◌==◌, ◌&&◌, ◌||◌, ◌⊎◌, Bool, true, false, not, All, if◌then◌else◌, List, [], ◌∷◌, ◌++◌, codes, drop, length, nat_lt, take, Option, None, Some}
use Rattle.std.specs.List.{ends_with, starts_with}
use Rattle.shm_lines.specs.declared.script_line.Line.{Line}
use Rattle.shm_lines.specs.declared.script_line.Line.TheVariants as line
use Rattle.shm_prompt.specs.Command.{command_of, is_notes, is_quit, is_save}
use Rattle.shm_prompt.specs.Dialog.{ObeyedTyped, too_long}
use Rattle.shm_prompt.specs.Given.{Given}
use Rattle.shm_prompt.specs.Saves.{HaltsNotes, HaltsScript, Save, SavesNotes, SavesTyped}
use Rattle.shm_prompt.specs.Spelled.{max_line_bytes}
use Rattle.shm_prompt.specs.State.{State}
use Rattle.shm_prompt.specs.declared.prompt_command.Command.{Command}
use Rattle.shm_prompt.specs.declared.prompt_command.Command.TheVariants as command
use Rattle.shm_prompt.specs.declared.unsaved_changes.Unsaved.{Unsaved}

-- ---- lines

-- what was typed of a line, without the blanks before it
unfoldable pub unblanked : List ℕ → List ℕ
unblanked [] = []
unblanked (byte ∷ bytes) = if byte == 32 then unblanked bytes else byte ∷ bytes

-- whether that is more than a line has
abbrev pub is_too_long : List ℕ → Bool
is_too_long typed = nat_lt max_line_bytes (length (unblanked typed))

-- no line feed is among these bytes
abbrev pub IsUnfed : List ℕ → Type 0
IsUnfed bytes = All (λ byte. (byte == 10) ≡ false) bytes

-- lines as they are typed, each with its line feed
unfoldable pub with_feeds : List (List ℕ) → List ℕ
with_feeds [] = []
with_feeds (typed ∷ lines) = typed ++ 10 ∷ with_feeds lines

-- ---- what isn't saved

abbrev pub is_told_saved : List ℕ → Bool
is_told_saved told = starts_with (λ a b. a == b) told (codes "saved to ")

abbrev pub is_told_noted : List ℕ → Bool
is_told_noted told = ends_with (λ a b. a == b) told (codes " noted\n")

-- a line of a script may change what stands, unless it only shows
abbrev pub may_change : Line → Bool
may_change (line.Sites opening) = true
may_change (line.Event e) = true
may_change (line.Show page) = false
may_change (line.Back n) = true

-- whether what stands may have changed since it was saved, after a command to which this was told
abbrev pub script_unsaved : Bool → Option Command → List ℕ → Bool
script_unsaved was (Some (command.Line l)) told = was || may_change l
script_unsaved was (Some (command.Run most)) told = true
script_unsaved was (Some command.Undo) told = true
script_unsaved was (Some command.Save) told = was && not (is_told_saved told)
script_unsaved was _ told = was

-- the same of the notes
abbrev pub notes_unsaved : Bool → Option Command → List ℕ → Bool
notes_unsaved was (Some command.Note) told = was || is_told_noted told
notes_unsaved was (Some command.Notes) told = was && not (is_told_saved told)
notes_unsaved was _ told = was

-- both, where some notes may have been dropped
abbrev pub unsaved_after : Unsaved → Option Command → List ℕ → Bool → Unsaved
unsaved_after was said told drops = record { script = script_unsaved was.script said told; notes = notes_unsaved (was.notes || drops) said told }

-- ---- each line

-- What there is between two lines: what stands, what of it isn't saved, the files, and what was told.
pub record Moment (F : Type 0) : Type 0 where
  pub state : State
  pub unsaved : Unsaved
  pub files : F
  pub told : List ℕ

abbrev pub moment : {F : Type 0} → State → Unsaved → F → List ℕ → Moment F
moment state unsaved files told = record { state = state; unsaved = unsaved; files = files; told = told }

-- A line is obeyed. Of the files it is known what was saved through them, and what each may give.
pub record Obeys {F : Type 0} (saves : F → Option (List Save)) (gives : F → List ℕ → Given → Type 0) (typed : List ℕ) (old : Moment F) (quits : Bool) (new : Moment F) : Type 0 where
  pub obeyed : ObeyedTyped (gives old.files) typed old.state (command_of typed) new.state old.told new.told
  pub quitting : quits ≡ is_quit (command_of typed)
  pub for_script : is_save (command_of typed) ≡ true → SavesTyped old.state.standing typed (saves old.files) (saves new.files) old.told new.told
  pub for_notes : is_notes (command_of typed) ≡ true → SavesNotes old.state.standing old.state.notes typed (saves old.files) (saves new.files) old.told new.told
  pub for_others : is_save (command_of typed) ≡ false → is_notes (command_of typed) ≡ false → new.files ≡ old.files
  pub changed : new.unsaved ≡ unsaved_after old.unsaved (command_of typed) (drop (length old.told) new.told) (nat_lt (length new.state.notes) (length old.state.notes))

-- A line is answered: one that is too long isn't obeyed, which is told.
abbrev pub Answers : {F : Type 0} → (F → Option (List Save)) → (F → List ℕ → Given → Type 0) → Bool → List ℕ → Moment F → Bool → Moment F → Type 0
Answers saves gives true typed old quits new = (quits ≡ false) × (new ≡ moment old.state old.unsaved old.files (old.told ++ too_long))
Answers saves gives false typed old quits new = Obeys saves gives typed old quits new

-- These lines are answered, one after another, and none quits.
abbrev pub AllAnswered : {F : Type 0} → (F → Option (List Save)) → (F → List ℕ → Given → Type 0) → List (List ℕ) → Moment F → Moment F → Type 0
AllAnswered saves gives [] old new = new ≡ old
AllAnswered {F} saves gives (typed ∷ lines) old new =
    (now : Moment F) × Answers saves gives (is_too_long typed) (unblanked typed) old false now × AllAnswered saves gives lines now new

-- ---- bytes that come

-- Behind the front of a line come these bytes: each line that ends with them is answered, and the rest is the front of the next.
pub record GoesOn {F : Type 0} (saves : F → Option (List Save)) (gives : F → List ℕ → Given → Type 0) (front bytes : List ℕ) (old new : Moment F) (rest : List ℕ) : Type 0 where
  pub lines : List (List ℕ)
  pub whole : All IsUnfed lines
  pub unended : IsUnfed rest
  pub typed : front ++ bytes ≡ with_feeds lines ++ rest
  pub answered : AllAnswered saves gives lines old new

-- The same up to a line that quits; what comes behind it isn't looked at.
pub record Quits {F : Type 0} (saves : F → Option (List Save)) (gives : F → List ℕ → Given → Type 0) (front bytes : List ℕ) (old new : Moment F) : Type 0 where
  pub lines : List (List ℕ)
  pub whole : All IsUnfed lines
  pub last : List ℕ
  pub unended : IsUnfed last
  pub rest : List ℕ
  pub typed : front ++ bytes ≡ with_feeds lines ++ (last ++ 10 ∷ rest)
  pub between : Moment F
  pub answered : AllAnswered saves gives lines old between
  pub quit : Answers saves gives (is_too_long last) (unblanked last) between true new

-- Memory is refused to a line: at most the file that it saves was written, or couldn't be.
pub record Halts {F : Type 0} (saves : F → Option (List Save)) (typed : List ℕ) (old : Moment F) (files : F) : Type 0 where
  pub for_script : is_save (command_of typed) ≡ true → HaltsScript old.state.standing typed (saves old.files) (saves files)
  pub for_notes : is_notes (command_of typed) ≡ true → HaltsNotes old.state.standing old.state.notes typed (saves old.files) (saves files)
  pub for_others : is_save (command_of typed) ≡ false → is_notes (command_of typed) ≡ false → files ≡ old.files

abbrev pub HaltsLine : {F : Type 0} → (F → Option (List Save)) → Bool → List ℕ → Moment F → F → Type 0
HaltsLine saves true typed old files = files ≡ old.files
HaltsLine saves false typed old files = Halts saves typed old files

-- What memory was refused to: to no line, or to the next.
abbrev pub HaltsBefore : {F : Type 0} → (F → Option (List Save)) → List ℕ → Moment F → F → Type 0
HaltsBefore saves rest old files =
    (files ≡ old.files) ⊎ ((typed after : List ℕ) × (rest ≡ typed ++ 10 ∷ after) × IsUnfed typed × HaltsLine saves (is_too_long typed) (unblanked typed) old files)

-- Memory is refused among these bytes: the lines before are answered, and no later one.
pub record Starves {F : Type 0} (saves : F → Option (List Save)) (gives : F → List ℕ → Given → Type 0) (front bytes : List ℕ) (old : Moment F) (files : F) : Type 0 where
  pub lines : List (List ℕ)
  pub whole : All IsUnfed lines
  pub rest : List ℕ
  pub typed : front ++ bytes ≡ with_feeds lines ++ rest
  pub between : Moment F
  pub answered : AllAnswered saves gives lines old between
  pub halted : HaltsBefore saves rest between files

-- ---- a line that is being typed

-- of a line whose front was typed, so much is kept
pub record IsKept (typed kept : List ℕ) (is_long : Bool) : Type 0 where
  pub unended : IsUnfed typed
  pub front : kept ≡ take max_line_bytes (unblanked typed)
  pub long : is_long ≡ is_too_long typed
