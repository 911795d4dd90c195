-- A whole dialog, read by read: what is told between the answers, when it ends, and what was written by then.
use Rattle.std.specs.Prelude.{◌≡◌, ◌≢◌, ℕ, ◌==◌, ◌&&◌, ◌||◌, ◌⊎◌, Bool, true, false, if◌then◌else◌, List, [], ◌∷◌, ◌++◌, codes, length, nat_lt, take, Option, None, Some, Result, Ok, Err}
use Rattle.std.specs.Io.KnownBytes.{Appends, Consumes, IsAtEnd, Keeps}
use Rattle.shm_draw.specs.Captions.{Beside}
use Rattle.shm_prompt.specs.Given.{Given}
use Rattle.shm_prompt.specs.Saves.{Save}
use Rattle.shm_prompt.specs.State.{State}
use Rattle.shm_prompt.specs.Typing.{GoesOn, Moment, Quits, Starves, moment, unblanked}
use Rattle.shm_prompt.specs.declared.prompt_error.PromptFault.{PromptFault}
use Rattle.shm_prompt.specs.declared.prompt_error.PromptFault.TheVariants.{OutOfMemory, ReadFault, WriteFault}
use Rattle.shm_prompt.specs.declared.prompt_loop.TheConstants.{GREETING}
use Rattle.shm_prompt.specs.declared.unsaved_changes.Unsaved.{Unsaved}

-- ---- what a person is told between the answers

abbrev pub told_if : Bool → List ℕ → List ℕ
told_if b text = if b then text else []

abbrev pub greeting : Bool → List ℕ
greeting is_terminal = told_if is_terminal GREETING.now

-- a mark stands before a line, unless its front was typed
abbrev pub mark : Bool → List ℕ → List ℕ
mark is_terminal typed = told_if (is_terminal && (length (unblanked typed) == 0)) (codes "> ")

-- what isn't saved: of the notes, where some stand
abbrev pub unsaved_here : Unsaved → List Beside → Unsaved
unsaved_here unsaved notes = record { script = unsaved.script; notes = unsaved.notes && nat_lt 0 (length notes) }

abbrev pub is_unsaved : Unsaved → Bool
is_unsaved unsaved = unsaved.script || unsaved.notes

abbrev pub all_saved : Unsaved
all_saved = record { script = false; notes = false }

-- at the input's end
abbrev pub end_text : Unsaved → List ℕ
end_text unsaved =
    codes "\n" ++ (told_if unsaved.script (codes "what stands is not saved: `save FILE` first, or Ctrl-D again\n")
    ++ told_if unsaved.notes (codes "notes are not saved: `notes FILE` first, or Ctrl-D again\n"))

-- what is written of this text where writing it fails, or memory for it is refused
abbrev pub NotShown : Option (List ℕ) → Option (List ℕ) → List ℕ → PromptFault → Type 0
NotShown old new text WriteFault = (n : ℕ) × Appends old new (take n text)
NotShown old new text OutOfMemory = new ≡ old
NotShown old new text ReadFault = ⊥

-- ---- what a read gives

-- The input ends, and a person is told once what isn't saved.
pub record Stays {F : Type 0} (is_terminal : Bool) (old new : Moment F) : Type 0 where
  pub person : is_terminal ≡ true
  pub some : is_unsaved (unsaved_here old.unsaved old.state.notes) ≡ true
  pub becomes : new ≡ moment old.state all_saved old.files (old.told ++ end_text (unsaved_here old.unsaved old.state.notes))

-- The input ends the dialog: a person's only where nothing is unsaved, or that was told before.
pub record RunsOut {F : Type 0} (is_terminal : Bool) (old new : Moment F) : Type 0 where
  pub clean : is_terminal ≡ true → is_unsaved (unsaved_here old.unsaved old.state.notes) ≡ false
  pub kept : new.files ≡ old.files
  pub told : new.told ≡ old.told ++ told_if is_terminal (codes "\n")

-- These bytes come behind the front of a line, and the dialog goes on. No bytes are the input's end.
abbrev pub GivenOn : {F : Type 0} → (F → Option (List Save)) → (F → List ℕ → Given → Type 0) → Bool → List ℕ → List ℕ → Moment F → Moment F → List ℕ → Type 0
GivenOn saves gives is_terminal front [] old new rest = Stays is_terminal old new × (rest ≡ front)
GivenOn saves gives is_terminal front (byte ∷ bytes) old new rest = GoesOn saves gives front (byte ∷ bytes) old new rest

-- the same, and it ends
abbrev pub GivenLast : {F : Type 0} → (F → Option (List Save)) → (F → List ℕ → Given → Type 0) → Bool → List ℕ → List ℕ → Moment F → Moment F → Type 0
GivenLast saves gives is_terminal front [] old new = RunsOut is_terminal old new
GivenLast saves gives is_terminal front (byte ∷ bytes) old new = Quits saves gives front (byte ∷ bytes) old new

-- ---- each read

-- Between two reads: what is left to be read, all that was told, the front of a line that was typed, what stands and what isn't saved, and
-- the files.
pub record Sitting (F : Type 0) : Type 0 where
  pub left : Option (List ℕ)
  pub told : List ℕ
  pub typed : List ℕ
  pub state : State
  pub unsaved : Unsaved
  pub files : F

abbrev pub sitting : {F : Type 0} → Option (List ℕ) → List ℕ → List ℕ → State → Unsaved → F → Sitting F
sitting left told typed state unsaved files =
    record { left = left; told = told; typed = typed; state = state; unsaved = unsaved; files = files }

abbrev pub nothing_typed : {F : Type 0} → Bool → Option (List ℕ) → F → Sitting F
nothing_typed is_terminal left files = sitting left (greeting is_terminal) [] (record { standing = None; notes = [] }) all_saved files

-- what was told when the next read begins: all is written by then
abbrev pub asked : {F : Type 0} → Bool → Sitting F → List ℕ
asked is_terminal now = now.told ++ mark is_terminal now.typed

-- what is told to a read begins anew
abbrev pub before_read : {F : Type 0} → Sitting F → Moment F
before_read now = moment now.state now.unsaved now.files []

-- what these bytes are that were read: the next ones, or none at the input's end
pub record IsRead (bytes : List ℕ) (old new : Option (List ℕ)) : Type 0 where
  pub next : Consumes old new bytes
  pub end : bytes ≡ [] → IsAtEnd new

-- Something was read and answered, and the dialog goes on.
pub record Reads {F : Type 0} (saves : F → Option (List Save)) (gives : F → List ℕ → Given → Type 0) (is_terminal : Bool) (bytes : List ℕ) (old new : Sitting F) : Type 0 where
  pub read : IsRead bytes old.left new.left
  pub answers : List ℕ
  pub told : new.told ≡ asked is_terminal old ++ answers
  pub given : GivenOn saves gives is_terminal old.typed bytes (before_read old) (moment new.state new.unsaved new.files answers) new.typed

-- one read after another
abbrev pub AllRead : {F : Type 0} → (F → Option (List Save)) → (F → List ℕ → Given → Type 0) → Bool → List (List ℕ) → Sitting F → Sitting F → Type 0
AllRead saves gives is_terminal [] old new = new ≡ old
AllRead {F} saves gives is_terminal (bytes ∷ reads) old new = (now : Sitting F) × Reads saves gives is_terminal bytes old now × AllRead saves gives is_terminal reads now new

-- ---- the end

-- Something was read and answered, and the dialog ends.
pub record Finishes {F : Type 0} (saves : F → Option (List Save)) (gives : F → List ℕ → Given → Type 0) (is_terminal : Bool) (old : Sitting F) (left : Option (List ℕ)) (files : F) (text : List ℕ) : Type 0 where
  pub bytes : List ℕ
  pub read : IsRead bytes old.left left
  pub last : Moment F
  pub given : GivenLast saves gives is_terminal old.typed bytes (before_read old) last
  pub kept : files ≡ last.files
  pub told : text ≡ asked is_terminal old ++ last.told

-- Nothing more was read, or that failed: all that was told before is written.
pub record Waits {F : Type 0} (is_terminal : Bool) (now : Sitting F) (left : Option (List ℕ)) (files : F) (text : List ℕ) : Type 0 where
  pub unread : Keeps now.left left
  pub kept : files ≡ now.files
  pub told : text ≡ asked is_terminal now

-- Memory was refused to what was read: all that was told before is written.
pub record RunsShort {F : Type 0} (saves : F → Option (List Save)) (gives : F → List ℕ → Given → Type 0) (is_terminal : Bool) (now : Sitting F) (left : Option (List ℕ)) (files : F) (text : List ℕ) : Type 0 where
  pub bytes : List ℕ
  pub read : Consumes now.left left bytes
  pub starves : Starves saves gives now.typed bytes (before_read now) files
  pub told : text ≡ asked is_terminal now

-- How it ends: a line quits, or the input ends; a read fails; a write fails within what is told before a read, or at the end; or memory is
-- refused.
abbrev pub EndsAt : {F : Type 0} → (F → Option (List Save)) → (F → List ℕ → Given → Type 0) → Bool → Sitting F → Result (Unit {0}) PromptFault → Option (List ℕ) → F → List ℕ → Type 0
EndsAt saves gives is_terminal now (Ok _) left files text = Finishes saves gives is_terminal now left files text
EndsAt saves gives is_terminal now (Err ReadFault) left files text = Waits is_terminal now left files text
EndsAt saves gives is_terminal now (Err WriteFault) left files text =
    (n : ℕ) × (told : List ℕ) × (text ≡ take n told) × (Waits is_terminal now left files told ⊎ Finishes saves gives is_terminal now left files told)
EndsAt saves gives is_terminal now (Err OutOfMemory) left files text = RunsShort saves gives is_terminal now left files text

-- It ends so after some reads; or memory is refused before the first, and nothing was done.
abbrev pub Ends : {F : Type 0} → (F → Option (List Save)) → (F → List ℕ → Given → Type 0) → Bool → Sitting F → Result (Unit {0}) PromptFault → Option (List ℕ) → F → List ℕ → Type 0
Ends {F} saves gives is_terminal began result left files text =
    ((reads : List (List ℕ)) × (now : Sitting F) × AllRead saves gives is_terminal reads began now × EndsAt saves gives is_terminal now result left files text)
    ⊎ ((result ≡ Err OutOfMemory) × (left ≡ began.left) × (files ≡ began.files) × (text ≡ []))
