-- What each line says: first its verb, then what the verb wants, and nothing more.
use Rattle.std.specs.Prelude.{ℕ, ◌==◌, Bool, true, false, not, if◌then◌else◌, List, [], ◌∷◌, codes, Option, None, Some}
use Rattle.shm_place.specs.Limits.{max_frames, pages}
use Rattle.shm_model.specs.declared.event.Event.TheVariants.{Load, Store, Begin, Tick, Restart, Deliver, Repeat, Lose}
use Rattle.shm_model.specs.Book.{max_sites}
use Rattle.shm_lines.specs.Calls.{request_of}
use Rattle.shm_lines.specs.Words.{◌>>=◌, words_of, byte_of, next_word, next_of, next_number, next_named, is_from_1_to, is_end, Verbs, by_verb, ended}
use Rattle.shm_lines.specs.declared.script_line.Line.{Line}
use Rattle.shm_lines.specs.declared.script_line.Line.TheVariants.{Sites, Event, Show, Back}

-- ---- the first line: `sites N`, `sites N preset P`, `sites N preset P frames F`

abbrev pub sites_line : ℕ → Option ℕ → Option ℕ → Line
sites_line count preset frames = Sites (record { sites = count; preset = preset; frames = frames })

abbrev pub frames_of : ℕ → ℕ → List (List ℕ) → Option Line
frames_of count size words = do
  (frames, words) ← next_named (codes "frames") max_frames words
  ended (sites_line count (Some size) (Some frames)) words

abbrev pub preset_of : ℕ → List (List ℕ) → Option Line
preset_of count words = do
  (size, words) ← next_named (codes "preset") pages words
  if is_end words then Some (sites_line count (Some size) None) else frames_of count size words

abbrev pub sites_of : List (List ℕ) → Option Line
sites_of words = do
  (count, words) ← next_number words
  if not (is_from_1_to max_sites count) then None
      else if is_end words then Some (sites_line count None None)
      else preset_of count words

-- ---- accesses: `load site attachment offset`, `store site attachment offset byte`

abbrev pub load_of : List (List ℕ) → Option Line
load_of words = do
  (site, words) ← next_number words
  (at, words) ← next_number words
  (offset, words) ← next_number words
  ended (Event (Load site at offset)) words

abbrev pub store_of : List (List ℕ) → Option Line
store_of words = do
  (site, words) ← next_number words
  (at, words) ← next_number words
  (offset, words) ← next_number words
  (byte, words) ← next_of byte_of words
  ended (Event (Store site at offset byte)) words

-- ---- envelopes and sites: `deliver k`, `repeat k`, `lose k`, `tick site`, `restart site`

abbrev pub deliver_of : List (List ℕ) → Option Line
deliver_of words = do
  (k, words) ← next_number words
  ended (Event (Deliver k)) words

abbrev pub repeat_of : List (List ℕ) → Option Line
repeat_of words = do
  (k, words) ← next_number words
  ended (Event (Repeat k)) words

abbrev pub lose_of : List (List ℕ) → Option Line
lose_of words = do
  (k, words) ← next_number words
  ended (Event (Lose k)) words

abbrev pub tick_of : List (List ℕ) → Option Line
tick_of words = do
  (site, words) ← next_number words
  ended (Event (Tick site)) words

abbrev pub restart_of : List (List ℕ) → Option Line
restart_of words = do
  (site, words) ← next_number words
  ended (Event (Restart site)) words

-- ---- no events: `show segment index`, `back n`

abbrev pub show_of : List (List ℕ) → Option Line
show_of words = do
  (seg, words) ← next_number words
  (index, words) ← next_number words
  ended (Show (record { seg = seg; index = index })) words

abbrev pub back_of : List (List ℕ) → Option Line
back_of words = do
  (n, words) ← next_number words
  ended (Back n) words

-- ---- segment calls: `VERB site`, and the words of the call

abbrev pub call_of : List ℕ → List (List ℕ) → Option Line
call_of verb words = do
  (site, words) ← next_number words
  request ← request_of verb words
  Some (Event (Begin site request))

-- ---- by the verb

abbrev pub others : Verbs Line
others =
    (codes "tick", tick_of) ∷ (codes "restart", restart_of) ∷ (codes "show", show_of) ∷ (codes "back", back_of)
    ∷ (codes "sites", sites_of) ∷ []

-- a call is none of these
abbrev pub verbs : Verbs Line
verbs =
    (codes "load", load_of) ∷ (codes "store", store_of)
    ∷ (codes "deliver", deliver_of) ∷ (codes "repeat", repeat_of) ∷ (codes "lose", lose_of) ∷ others

abbrev pub line_of_words : List (List ℕ) → Option Line
line_of_words words = do
  (verb, words) ← next_word words
  by_verb verbs call_of verb words

abbrev pub line_of : List ℕ → Option Line
line_of bytes = line_of_words (words_of bytes)

-- ---- where a line stands

abbrev pub is_first : Line → Bool
is_first (Sites opening) = true
is_first _ = false

-- what happens at a site or on the network; `show` and `back` don't count
abbrev pub is_event : Line → Bool
is_event (Event event) = true
is_event _ = false

-- a script begins with a `sites` line, and has no other
abbrev pub may_stand : ℕ → Line → Bool
may_stand number line = if number == 1 then is_first line else not (is_first line)
