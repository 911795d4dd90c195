-- What a restart leaves of a page's book, as words: the owner, the sites that may have copies, the last transaction's number, what runs, and the
-- greatest request served of each site.
use Rattle.std.specs.Prelude.{◌≡◌, ℕ, zero, suc, ⊤, if◌then◌else◌, List, [], ◌∷◌, All, codes, length, map, Option, None, Some}
use Rattle.std.specs.Fmt.{decimal}
use Rattle.std.specs.List.{flat_map}
use Rattle.std.specs.Str.{bytes_eq}
use Rattle.shm_model.specs.Book.{Running}
use Rattle.shm_lines.specs.Words.{◌>>=◌, next_word, next_of, next_number, IsWide, wide_of}
use Rattle.shm_lines.specs.Spelling.{IsNumber}
use Rattle.shm_wire.specs.Words.{ended, kind_of, kind_word}
use Rattle.shm_state.specs.Part.{BookPart}
use Rattle.shm_state.specs.SetWord.{IsSet, set_of, set_word}

abbrev pub IsRunning : Option Running → Type 0
IsRunning None = ⊤
IsRunning (Some run) = IsNumber run.requester

abbrev pub IsServed : List ℕ → Type 0
IsServed served = (length served ≡ 16) × All IsWide served

abbrev pub IsBook : BookPart → Type 0
IsBook book = IsNumber book.owner × IsSet book.copies × IsWide book.number × IsRunning book.running × IsServed book.served

abbrev pub running_words : Option Running → List (List ℕ) → List (List ℕ)
running_words None words = codes "idle" ∷ words
running_words (Some run) words = kind_word run.kind ∷ decimal run.requester ∷ words

abbrev pub book_words : BookPart → List (List ℕ)
book_words book = decimal book.owner ∷ set_word book.copies ∷ decimal book.number ∷ running_words book.running (map decimal book.served)

-- numbers, with a blank before each
abbrev pub number_text : ℕ → List ℕ
number_text number = 32 ∷ decimal number

abbrev pub numbers_text : List ℕ → List ℕ
numbers_text numbers = flat_map number_text numbers

-- ---- how they are read

-- by the word for what is given, and the site to which it is
abbrev pub next_run : List ℕ → List (List ℕ) → Option (Option Running × List (List ℕ))
next_run word words = do
  kind ← kind_of word
  (requester, words) ← next_number words
  Some (Some (record { kind = kind; requester = requester }), words)

-- `idle`, or `read` or `write` and a site
abbrev pub next_running : List (List ℕ) → Option (Option Running × List (List ℕ))
next_running words = do
  (word, words) ← next_word words
  if bytes_eq word (codes "idle") then Some (None, words) else next_run word words

-- so many numbers
unfoldable pub next_numbers : ℕ → List (List ℕ) → Option (List ℕ × List (List ℕ))
next_numbers zero words = Some ([], words)
next_numbers (suc n) words = do
  (number, words) ← next_of wide_of words
  (numbers, words) ← next_numbers n words
  Some (number ∷ numbers, words)

-- one of each site
abbrev pub next_served : List (List ℕ) → Option (List ℕ × List (List ℕ))
next_served = next_numbers 16

abbrev pub book_of : List (List ℕ) → Option BookPart
book_of words = do
  (owner, words) ← next_number words
  (copies, words) ← next_of set_of words
  (number, words) ← next_of wide_of words
  (running, words) ← next_running words
  (served, words) ← next_served words
  ended (record { owner = owner; copies = copies; number = number; running = running; served = served }) words
