-- The words of a line, which one blank parts, and what single words stand for. A number is decimal, with no sign and no leading zero; a
-- mode has exactly three octal digits.
use Rattle.std.specs.Prelude.{◌≡◌, ℕ, ◌+◌, ◌%◌, ◌^◌, ◌<◌, ◌==◌, ◌&&◌, Bool, true, false, not, if◌then◌else◌, List, [], ◌∷◌, length, codes, slice_index, nat_lt, Option, None, Some, option_and_then}
use Rattle.std.specs.List.{slice_split, list_all}
use Rattle.std.specs.Char.{is_ascii_digit, is_digit}
use Rattle.std.specs.Str.{bytes_eq}
use Rattle.std.specs.Str.Parse.{digits_value}
use Rattle.shm_model.specs.declared.call.Cred.{Cred}
use Rattle.shm_model.specs.declared.mode_and_get_flags.GetFlags.{GetFlags}

infixl 20 ◌>>=◌
abbrev pub ◌>>=◌ : {A B : Type 0} → Option A → (A → Option B) → Option B
o >>= f = option_and_then f o

abbrev pub words_of : List ℕ → List (List ℕ)
words_of line = slice_split (λ byte. byte == 32) line

abbrev pub is_end : List (List ℕ) → Bool
is_end [] = true
is_end (word ∷ words) = false

-- ---- what a word stands for

-- digits, of which the first isn't a 0 before others
abbrev pub is_plain : List ℕ → Bool
is_plain word = nat_lt 0 (length word) && not (nat_lt 1 (length word) && (slice_index word 0 == 48)) && list_all is_ascii_digit word

abbrev pub number_below : ℕ → List ℕ → Option ℕ
number_below most word = if is_plain word then (if nat_lt (digits_value 10 word) most then Some (digits_value 10 word) else None) else None

abbrev pub number_of : List ℕ → Option ℕ
number_of = number_below (2 ^ 32)

abbrev pub IsNumber : ℕ → Type 0
IsNumber n = n < 2 ^ 32

-- the numbers of transactions and calls, and clocks
abbrev pub IsWide : ℕ → Type 0
IsWide n = n < 2 ^ 64

abbrev pub wide_of : List ℕ → Option ℕ
wide_of = number_below (2 ^ 64)

abbrev pub byte_of : List ℕ → Option ℕ
byte_of word = do
  n ← number_of word
  if nat_lt n 256 then Some n else None

abbrev pub mode_of : List ℕ → Option ℕ
mode_of word = if (length word == 3) && list_all (λ byte. is_digit byte 8) word then Some (digits_value 8 word) else None

-- c is IPC_CREAT, octal 1000, and x is IPC_EXCL, octal 2000
abbrev pub flags_of : List ℕ → Option GetFlags
flags_of word =
    if bytes_eq word (codes "-") then Some (record { 0 = 0 })
    else if bytes_eq word (codes "c") then Some (record { 0 = 512 })
    else if bytes_eq word (codes "x") then Some (record { 0 = 1024 })
    else if bytes_eq word (codes "cx") then Some (record { 0 = 1536 })
    else None

-- whether an attachment is to be read-only
abbrev pub access_of : List ℕ → Option Bool
access_of word =
    if bytes_eq word (codes "ro") then Some true
    else if bytes_eq word (codes "rw") then Some false
    else None

-- ---- which values have words, and the words

abbrev pub IsCred : Cred → Type 0
IsCred cred = IsNumber cred.uid × IsNumber cred.gid

-- nine bits
abbrev pub IsMode : ℕ → Type 0
IsMode mode = mode < 512

-- no bit but those of IPC_CREAT and IPC_EXCL
abbrev pub IsFlags : GetFlags → Type 0
IsFlags flags = (flags.0 % 512 ≡ 0) × (flags.0 < 2048)

abbrev pub flags_word : GetFlags → List ℕ
flags_word flags =
    if flags.0 == 0 then codes "-" else if flags.0 == 512 then codes "c" else if flags.0 == 1024 then codes "x" else codes "cx"

abbrev pub access_word : Bool → List ℕ
access_word ro = if ro then codes "ro" else codes "rw"

-- ---- what the first words stand for, and the others

abbrev pub next_word : List (List ℕ) → Option (List ℕ × List (List ℕ))
next_word [] = None
next_word (word ∷ words) = Some (word, words)

abbrev pub next_of : {A : Type 0} → (List ℕ → Option A) → List (List ℕ) → Option (A × List (List ℕ))
next_of read words = do
  (word, others) ← next_word words
  x ← read word
  Some (x, others)

abbrev pub next_number : List (List ℕ) → Option (ℕ × List (List ℕ))
next_number = next_of number_of

-- a user, and its group
abbrev pub next_cred : List (List ℕ) → Option (Cred × List (List ℕ))
next_cred words = do
  (uid, words) ← next_number words
  (gid, words) ← next_number words
  Some (record { uid = uid; gid = gid }, words)

abbrev pub is_from_1_to : ℕ → ℕ → Bool
is_from_1_to most n = nat_lt 0 n && nat_lt n (most + 1)

-- this word, and a number from 1
abbrev pub next_named : List ℕ → ℕ → List (List ℕ) → Option (ℕ × List (List ℕ))
next_named name most words = do
  (word, words) ← next_word words
  (n, words) ← next_number words
  if bytes_eq word name && is_from_1_to most n then Some (n, words) else None

-- ---- several words

-- what was read, if no word is left
abbrev pub ended : {A : Type 0} → A → List (List ℕ) → Option A
ended x words = if is_end words then Some x else None

-- names, and what the words after each say
abbrev pub Verbs : Type 0 → Type 0
Verbs A = List (List ℕ × (List (List ℕ) → Option A))

-- by the first word; what no name is of, the other reader has
abbrev pub by_verb : {A : Type 0} → Verbs A → (List ℕ → List (List ℕ) → Option A) → List ℕ → List (List ℕ) → Option A
by_verb [] other word words = other word words
by_verb ((verb, says) ∷ rest) other word words = if bytes_eq word verb then says words else by_verb rest other word words

abbrev pub nothing : {A : Type 0} → List ℕ → List (List ℕ) → Option A
nothing word words = None
