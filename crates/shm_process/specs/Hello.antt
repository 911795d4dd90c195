-- How a site was begun, and what it says of it to each other site when its process starts: `env FROM TO 0 0 0 hello SITES PAGES`, which stands
-- in the stream as an envelope does, but is none. One spelling for each. A site that was begun with other numbers of sites and pages is in
-- another cluster.
use Rattle.std.specs.Prelude.{ℕ, zero, suc, ◌+◌, Bool, not, ◌&&◌, ◌||◌, ◌==◌, List, [], ◌∷◌, ◌++◌, codes, nat_lt, Option, None, Some, if◌then◌else◌, is_some, option_and_then}
use Rattle.std.specs.Fmt.{decimal}
use Rattle.std.specs.List.{join_with_byte}
use Rattle.std.specs.Str.{bytes_eq}
use Rattle.shm_lines.specs.Words.{◌>>=◌, IsNumber, ended, next_number, next_word, words_of}
use Rattle.shm_seal.specs.Seal.{Seal, sealed}
use Rattle.shm_process.specs.declared.hello_line.Hello.{Hello}
use Rattle.shm_process.specs.declared.site_opening.Opening.{Opening}
use Rattle.shm_process.specs.declared.site_opening.Disagreement.{Disagreement}

abbrev pub IsHello : Hello → Type 0
IsHello hello = IsNumber hello.from × IsNumber hello.to × IsNumber hello.sites × IsNumber hello.pages

abbrev pub hello_words : Hello → List (List ℕ)
hello_words hello =
    codes "env" ∷ decimal hello.from ∷ decimal hello.to ∷ codes "0" ∷ codes "0" ∷ codes "0"
    ∷ codes "hello" ∷ decimal hello.sites ∷ decimal hello.pages ∷ []

abbrev pub hello_text : Hello → List ℕ
hello_text hello = join_with_byte 32 (hello_words hello)

-- ---- how it is read

-- the words behind this one
abbrev pub past : List ℕ → List (List ℕ) → Option (List (List ℕ))
past name words = do
  (word, words) ← next_word words
  if bytes_eq word name then Some words else None

-- `0 0 0 hello`
abbrev pub past_stamp : List (List ℕ) → Option (List (List ℕ))
past_stamp words = do
  words ← past (codes "0") words
  words ← past (codes "0") words
  words ← past (codes "0") words
  past (codes "hello") words

-- `sites pages`, and no more
abbrev pub numbers_of : ℕ → ℕ → List (List ℕ) → Option Hello
numbers_of from to words = do
  (sites, words) ← next_number words
  (pages, words) ← next_number words
  ended (record { from = from; to = to; sites = sites; pages = pages }) words

abbrev pub hello_of_words : List (List ℕ) → Option Hello
hello_of_words words = do
  words ← past (codes "env") words
  (from, words) ← next_number words
  (to, words) ← next_number words
  words ← past_stamp words
  numbers_of from to words

abbrev pub read_hello : List ℕ → Option Hello
read_hello line = hello_of_words (words_of line)

-- ---- what a site says

-- of a site that was begun so, to this one
abbrev pub hello_to : Opening → ℕ → Hello
hello_to own to = record { from = own.site; to = to; sites = own.sites; pages = own.pages }

-- a hello on a line of its own, sealed
unfoldable pub hello_line : Seal → Hello → List ℕ
hello_line seal hello = sealed seal (hello_text hello) ++ 10 ∷ []

-- to that site, unless it is this one
abbrev pub hello_for : Seal → Opening → ℕ → List ℕ
hello_for seal own to = if to == own.site then [] else hello_line seal (hello_to own to)

-- to so many sites, from that one on
unfoldable pub hellos_from : Seal → Opening → ℕ → ℕ → List ℕ
hellos_from seal own to zero = []
hellos_from seal own to (suc n) = hello_for seal own to ++ hellos_from seal own (to + 1) n

-- to all the others of its cluster
abbrev pub greeting : Seal → Opening → List ℕ
greeting seal own = hellos_from seal own 0 own.sites

-- ---- where two don't agree

-- it is for this site, from one that was begun with other numbers, or that this one's cluster doesn't have
abbrev pub is_other : Opening → Hello → Bool
is_other own hello =
    (hello.to == own.site) && (not (hello.sites == own.sites) || (not (hello.pages == own.pages) || not (nat_lt hello.from own.sites)))

abbrev pub opening_in : Hello → Opening
opening_in hello = record { site = hello.from; sites = hello.sites; pages = hello.pages }

abbrev pub compared : Opening → Hello → Option Disagreement
compared own hello = if is_other own hello then Some (record { own = own; other = opening_in hello }) else None

-- at a site that says how it was begun; one that was noted before is the only one
abbrev pub first_other : Option Opening → Option Opening → Option Hello → Option Disagreement
first_other own other read =
    if is_some other then None else option_and_then (λ o. option_and_then (compared o) read) own

abbrev pub disagreement_text : Disagreement → List ℕ
disagreement_text d =
    codes "site " ++ (decimal d.other.site ++ (codes " was begun with --sites " ++ (decimal d.other.sites ++ (codes " --preset " ++ (decimal d.other.pages
    ++ (codes ", this one with --sites " ++ (decimal d.own.sites ++ (codes " --preset " ++ decimal d.own.pages))))))))
