-- The lines of a state that a journal may begin with: the parts of the site's state; `state mapped AT SEG INDEX KIND` for each page that its
-- machine maps; and last `state clock CLOCK STEPS`, and the tag of the caller whose segment call is outstanding, if there is one. One spelling
-- for each.
use Rattle.std.specs.Prelude.{◌≤◌, ℕ, List, [], ◌∷◌, codes, IfSome, Option, Some, None, if◌then◌else◌, nat_lt, option_map}
use Rattle.std.specs.Fmt.{decimal}
use Rattle.std.specs.List.{join_with_byte}
use Rattle.shm_lines.specs.Spelling.{IsNumber}
use Rattle.shm_lines.specs.Words.{◌>>=◌, is_end, next_number, next_of, next_word, words_of, IsWide, wide_of}
use Rattle.shm_state.specs.Part.{Part}
use Rattle.shm_state.specs.PartWords.{IsPart, part_line, read_part}
use Rattle.shm_wire.specs.Messages.{IsPageId, next_page}
use Rattle.shm_wire.specs.Tag.{IsTag, tag_of}
use Rattle.shm_wire.specs.Words.{by_verb, ended, kind_of, kind_word, nothing}
use Rattle.shm_wire.specs.declared.mapping_text.Mapping.{Mapping}

-- the clock of the last step, how many steps were made, and the caller's tag
pub record Ending : Type 0 where
  pub clock : ℕ
  pub steps : ℕ
  pub caller : Option (List ℕ)

pub data StateLine : Type 0 where
  OfPart : Part → StateLine
  OfMapping : Mapping → StateLine
  OfEnding : Ending → StateLine

-- each step has a clock of its own
abbrev pub IsEnding : Ending → Type 0
IsEnding ending = IsWide ending.clock × (ending.steps ≤ ending.clock) × IfSome ending.caller IsTag

abbrev pub IsMapping : Mapping → Type 0
IsMapping m = IsNumber m.at × IsPageId m.page

abbrev pub IsStateLine : StateLine → Type 0
IsStateLine (OfPart part) = IsPart part
IsStateLine (OfMapping m) = IsMapping m
IsStateLine (OfEnding ending) = IsEnding ending

-- ---- their words

abbrev pub mapped_words : Mapping → List (List ℕ)
mapped_words m = codes "mapped" ∷ decimal m.at ∷ decimal m.page.seg ∷ decimal m.page.index ∷ kind_word m.kind ∷ []

abbrev pub caller_words : Option (List ℕ) → List (List ℕ)
caller_words None = []
caller_words (Some tag) = tag ∷ []

abbrev pub ending_words : Ending → List (List ℕ)
ending_words ending = codes "clock" ∷ decimal ending.clock ∷ decimal ending.steps ∷ caller_words ending.caller

abbrev pub state_line : StateLine → List ℕ
state_line (OfPart part) = part_line part
state_line (OfMapping m) = join_with_byte 32 (codes "state" ∷ mapped_words m)
state_line (OfEnding ending) = join_with_byte 32 (codes "state" ∷ ending_words ending)

-- ---- how they are read

-- `at seg index kind`
abbrev pub mapping_of : List (List ℕ) → Option StateLine
mapping_of words = do
  (at, words) ← next_number words
  (page, words) ← next_page words
  (kind, words) ← next_of kind_of words
  ended (OfMapping (record { at = at; page = page; kind = kind })) words

-- one tag or none, and no more
abbrev pub caller_after : List (List ℕ) → Option (Option (List ℕ))
caller_after [] = Some None
caller_after (word ∷ words) = if is_end words then option_map Some (tag_of word) else None

-- `clock steps`, and the caller's tag
abbrev pub ending_of : List (List ℕ) → Option StateLine
ending_of words = do
  (clock, words) ← next_of wide_of words
  (steps, words) ← next_of wide_of words
  caller ← caller_after words
  if nat_lt clock steps then None else Some (OfEnding (record { clock = clock; steps = steps; caller = caller }))

abbrev pub told_of : List (List ℕ) → Option StateLine
told_of words = do
  (verb, words) ← next_word words
  by_verb ((codes "mapped", mapping_of) ∷ (codes "clock", ending_of) ∷ []) nothing verb words

-- what is no part
abbrev pub read_further : List ℕ → Option StateLine
read_further line = do
  (verb, words) ← next_word (words_of line)
  by_verb ((codes "state", told_of) ∷ []) nothing verb words

abbrev pub or_further : List ℕ → Option Part → Option StateLine
or_further line (Some part) = Some (OfPart part)
or_further line None = read_further line

abbrev pub read_state : List ℕ → Option StateLine
read_state line = or_further line (read_part line)
