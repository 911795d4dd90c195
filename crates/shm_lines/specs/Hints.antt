-- What is shown of a line that can't be read on: the part of it round that place, a caret under the first byte that doesn't fit, and what could stand
-- there. No terminal takes any of it for a command: bytes that aren't printable ASCII are shown as question marks.
use Rattle.std.specs.Prelude.{ℕ, ◌+◌, ◌-◌, ◌&&◌, Bool, true, false, List, [], ◌∷◌, ◌++◌, codes, if◌then◌else◌, length, map, min, nat_le, nat_lt, None, Option, replicate, slice_range, Some}
use Rattle.std.specs.Fmt.{decimal}
use Rattle.shm_lines.specs.declared.hints.hint.Hint.{Hint}
use Rattle.shm_lines.specs.declared.hints.expected_word.Expected.{Expected}
use Rattle.shm_lines.specs.declared.hints.expected_word.Expected.TheVariants as expected
use Rattle.shm_lines.specs.declared.hints.expected_word.Word.{Word}
use Rattle.shm_lines.specs.declared.hints.expected_word.Word.TheVariants as word

-- ---- what could stand there

-- up to its limit, if it has one
abbrev pub word_front : Word → List ℕ
word_front word.Verb = codes "a verb, such as load, store, deliver, tick or show"
word_front word.Site = codes "a site's number: digits, with no zero before others"
word_front word.Attachment = codes "an attachment's number: digits, with no zero before others"
word_front word.Offset = codes "an offset: digits, with no zero before others"
word_front word.Byte = codes "a byte: a number from 0 to 255"
word_front word.Envelope = codes "an envelope's number: digits, with no zero before others"
word_front word.User = codes "a user's number: digits, with no zero before others"
word_front word.Group = codes "a group's number: digits, with no zero before others"
word_front word.Key = codes "a key: digits, with no zero before others"
word_front word.Size = codes "a size in bytes: digits, with no zero before others"
word_front word.Mode = codes "a mode: three octal digits"
word_front word.Flags = codes "flags: c, x, cx or -"
word_front word.Access = codes "ro or rw"
word_front word.Segment = codes "a segment's number: digits, with no zero before others"
word_front word.Index = codes "a page's index: digits, with no zero before others"
word_front word.Events = codes "how many events: digits, with no zero before others"
word_front word.Sites = codes "how many sites: a number from 1 to 16"
word_front word.Preset = codes "the word preset"
word_front word.Pages = codes "how many pages: a number from 1 to 256"
word_front word.Frames = codes "the word frames"
word_front word.Limit = codes "how many frames: a number from 1 to 65536"
word_front word.AccessVerb = codes "load or store"
word_front (word.SiteBelow limit) = codes "a site's number below "
word_front (word.OffsetBelow limit) = codes "an offset below "

-- what it is below
abbrev pub limit_of : Word → Option ℕ
limit_of (word.SiteBelow limit) = Some limit
limit_of (word.OffsetBelow limit) = Some limit
limit_of _ = None

abbrev pub limit_text : Option ℕ → List ℕ
limit_text None = []
limit_text (Some limit) = decimal limit

abbrev pub word_text : Word → List ℕ
word_text word = word_front word ++ limit_text (limit_of word)

abbrev pub expected_text : Expected → List ℕ
expected_text (expected.Word word) = word_text word
expected_text (expected.After word) = codes "one blank, and " ++ word_text word
expected_text expected.End = codes "the end of the line"

-- ---- the line

-- a question mark for what isn't printable ASCII
abbrev pub shown_byte : ℕ → ℕ
shown_byte byte = if nat_le 32 byte && nat_le byte 126 then byte else 63

abbrev pub dots : Bool → List ℕ
dots true = codes ".."
dots false = []

-- so many bytes of the line are shown at most before the place, and from there on
abbrev pub most_before : ℕ
most_before = 72

abbrev pub most_behind : ℕ
most_behind = 40

-- where what is shown begins, and ends, of so many bytes
abbrev pub shown_from : ℕ → ℕ
shown_from place = place - most_before

abbrev pub shown_to : ℕ → ℕ → ℕ
shown_to place bytes = min (place + most_behind) bytes

-- dots stand for what is left out
abbrev pub part_text : List ℕ → ℕ → List ℕ
part_text line place =
    dots (nat_lt 0 (shown_from place))
    ++ (map shown_byte (slice_range line (shown_from place) (shown_to place (length line))) ++ dots (nat_lt (shown_to place (length line)) (length line)))

-- blanks up to the caret
abbrev pub blanks_at : ℕ → ℕ
blanks_at place = (place - shown_from place) + length (dots (nat_lt 0 (shown_from place)))

abbrev pub hint_at : List ℕ → ℕ → Expected → List ℕ
hint_at line place could =
    part_text line place ++ 10 ∷ (replicate (blanks_at place) 32 ++ (codes "^ " ++ (expected_text could ++ 10 ∷ [])))

abbrev pub hint_text : List ℕ → Hint → List ℕ
hint_text line hint = hint_at line (min hint.at (length line)) hint.expected
