-- Bytes that are read a line at a time.
use Rattle.std.specs.Prelude.{◌≡◌, ℕ, ◌==◌, ◌++◌, Bool, false, List, Option, drop, length, nat_lt, not, take}
use Rattle.std.specs.List.{All}
use Rattle.std.specs.Io.KnownBytes.{prepend_known}
use Rattle.shm_journal.specs.declared.line_reader.Lines.{Lines}

-- all bytes that were read are taken
abbrev pub is_used_up : {A : Type 0} → Lines A → Bool
is_used_up lines = not (nat_lt lines.at (length lines.bytes.items))

-- the bytes that were read and aren't taken yet
abbrev pub behind : {A : Type 0} → Lines A → List ℕ
behind lines = drop lines.at lines.bytes.items

-- the bytes that are left to take: those, and then what the reader has, where that is known
abbrev pub left_of : {A : Type 0} → Lines A → Option (List ℕ) → Option (List ℕ)
left_of lines remaining = prepend_known (behind lines) remaining

-- the line that was taken last: what was copied of it, or where it lies among what was read
abbrev pub line_in : {A : Type 0} → Lines A → List ℕ
line_in lines = lines.front.items ++ take lines.len (drop lines.from lines.bytes.items)

-- there is no line feed
abbrev pub Unended : List ℕ → Type 0
Unended line = All (λ byte. (byte == 10) ≡ false) line
