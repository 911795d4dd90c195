-- How far a journal's file is whole, by what was read of it.
use Rattle.std.specs.Prelude.{◌≡◌, ℕ, Bool, true, false, List, [], ◌∷◌, ◌++◌, Option, IfSome, length}
use Rattle.std.specs.Io.KnownBytes.{Consumes}
use Rattle.std.specs.Str.{bytes_eq}
use Rattle.shm_batches.specs.Chain.{begins_as_mark, chain_after, file_text, mark_line, unmarked}
use Rattle.shm_batches.specs.ChainOf.{chain_of}
use Rattle.shm_journal.specs.Found.{lines_of}
use Rattle.shm_journal.specs.LinesOf.{Unended}
use Rattle.shm_batches.specs.Section.{lines_in, open_in}
use Rattle.shm_batches.specs.Whole.{is_damaged, marked_in, whole_bytes, whole_chain, whole_on}
use Rattle.shm_batches.specs.declared.extent.Extent.{Extent}
use Rattle.shm_batches.specs.declared.front.Front.{Front}
use Rattle.shm_batches.specs.declared.front.Next.{Next}
use Rattle.shm_batches.specs.declared.front.Next.TheVariants.{Broken, Ended, GoesOn}
use Rattle.shm_batches.specs.declared.section.Section.{Section}

-- of this file
pub record IsExtent (file : List ℕ) (extent : Extent) : Type 0 where
  pub chain : chain_of extent.chain ≡ whole_chain file
  pub bytes : extent.bytes ≡ whole_bytes file
  pub damaged : extent.is_damaged ≡ is_damaged file

-- there is a file of which the extent says so: what was left to be read, where the reader tells its bytes
abbrev pub IsExtentKnown : Option (List ℕ) → Extent → Type 0
IsExtentKnown remaining extent = (file : List ℕ) × IfSome remaining (λ known. file ≡ known) × IsExtent file extent

-- ---- what was read so far

-- whether a mark is whole by itself, of bytes behind these lines
abbrev pub marked_on : List ℕ → List ℕ → Bool
marked_on text bytes = marked_in text (lines_of bytes).whole

-- Whole batches and the section behind them were taken. Whatever follows, the file's whole batches are those, and those that the section goes on
-- to; and no mark of the section is whole by itself.
pub record Measured {A : Type 0} (front : Front A) (before left : Option (List ℕ)) : Type 0 where
  pub texts : List (List ℕ)
  pub taken : Consumes before left (file_text unmarked texts ++ front.section.text.items)
  pub chain : chain_of front.chain ≡ chain_after unmarked texts
  pub bytes : front.bytes ≡ length (file_text unmarked texts)
  pub onward : (more : List ℕ) → whole_on unmarked [] (file_text unmarked texts ++ (front.section.text.items ++ more))
      ≡ texts ++ whole_on (chain_after unmarked texts) (lines_in front.section) (open_in front.section ++ more)
  pub quiet : (more : List ℕ) → marked_on [] (front.section.text.items ++ more) ≡ marked_on (lines_in front.section) (open_in front.section ++ more)

-- there is no more
abbrev pub extent_of : {A : Type 0} → Front A → Bool → Extent
extent_of front damaged = record { chain = front.chain; bytes = front.bytes; is_damaged = damaged }

-- the line behind the section's lines begins as a mark, and isn't the next one
pub record Breaks {A : Type 0} (front : Front A) (before left : Option (List ℕ)) : Type 0 where
  pub measured : Measured front before left
  pub line : List ℕ
  pub unended : Unended line
  pub here : open_in front.section ≡ line ++ 10 ∷ []
  pub mark : begins_as_mark line ≡ true
  pub other : bytes_eq line (mark_line (chain_of front.chain) (lines_in front.section)) ≡ false

-- it begins as a mark
pub record Marks {A : Type 0} (front : Front A) (before left : Option (List ℕ)) : Type 0 where
  pub measured : Measured front before left
  pub line : List ℕ
  pub unended : Unended line
  pub here : open_in front.section ≡ line ++ 10 ∷ []
  pub mark : begins_as_mark line ≡ true

abbrev pub MeasuredNext : {A : Type 0} → Next → Front A → Option (List ℕ) → Option (List ℕ) → Type 0
MeasuredNext GoesOn front before left = Measured front before left × Unended (open_in front.section)
MeasuredNext Ended front before left = IsExtentKnown before (extent_of front false)
MeasuredNext Broken front before left = Breaks front before left

-- ---- a mark that is whole by itself

-- bytes were taken; whatever follows, a mark among them all is whole by itself where one is that the section goes on to
pub record Seeks {A : Type 0} (section : Section A) (before left : Option (List ℕ)) : Type 0 where
  pub bytes : List ℕ
  pub taken : Consumes before left bytes
  pub onward : (more : List ℕ) → marked_on [] (bytes ++ more) ≡ marked_on (lines_in section) (open_in section ++ more)
  pub unended : Unended (open_in section)

-- so it is of what was left to be read, where the reader tells its bytes
abbrev pub IsFound : Option (List ℕ) → Bool → Type 0
IsFound before found = (rest : List ℕ) × IfSome before (λ known. rest ≡ known) × (found ≡ marked_on [] rest)

abbrev pub SeeksNext : {A : Type 0} → Next → Section A → Option (List ℕ) → Option (List ℕ) → Type 0
SeeksNext GoesOn section before left = Seeks section before left
SeeksNext Ended section before left = IsFound before false
SeeksNext Broken section before left = IsFound before true
