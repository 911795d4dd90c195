-- What was read since the last mark: whole lines, and behind them a line, or the front of one.
use Rattle.std.specs.Prelude.{◌≡◌, ℕ, true, false, List, [], ◌∷◌, ◌++◌, Option, drop, take}
use Rattle.std.specs.Io.KnownBytes.{Consumes, IsAtEnd}
use Rattle.shm_journal.specs.LinesOf.{Unended}
use Rattle.shm_batches.specs.Chain.{begins_as_mark}
use Rattle.shm_batches.specs.declared.section.Section.{Section}
use Rattle.shm_batches.specs.declared.section.Read.{Read}
use Rattle.shm_batches.specs.declared.section.Read.TheVariants.{End, Line, Mark, Part}

abbrev pub lines_in : {A : Type 0} → Section A → List ℕ
lines_in section = take section.at section.text.items

abbrev pub open_in : {A : Type 0} → Section A → List ℕ
open_in section = drop section.at section.text.items

-- the line has an end now
pub record ReadsLine {A : Type 0} (old new : Section A) (r s : Option (List ℕ)) : Type 0 where
  pub bytes : List ℕ
  pub taken : Consumes r s bytes
  pub line : List ℕ
  pub unended : Unended line
  pub whole : open_in old ++ bytes ≡ line ++ 10 ∷ []
  pub plain : begins_as_mark line ≡ false
  pub lines : lines_in new ≡ lines_in old ++ (line ++ 10 ∷ [])
  pub none : open_in new ≡ []

pub record ReadsMark {A : Type 0} (old new : Section A) (r s : Option (List ℕ)) : Type 0 where
  pub bytes : List ℕ
  pub taken : Consumes r s bytes
  pub line : List ℕ
  pub unended : Unended line
  pub whole : open_in old ++ bytes ≡ line ++ 10 ∷ []
  pub mark : begins_as_mark line ≡ true
  pub lines : lines_in new ≡ lines_in old
  pub here : open_in new ≡ line ++ 10 ∷ []

-- it goes on
pub record ReadsPart {A : Type 0} (old new : Section A) (r s : Option (List ℕ)) : Type 0 where
  pub bytes : List ℕ
  pub taken : Consumes r s bytes
  pub lines : lines_in new ≡ lines_in old
  pub more : open_in new ≡ open_in old ++ bytes
  pub unended : Unended (open_in new)

pub record ReadsEnd {A : Type 0} (old new : Section A) (r : Option (List ℕ)) : Type 0 where
  pub end : IsAtEnd r
  pub same : new.text.items ≡ old.text.items
  pub at : new.at ≡ old.at

abbrev pub ReadsOn : {A : Type 0} → Read → Section A → Section A → Option (List ℕ) → Option (List ℕ) → Type 0
ReadsOn Part old new r s = ReadsPart old new r s
ReadsOn Line old new r s = ReadsLine old new r s
ReadsOn Mark old new r s = ReadsMark old new r s
ReadsOn End old new r s = ReadsEnd old new r
