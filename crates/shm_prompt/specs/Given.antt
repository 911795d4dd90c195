-- What a file gives that is read.
use Rattle.std.specs.Prelude.{⊤, ℕ, List}
use Rattle.shm_prompt.specs.declared.read_refusal.ReadRefusal.{ReadRefusal}
use Rattle.shm_prompt.specs.declared.read_refusal.ReadRefusal.TheVariants as refusal

-- all its bytes; or it has more than any script, or can't be read
pub data Given : Type 0 where
  Bytes : List ℕ → Given
  TooLong : Given
  Unread : Given

-- Memory that is refused says nothing of the file.
abbrev pub GivesRefusal : (Given → Type 0) → ReadRefusal → Type 0
GivesRefusal gives refusal.OutOfMemory = ⊤
GivesRefusal gives refusal.TooLong = gives TooLong
GivesRefusal gives refusal.Unread = gives Unread
