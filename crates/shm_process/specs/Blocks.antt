-- A block that is loaded: so many loads of bytes one after another, each a step of its own. It is answered once: when the last of them is made, or one
-- is refused.
use Rattle.std.specs.Prelude.{ℕ, ◌+◌, Bool, List, [], ◌∷◌, ◌++◌, Option, Some, None, if◌then◌else◌, length, nat_lt}
use Rattle.shm_model.specs.declared.answer.Answer.{Answer}
use Rattle.shm_model.specs.declared.answer.Answer.TheVariants.{Byte}
use Rattle.shm_model.specs.declared.asked_access.Asked.{Asked}
use Rattle.shm_model.specs.declared.asked_access.Asked.TheVariants.{Load}
use Rattle.shm_process.specs.Access.{is_open}

-- the tag of the caller, through which attachment and from which offset on so many bytes are loaded, and those that were
pub record Block : Type 0 where
  pub tag : List ℕ
  pub at : ℕ
  pub offset : ℕ
  pub count : ℕ
  pub bytes : List ℕ

-- its next load: of the first byte that isn't here
abbrev pub next_load : Block → Asked
next_load block = Load block.at (block.offset + length block.bytes)

-- ---- what becomes of it when a load is answered

-- a block goes on until its last byte is loaded, or a load is refused
abbrev pub goes_on : Block → Answer → Bool
goes_on block (Byte byte) = nat_lt (length block.bytes + 1) block.count
goes_on block answer = is_open answer

-- what is loaded of it then
abbrev pub bytes_after : Block → Answer → List ℕ
bytes_after block (Byte byte) = block.bytes ++ byte ∷ []
bytes_after block answer = block.bytes

-- all its bytes, if this answer gives the last
abbrev pub whole_after : Block → Answer → Option (List ℕ)
whole_after block (Byte byte) = if goes_on block (Byte byte) then None else Some (bytes_after block (Byte byte))
whole_after block answer = None
