-- A block that is stored: so many stores of bytes one after another, each a step of its own. It is answered once: when the last of them is
-- made, or one is refused.
use Rattle.std.specs.Prelude.{ℕ, ◌+◌, Bool, List, length, nat_lt, slice_index}
use Rattle.shm_model.specs.declared.answer.Answer.{Answer}
use Rattle.shm_model.specs.declared.answer.Answer.TheVariants.{Stored}
use Rattle.shm_model.specs.declared.asked_access.Asked.{Asked}
use Rattle.shm_model.specs.declared.asked_access.Asked.TheVariants.{Store}
use Rattle.shm_process.specs.Access.{is_open}

-- the tag of the caller, through which attachment and from which offset on these bytes are stored, and how many of them were
pub record Write : Type 0 where
  pub tag : List ℕ
  pub at : ℕ
  pub offset : ℕ
  pub bytes : List ℕ
  pub stored : ℕ

-- its next store: of the first byte that isn't stored
abbrev pub next_store : Write → Asked
next_store write = Store write.at (write.offset + write.stored) (slice_index write.bytes write.stored)

-- ---- what becomes of it when a store is answered

-- it goes on until its last byte is stored, or a store is refused
abbrev pub goes_on : Write → Answer → Bool
goes_on write Stored = nat_lt (write.stored + 1) (length write.bytes)
goes_on write answer = is_open answer

-- how many are stored then
abbrev pub stored_after : Write → Answer → ℕ
stored_after write Stored = write.stored + 1
stored_after write answer = write.stored
