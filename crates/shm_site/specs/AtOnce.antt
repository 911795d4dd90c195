-- What an access does at once, by its answer.
use Rattle.std.specs.Prelude.{ℕ, Bool, true, false, Option, None, Some}
use Rattle.shm_model.specs.declared.answer.Answer.{Answer}
use Rattle.shm_model.specs.declared.answer.Answer.TheVariants.{Byte, Stored, Waiting}

-- the byte that a load gave
abbrev pub byte_given : Answer → Option ℕ
byte_given (Byte byte) = Some byte
byte_given answer = None

-- a store was made
abbrev pub is_stored : Answer → Bool
is_stored Stored = true
is_stored answer = false

-- it waits for a right that was asked for before
abbrev pub waits : Answer → Bool
waits Waiting = true
waits answer = false
