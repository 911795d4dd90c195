-- Asks that wait: an access, and a block that is loaded or stored; the access that each makes next, and what becomes of them when it is answered.
use Rattle.std.specs.Prelude.{ℕ, Bool, List, [], Option, None, if◌then◌else◌, remove, slice_index_or, slice_set}
use Rattle.shm_model.specs.declared.answer.Answer.{Answer}
use Rattle.shm_model.specs.declared.asked_access.Asked.{Asked}
use Rattle.shm_model.specs.declared.asked_access.Asked.TheVariants.{Load}
use Rattle.shm_process.specs.Access.{is_open}
use Rattle.shm_process.specs.Blocks.{Block, bytes_after, next_load, whole_after}
use Rattle.shm_process.specs.Blocks.{goes_on as block_goes_on}
use Rattle.shm_process.specs.Writes.{Write, next_store, stored_after}
use Rattle.shm_process.specs.Writes.{goes_on as write_goes_on}

-- an access stands under its caller's tag
pub data WaitingAsk : Type 0 where
  Access : List ℕ → Asked → WaitingAsk
  Reads : Block → WaitingAsk
  Writes : Write → WaitingAsk

abbrev pub tag_of : WaitingAsk → List ℕ
tag_of (Access tag asked) = tag
tag_of (Reads block) = block.tag
tag_of (Writes write) = write.tag

-- the access that makes an ask's next step
abbrev pub next_access : WaitingAsk → Asked
next_access (Access tag asked) = asked
next_access (Reads block) = next_load block
next_access (Writes write) = next_store write

-- ---- what becomes of an ask when its step is answered

-- it isn't answered yet: a block until its last byte is loaded or stored, or one is refused
abbrev pub goes_on : WaitingAsk → Answer → Bool
goes_on (Access tag asked) answer = is_open answer
goes_on (Reads block) answer = block_goes_on block answer
goes_on (Writes write) answer = write_goes_on write answer

abbrev pub after_answer : WaitingAsk → Answer → WaitingAsk
after_answer (Access tag asked) answer = Access tag asked
after_answer (Reads block) answer = Reads (record block { bytes = bytes_after block answer })
after_answer (Writes write) answer = Writes (record write { stored = stored_after write answer })

-- all bytes of a block that was loaded, if it ends so; one that is refused has none
abbrev pub all_bytes : WaitingAsk → Answer → Option (List ℕ)
all_bytes (Access tag asked) answer = None
all_bytes (Reads block) answer = whole_after block answer
all_bytes (Writes write) answer = None

-- ---- all that wait

abbrev pub ask_in : List WaitingAsk → ℕ → WaitingAsk
ask_in waiting at = slice_index_or waiting at (Access [] (Load 0 0))

-- the asks that wait once the one at this place was answered so
abbrev pub waiting_after : List WaitingAsk → ℕ → Answer → List WaitingAsk
waiting_after waiting at answer =
    if goes_on (ask_in waiting at) answer then slice_set waiting at (after_answer (ask_in waiting at) answer) else remove waiting at
