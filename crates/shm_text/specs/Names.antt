-- What the states of a page and the messages are called.
use Rattle.std.specs.Prelude.{ℕ, List, codes}
use Rattle.shm_model.specs.declared.answer.State.{State}
use Rattle.shm_model.specs.declared.answer.State.TheVariants.{Nil, Copy, OwnRead, OwnWrite, Handed, Purged}
use Rattle.shm_model.specs.Entry.{Note, Ask, Clear, Cleared, Hand, Page, Confirm}
use Rattle.shm_model.specs.Message.{Message, Of, Call, Replies, Purge, Purged as PurgedMessage}

-- how a site holds a page
abbrev pub state_name : State → List ℕ
state_name Nil = codes "Nil"
state_name Copy = codes "Copy"
state_name OwnRead = codes "OwnRead"
state_name OwnWrite = codes "OwnWrite"
state_name Handed = codes "Handed"
state_name Purged = codes "Purged"

-- a message of a page
abbrev pub note_name : Note → List ℕ
note_name (Ask _ _) = codes "Ask"
note_name (Clear _) = codes "Clear"
note_name (Cleared _) = codes "Cleared"
note_name (Hand _ _ _) = codes "Hand"
note_name (Page _ _ _) = codes "Page"
note_name (Confirm _) = codes "Confirm"

-- a message
abbrev pub message_name : Message → List ℕ
message_name (Of _ note) = note_name note
message_name (Call _ _) = codes "Call"
message_name (Replies _ _) = codes "Reply"
message_name (Purge _) = codes "Purge"
message_name (PurgedMessage _) = codes "Purged"
