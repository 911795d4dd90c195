-- What was handed over in a run, read off its account.
use Rattle.std.specs.Prelude.{List, [], ◌∷◌, ◌++◌, Option, Some, None}
use Rattle.shm_model.specs.declared.answer.Answer.{Answer}
use Rattle.shm_model.specs.Entry as entry
use Rattle.shm_model.specs.Message.{Input, Deliver, Envelope, Message, Of}
use Rattle.shm_model.specs.World.{Done}
use Rattle.shm_simulate.specs.Reactions.{reaction_of}
use Rattle.shm_simulate.specs.declared.reaction.Reaction.{Reaction}
use Rattle.shm_simulate.specs.declared.reaction.Reaction.TheVariants as reaction
use Rattle.shm_simulate.specs.declared.page_message.PageMessage.{PageMessage}
use Rattle.shm_simulate.specs.declared.page_message.MessageKind.{MessageKind}
use Rattle.shm_simulate.specs.declared.page_message.MessageKind.TheVariants as kind

abbrev pub kind_of : entry.Note → MessageKind
kind_of (entry.Ask _ _) = kind.Ask
kind_of (entry.Clear _) = kind.Clear
kind_of (entry.Cleared _) = kind.Cleared
kind_of (entry.Hand _ _ _) = kind.Hand
kind_of (entry.Page _ _ _) = kind.Page
kind_of (entry.Confirm _) = kind.Confirm

-- a message about a page
abbrev pub page_message_of : Message → Option PageMessage
page_message_of (Of page note) = Some (record { kind = kind_of note; page = page })
page_message_of _ = None

-- that of an envelope, if there is one
abbrev pub page_message_in : Option Envelope → Option PageMessage
page_message_in None = None
page_message_in (Some e) = page_message_of e.message

abbrev pub with_message : Option PageMessage → List PageMessage → List PageMessage
with_message None messages = messages
with_message (Some message) messages = messages ++ message ∷ []

-- a site takes an envelope, or drops it; one that is refused doesn't count
abbrev pub kept : Reaction → Option PageMessage → List PageMessage → List PageMessage
kept reaction.Received message messages = with_message message messages
kept _ message messages = messages

abbrev pub messages_with : Option Input → Answer → List PageMessage → List PageMessage
messages_with (Some (Deliver e)) answer messages = kept (reaction_of answer) (page_message_of e.message) messages
messages_with _ answer messages = messages

-- the messages about pages that were handed over by the end of this account, the oldest first
abbrev pub messages_after : List Done → List PageMessage
messages_after [] = []
messages_after (d ∷ ds) = messages_with d.input d.answer (messages_after ds)
