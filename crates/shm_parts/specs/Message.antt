-- Messages and envelopes, as the definitions speak of them.
use Rattle.std.specs.Prelude.{Bool, true, false}
use Rattle.shm_model.specs.declared.request_kind.Kind.TheVariants as kind
use Rattle.shm_model.specs.Entry as entry
use Rattle.shm_model.specs.Message as model
use Rattle.shm_parts.specs.declared.message.BookNote.{BookNote}
use Rattle.shm_parts.specs.declared.message.BookNote.TheVariants as book_note
use Rattle.shm_parts.specs.declared.message.EntryNote.{EntryNote}
use Rattle.shm_parts.specs.declared.message.EntryNote.TheVariants as entry_note
use Rattle.shm_parts.specs.declared.message.Envelope.{Envelope}
use Rattle.shm_parts.specs.declared.message.Message.{Message}
use Rattle.shm_parts.specs.declared.message.Message.TheVariants as message
use Rattle.shm_parts.specs.declared.message.Note.{Note}
use Rattle.shm_parts.specs.declared.message.Note.TheVariants as note

abbrev pub book_note_of : BookNote → entry.Note
book_note_of (book_note.Ask request kind) = entry.Ask request kind
book_note_of (book_note.Cleared number) = entry.Cleared number
book_note_of (book_note.Confirm number) = entry.Confirm number

abbrev pub entry_note_of : {A : Type 0} → EntryNote A → entry.Note
entry_note_of (entry_note.Clear number) = entry.Clear number
entry_note_of (entry_note.Hand number kind to) = entry.Hand number kind to
entry_note_of (entry_note.Read given) = entry.Page given.number kind.Read given.bytes
entry_note_of (entry_note.Write given) = entry.Page given.number kind.Write given.bytes

abbrev pub note_of : {A : Type 0} → Note A → entry.Note
note_of (note.ToBook told) = book_note_of told
note_of (note.ToEntry told) = entry_note_of told

abbrev pub message_of : {A : Type 0} → Message A → model.Message
message_of (message.Of page told) = model.Of page (note_of told)
message_of (message.Call number op) = model.Call number op
message_of (message.Reply number reply) = model.Replies number reply
message_of (message.Purge id) = model.Purge id
message_of (message.Purged id) = model.Purged id

abbrev pub envelope_of : {A : Type 0} → Envelope A → model.Envelope
envelope_of e = record { from = e.from; to = e.to; message = message_of e.message }

-- the note has a page's bytes
abbrev pub brings_bytes : {A : Type 0} → EntryNote A → Bool
brings_bytes (entry_note.Read _) = true
brings_bytes (entry_note.Write _) = true
brings_bytes _ = false

abbrev pub has_bytes : {A : Type 0} → Note A → Bool
has_bytes (note.ToBook _) = false
has_bytes (note.ToEntry told) = brings_bytes told

-- what comes may be a copy
abbrev pub brings_copy : {A : Type 0} → EntryNote A → Bool
brings_copy (entry_note.Read _) = true
brings_copy _ = false

-- the message holds a note with a page's bytes
abbrev pub holds_page : {A : Type 0} → Message A → Bool
holds_page (message.Of _ told) = has_bytes told
holds_page _ = false
