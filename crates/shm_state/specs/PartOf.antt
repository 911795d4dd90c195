-- Parts of the code, as the definitions speak of them.
use Rattle.shm_model.specs.Entry as pages
use Rattle.shm_manager.specs.Book.{running_of}
use Rattle.shm_state.specs.Part as state
use Rattle.shm_state.specs.declared.part.BookPart.{BookPart}
use Rattle.shm_state.specs.declared.part.EntryPart.{EntryPart}
use Rattle.shm_state.specs.declared.part.EntryPart.TheVariants as stored
use Rattle.shm_state.specs.declared.part.Part.{Part}
use Rattle.shm_state.specs.declared.part.Part.TheVariants as code

abbrev pub book_in : BookPart → state.BookPart
book_in book = record { owner = book.owner; copies = book.copies; number = book.number; running = running_of book.running; served = book.served }

abbrev pub entry_in : {A : Type 0} → EntryPart A → pages.Entry
entry_in (stored.Gone number) = pages.Nil number
entry_in (stored.Copy number bytes) = pages.Copy number bytes.items
entry_in (stored.OwnRead number bytes) = pages.OwnRead number bytes.items
entry_in (stored.OwnWrite number bytes) = pages.OwnWrite number bytes.items
entry_in (stored.Handed number to bytes) = pages.Handed number to bytes.items

abbrev pub part_in : {A : Type 0} → Part A → state.Part
part_in (code.Requests number) = state.Requests number
part_in (code.Calls number) = state.Calls number
part_in (code.Outstanding number op) = state.Outstanding number op
part_in (code.Segment segment) = state.Segment segment
part_in (code.Missing id missing) = state.Missing (record { id = id; missing = missing })
part_in (code.Kept site number reply) = state.Kept site number reply
part_in (code.Entry page entry) = state.Entry page (entry_in entry)
part_in (code.Purged id) = state.Purged id
part_in (code.Attachment number id size ro) = state.Attachment number (record { id = id; size = size; ro = ro })
part_in (code.Book page book) = state.Book page (book_in book)
