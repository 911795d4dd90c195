-- Scripts with their outcome, line by line: what is asked, what is answered, and which messages go where. That a script plays is a
-- worked example of all definitions together: they compute each of its lines.
use Rattle.std.specs.Prelude.{◌≡◌, ℕ, List, [], ◌∷◌, Option, Some, None, drop, filter, if◌then◌else◌, length, map, slice_get}
use Rattle.std.specs.List.{range_with_len}
use Rattle.shm_place.specs.declared.page_id.PageId.{PageId}
use Rattle.shm_place.specs.Page.{manager_of}
use Rattle.shm_model.specs.declared.answer.Answer.{Answer}
use Rattle.shm_model.specs.declared.answer.State.{State}
use Rattle.shm_model.specs.declared.answer.State.TheVariants.{Nil as NilState, Copy as CopyState, OwnRead as OwnReadState, OwnWrite as OwnWriteState, Handed as HandedState, Purged as PurgedState}
use Rattle.shm_model.specs.declared.answer.Shown.{Shown}
use Rattle.shm_model.specs.declared.event.Event.{Event}
use Rattle.shm_model.specs.Entry.{Entry, Nil, Copy, OwnRead, OwnWrite, Handed, Note, Ask, Clear, Cleared, Hand, Page, Confirm, seen}
use Rattle.shm_model.specs.Book.{Book, Running, max_sites}
use Rattle.shm_model.specs.Message.{Message, Of, Call, Replies, Purge, Purged, Envelope}
use Rattle.shm_model.specs.Site.{Site}
use Rattle.shm_model.specs.World.{Opening, World, Next, next, opened}

-- the kinds of messages
pub data Sort : Type 0 where
  ask : Sort
  clear : Sort
  cleared : Sort
  hand : Sort
  page : Sort
  confirm : Sort
  call : Sort
  reply : Sort
  purge : Sort
  purged : Sort

abbrev pub sort_of_note : Note → Sort
sort_of_note (Ask _ _) = ask
sort_of_note (Clear _) = clear
sort_of_note (Cleared _) = cleared
sort_of_note (Hand _ _ _) = hand
sort_of_note (Page _ _ _) = page
sort_of_note (Confirm _) = confirm

abbrev pub sort_of : Message → Sort
sort_of (Of _ note) = sort_of_note note
sort_of (Call _ _) = call
sort_of (Replies _ _) = reply
sort_of (Purge _) = purge
sort_of (Purged _) = purged

-- an envelope that is sent: to which site, and its message's kind
pub record Sent : Type 0 where
  pub site : ℕ
  pub sort : Sort

-- a page as its manager's book has it: the owner, the sites with copies, the last transaction's number, and what runs
pub record Booked : Type 0 where
  pub owned_by : ℕ
  pub copied_at : List ℕ
  pub transaction : ℕ
  pub runs : Option Running

-- a page at each site, and in the book, which is gone where the segment was purged
pub record Standing : Type 0 where
  pub held : List Shown
  pub booked : Option Booked

-- A line is an event with its answer and what is sent at it, in order, or a look at a page of a segment. Envelopes are numbered from 0
-- over the whole script.
pub data Line : Type 0 where
  Does : Event → Answer → List Sent → Line
  Shows : ℕ → ℕ → Standing → Line

abbrev pub sent_as : Envelope → Sent
sent_as e = record { site = e.to; sort = sort_of e.message }

abbrev pub state_of : Entry → State
state_of (Nil _) = NilState
state_of (Copy _ _) = CopyState
state_of (OwnRead _ _) = OwnReadState
state_of (OwnWrite _ _) = OwnWriteState
state_of (Handed _ _ _) = HandedState

abbrev pub held_at : PageId → Site → Shown
held_at p site =
    if site.purged p.seg then record { state = PurgedState; seen = 0 }
    else record { state = state_of (site.entries p); seen = seen (site.entries p) }

abbrev pub booked_as : Book → Booked
booked_as b = record { owned_by = b.owner; copied_at = filter b.copies (range_with_len 0 max_sites); transaction = b.number; runs = b.running }

abbrev pub booked_at : PageId → Option Site → Option Booked
booked_at p None = None
booked_at p (Some site) = if site.purged p.seg then None else Some (booked_as (site.books p))

abbrev pub standing : World → PageId → Standing
standing w p = record { held = map (held_at p) w.sites; booked = booked_at p (slice_get w.sites (manager_of w.count p)) }

abbrev pub done_as : World → Event → Next → Line
done_as w event n = Does event n.done.answer (map sent_as (drop (length w.sent) n.world.sent))

-- the lines as the definitions compute them from this world
abbrev pub played : World → List Line → List Line
played w [] = []
played w (Does event _ _ ∷ lines) = done_as w event (next w event) ∷ played (next w event).world lines
played w (Shows seg index _ ∷ lines) = Shows seg index (standing w (record { seg = seg; index = index })) ∷ played w lines

-- From this opening each event answers and sends what its line says, and each look at a page shows what its line says.
unfoldable pub Plays : Opening → List Line → Type 0
Plays o lines = played (opened o) lines ≡ lines
