-- How pages move between sites: a message to the page's entry or to its manager's book is one row of the entry's or the book's table.
-- A site that purged the page's segment drops them all.
use Rattle.std.specs.Prelude.{ℕ, Bool, true, false, List, [], ◌∷◌, ◌++◌, Option, Some, None, ◌&&◌, ◌||◌, not, nat_lt, if◌then◌else◌, length, map, filter}
use Rattle.std.specs.List.{list_any}
use Rattle.shm_place.specs.declared.page_id.PageId.{PageId}
use Rattle.shm_place.specs.Page.{manager_of, same_page}
use Rattle.shm_model.specs.declared.answer.Answer.TheVariants.{Took, Refused}
use Rattle.shm_model.specs.Entry.{Entry, Note, Ask, Clear, Cleared, Hand, Page, Confirm, Out, Nothing, ToManager, ToSite, forget, is_copy, on_clear, on_hand, on_page, readable, seen, writable}
use Rattle.shm_model.specs.Book.{Book, Order, ClearTo, HandTo, Outcome, Ignored, UsedUp, Taken, is_write, on_ask, on_cleared, on_confirm}
use Rattle.shm_model.specs.Refusal.{numbers_used_up}
use Rattle.shm_model.specs.Message.{Envelope, Of}
use Rattle.shm_model.specs.Basics.{at_page}
use Rattle.shm_model.specs.Site.{Site, Frames, Pending, Step, dropped, still}

-- the right to read settles a pending Ask to read, the right to write any
abbrev pub is_settled : Bool → Bool → Pending → Bool
is_settled reads writes p = writes || (reads && not (is_write p.kind))

abbrev pub settle : Bool → Bool → PageId → List Pending → List Pending
settle reads writes page [] = []
settle reads writes page (p ∷ ps) =
    if same_page page p.page then (if is_settled reads writes p then ps else p ∷ ps)
    else p ∷ settle reads writes page ps

abbrev pub without_page : PageId → List PageId → List PageId
without_page page pages = filter (λ p. not (same_page page p)) pages

-- a copy that is installed goes last among the copies; what is no copy any more leaves them
abbrev pub reordered : PageId → Entry → Entry → List PageId → List PageId
reordered page old new copies =
    if not (is_copy new) then without_page page copies
    else if nat_lt (seen old) (seen new) then without_page page copies ++ (page ∷ [])
    else copies

abbrev pub arranged : PageId → Entry → Entry → Option Frames → Option Frames
arranged page old new None = None
arranged page old new (Some f) = Some (record f { copies = reordered page old new f.copies })

abbrev pub drop_first : List PageId → Frames → Site → Site
drop_first [] f site = site
drop_first (first ∷ rest) f site = record site {
  frames = Some (record f { copies = rest });
  entries = at_page site.entries first (forget (site.entries first));
}

-- with more copies than frames, the first is given up
abbrev pub limited : Option Frames → Site → Site
limited None site = site
limited (Some f) site = if nat_lt f.limit (length f.copies) then drop_first f.copies f site else site

abbrev pub with_entry : PageId → Entry → Site → Site
with_entry page new site =
    let frames = arranged page (site.entries page) new site.frames in
    limited frames (record site {
      entries = at_page site.entries page new;
      frames = frames;
      pending = settle (readable new) (writable new) page site.pending;
    })

abbrev pub sent_by : ℕ → ℕ → PageId → Out → List Envelope
sent_by sites me page Nothing = []
sent_by sites me page (ToManager note) = record { from = me; to = manager_of sites page; message = Of page note } ∷ []
sent_by sites me page (ToSite to note) = record { from = me; to = to; message = Of page note } ∷ []

abbrev pub is_nothing : Out → Bool
is_nothing Nothing = true
is_nothing _ = false

-- a row of the entry's table
abbrev pub to_entry : ℕ → ℕ → PageId → Entry × Out → Site → Step
to_entry sites me page (new, out) site =
    if is_nothing out then dropped site
    else record { site = with_entry page new site; answer = Took; sent = sent_by sites me page out }

abbrev pub order_envelope : ℕ → PageId → ℕ → Order → Envelope
order_envelope me page n (ClearTo site) = record { from = me; to = site; message = Of page (Clear n) }
order_envelope me page n (HandTo owner requester kind) = record { from = me; to = owner; message = Of page (Hand n kind requester) }

abbrev pub order_envelopes : ℕ → PageId → Book → List Order → List Envelope
order_envelopes me page book orders = map (order_envelope me page book.number) orders

-- a page's book joins the others at its first transaction, for good
abbrev pub booked_with : PageId → List PageId → List PageId
booked_with page booked = if list_any (same_page page) booked then booked else booked ++ (page ∷ [])

-- a row of the book's table
abbrev pub to_book : ℕ → PageId → Outcome → Site → Step
to_book me page Ignored site = dropped site
to_book me page UsedUp site = still (Refused numbers_used_up) site
to_book me page (Taken book orders) site = record {
  site = record site { books = at_page site.books page book; booked = booked_with page site.booked };
  answer = Took;
  sent = order_envelopes me page book orders;
}

abbrev pub on_note : ℕ → ℕ → ℕ → PageId → Note → Site → Step
on_note sites me from page (Ask request kind) site = to_book me page (on_ask from request kind (site.books page)) site
on_note sites me from page (Clear n) site = to_entry sites me page (on_clear n (site.entries page)) site
on_note sites me from page (Cleared n) site = to_book me page (on_cleared from n (site.books page)) site
on_note sites me from page (Hand n kind to) site = to_entry sites me page (on_hand me n kind to (site.entries page)) site
on_note sites me from page (Page n kind b) site = to_entry sites me page (on_page n kind b (site.entries page)) site
on_note sites me from page (Confirm n) site = to_book me page (on_confirm from n (site.books page)) site

abbrev pub on_note_of : ℕ → ℕ → ℕ → PageId → Note → Site → Step
on_note_of sites me from page note site =
    if site.purged page.seg then dropped site else on_note sites me from page note site
