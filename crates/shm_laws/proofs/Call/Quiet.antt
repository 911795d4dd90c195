-- Loads, stores, the notes of pages and a restart leave what a site keeps for its segment calls, and send no message of a call.
use Rattle.std.proofs.Common.{◌≡◌, ℕ, Bool, true, false, List, [], ◌∷◌, Option, Some, None, Result, Ok, Err, if◌then◌else◌, length, refl, nat_lt, ◌==◌}
use Rattle.std.specs.List.{AllByRecursion}
use Rattle.shm_place.specs.declared.page_id.PageId.{PageId}
use Rattle.shm_model.specs.declared.answer.Answer.{Answer}
use Rattle.shm_model.specs.declared.answer.Answer.TheVariants.{Waiting, Dropped, Refused}
use Rattle.shm_model.specs.declared.request_kind.Kind.{Kind}
use Rattle.shm_model.specs.declared.request_kind.Kind.TheVariants.{Read, Write}
use Rattle.shm_model.specs.Entry.{Entry, Note, Ask, Clear, Cleared, Hand, Page, Confirm, Out, Nothing, ToManager, ToSite, on_clear, on_hand, on_page, readable, writable}
use Rattle.shm_model.specs.Book.{Book, Order, ClearTo, HandTo, Outcome, Ignored, UsedUp, Taken, on_ask, on_cleared, on_confirm}
use Rattle.shm_model.specs.Basics.{greatest}
use Rattle.shm_model.specs.Message.{Envelope, Of}
use Rattle.shm_model.specs.Site.{Site, Frames, Step, still}
use Rattle.shm_model.specs.Access.{Place, ask_for, is_pending, load, load_if, right, store, store_if}
use Rattle.shm_model.specs.Transfer.{arranged, drop_first, is_nothing, limited, on_note, on_note_of, order_envelope, order_envelopes, sent_by, to_book, to_entry}
use Rattle.shm_model.specs.Step.{restart}
use Rattle.shm_laws.proofs.Call.Turn.{desk_of, is_plain}
use Rattle.shm_laws.proofs.Kernel.Lists.{every, every-map}

-- a message of a page
pub record IsNote (e : Envelope) : Type 0 where
  pub page : PageId
  pub note : Note
  pub is : e.message ≡ Of page note

pub record Quiet (site : Site) (done : Step) : Type 0 where
  pub desk : desk_of done.site ≡ desk_of site
  pub plain : is_plain done.answer ≡ true
  pub sent : AllByRecursion IsNote done.sent

quiet-if : (site : Site) (b : Bool) (x y : Step) → Quiet site x → Quiet site y → Quiet site (if b then x else y)
quiet-if site true x y yes' no' = yes'
quiet-if site false x y yes' no' = no'

pub quiet-still : (site : Site) (answer : Answer) → is_plain answer ≡ true → Quiet site (still answer site)
quiet-still site answer plain = record { desk = refl; plain = plain; sent = tt }

note-of : (from to : ℕ) (page : PageId) (note : Note) → IsNote (record { from = from; to = to; message = Of page note })
note-of from to page note = record { page = page; note = note; is = refl }

quiet-ask_for : (sites me : ℕ) (kind : Kind) (page : PageId) (site : Site) → Quiet site (ask_for sites me kind page site)
quiet-ask_for sites me kind page site =
    quiet-if site (is_pending kind page site.pending) _ _ (quiet-still site Waiting refl)
    (quiet-if site (site.requests == greatest) _ _ (quiet-still site _ refl)
    (record { desk = refl; plain = refl; sent = (note-of me _ page _, tt) }))

quiet-load_if : (sites me : ℕ) (where' : Result Place ℕ) (site : Site) → Quiet site (load_if sites me where' site)
quiet-load_if sites me (Err refusal) site = quiet-still site (Refused refusal) refl
quiet-load_if sites me (Ok place) site =
    quiet-if site (readable (site.entries place.page)) _ _ (quiet-still site _ refl) (quiet-ask_for sites me Read place.page site)

pub quiet-load : (sites me at offset : ℕ) (site : Site) → Quiet site (load sites me at offset site)
quiet-load sites me at offset site = quiet-load_if sites me (right site.attachments at offset false) site

quiet-store_if : (sites me : ℕ) (where' : Result Place ℕ) (byte : ℕ) (site : Site) → Quiet site (store_if sites me where' byte site)
quiet-store_if sites me (Err refusal) byte site = quiet-still site (Refused refusal) refl
quiet-store_if sites me (Ok place) byte site =
    quiet-if site (writable (site.entries place.page)) _ _ (record { desk = refl; plain = refl; sent = tt }) (quiet-ask_for sites me Write place.page site)

pub quiet-store : (sites me at offset byte : ℕ) (site : Site) → Quiet site (store sites me at offset byte site)
quiet-store sites me at offset byte site = quiet-store_if sites me (right site.attachments at offset true) byte site

-- pages held and given up
desk-drop_first : (copies : List PageId) (f : Frames) (site : Site) → desk_of (drop_first copies f site) ≡ desk_of site
desk-drop_first [] f site = refl
desk-drop_first (first ∷ rest) f site = refl

desk-if : (b : Bool) (x y site : Site) → desk_of x ≡ desk_of site → desk_of y ≡ desk_of site → desk_of (if b then x else y) ≡ desk_of site
desk-if true x y site yes' no' = yes'
desk-if false x y site yes' no' = no'

desk-limited : (frames : Option Frames) (site : Site) → desk_of (limited frames site) ≡ desk_of site
desk-limited None site = refl
desk-limited (Some f) site = desk-if (nat_lt f.limit (length f.copies)) _ _ site (desk-drop_first f.copies f site) refl

sent-notes : (sites me : ℕ) (page : PageId) (out : Out) → AllByRecursion IsNote (sent_by sites me page out)
sent-notes sites me page Nothing = tt
sent-notes sites me page (ToManager note) = (note-of me _ page note, tt)
sent-notes sites me page (ToSite to note) = (note-of me to page note, tt)

quiet-to_entry : (sites me : ℕ) (page : PageId) (row : Entry × Out) (site : Site) → Quiet site (to_entry sites me page row site)
quiet-to_entry sites me page (new, out) site =
    quiet-if site (is_nothing out) _ _ (quiet-still site Dropped refl)
    (record { desk = desk-limited (arranged page (site.entries page) new site.frames) _; plain = refl; sent = sent-notes sites me page out })

order-note : (me : ℕ) (page : PageId) (n : ℕ) (order : Order) → IsNote (order_envelope me page n order)
order-note me page n (ClearTo s) = note-of me s page _
order-note me page n (HandTo owner requester kind) = note-of me owner page _

pub order-notes : (me : ℕ) (page : PageId) (book : Book) (orders : List Order) → AllByRecursion IsNote (order_envelopes me page book orders)
order-notes me page book orders = every-map IsNote (order_envelope me page book.number) orders (every _ (order-note me page book.number) orders)

quiet-to_book : (me : ℕ) (page : PageId) (outcome : Outcome) (site : Site) → Quiet site (to_book me page outcome site)
quiet-to_book me page Ignored site = quiet-still site Dropped refl
quiet-to_book me page UsedUp site = quiet-still site _ refl
quiet-to_book me page (Taken book orders) site = record { desk = refl; plain = refl; sent = order-notes me page book orders }

quiet-on_note : (sites me from : ℕ) (page : PageId) (note : Note) (site : Site) → Quiet site (on_note sites me from page note site)
quiet-on_note sites me from page (Ask request kind) site = quiet-to_book me page (on_ask from request kind (site.books page)) site
quiet-on_note sites me from page (Clear n) site = quiet-to_entry sites me page (on_clear n (site.entries page)) site
quiet-on_note sites me from page (Cleared n) site = quiet-to_book me page (on_cleared from n (site.books page)) site
quiet-on_note sites me from page (Hand n kind to) site = quiet-to_entry sites me page (on_hand me n kind to (site.entries page)) site
quiet-on_note sites me from page (Page n kind b) site = quiet-to_entry sites me page (on_page n kind b (site.entries page)) site
quiet-on_note sites me from page (Confirm n) site = quiet-to_book me page (on_confirm from n (site.books page)) site

pub quiet-on_note_of : (sites me from : ℕ) (page : PageId) (note : Note) (site : Site) → Quiet site (on_note_of sites me from page note site)
quiet-on_note_of sites me from page note site =
    quiet-if site (site.purged page.seg) _ _ (quiet-still site Dropped refl) (quiet-on_note sites me from page note site)

pub quiet-restart : (site : Site) → Quiet site (restart site)
quiet-restart site = record { desk = refl; plain = refl; sent = tt }
