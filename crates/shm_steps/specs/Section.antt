-- What the page of a run says at one step: of the world after so many of its events.
use Rattle.std.specs.Prelude.{ℕ, List, [], ◌++◌, codes, length, if◌then◌else◌, Option, Some, None, slice_get}
use Rattle.std.specs.Fmt.{decimal}
use Rattle.std.specs.List.{flat_map, range_with_len}
use Rattle.shm_place.specs.declared.page_id.PageId.{PageId}
use Rattle.shm_place.specs.Page.{in_limits, manager_of}
use Rattle.shm_model.specs.declared.answer.Shown.{Shown}
use Rattle.shm_model.specs.declared.request_kind.Kind.{Kind}
use Rattle.shm_model.specs.declared.request_kind.Kind.TheVariants.{Read, Write}
use Rattle.shm_model.specs.Book.{Book, Running, Waiting, max_waiting}
use Rattle.shm_model.specs.Calls.{Outstanding}
use Rattle.shm_model.specs.Entry.{Note, Ask, Clear, Cleared, Hand, Page, Confirm}
use Rattle.shm_model.specs.Message.{Message, Of, Call, Replies, Purge, Purged, Envelope}
use Rattle.shm_model.specs.Site.{Pending, Site}
use Rattle.shm_model.specs.World.{World, live}
use Rattle.shm_world.specs.Showing.{shown}
use Rattle.shm_text.specs.Names.{message_name, state_name}
use Rattle.shm_debug.specs.Page.{copies_text, manager_text}

-- a page, as scripts name it
abbrev pub page_name : PageId → List ℕ
page_name page = codes "page " ++ (decimal page.seg ++ (codes " " ++ decimal page.index))

abbrev pub kind_name : Kind → List ℕ
kind_name Read = codes " to read"
kind_name Write = codes " to write"

-- ---- the table: a row for each page, a column for each site, and its manager's book

abbrev pub site_cell : ℕ → List ℕ
site_cell site = codes "<th>site " ++ (decimal site ++ codes "</th>")

abbrev pub site_cells : ℕ → List ℕ
site_cells sites = flat_map site_cell (range_with_len 0 sites)

abbrev pub table_head : ℕ → List ℕ
table_head sites =
    codes "<table>\n<tr><th>page</th>" ++ (site_cells sites ++ codes "<th>manager</th><th>cleared</th><th>waiting</th></tr>\n")

-- what a site has of the page, and the number that it met last
abbrev pub state_cell : Option Shown → List ℕ
state_cell None = codes "<td>-</td>"
state_cell (Some x) =
    codes "<td class='" ++ (state_name x.state ++ (codes "'>" ++ (state_name x.state ++ (codes "/" ++ (decimal x.seen ++ codes "</td>")))))

abbrev pub state_cells : World → PageId → List ℕ
state_cells w page = flat_map (λ s. state_cell (shown w s page)) (range_with_len 0 w.count)

abbrev pub manager_name : ℕ → List ℕ
manager_name site = decimal site ++ codes ":"

-- the manager, and its book as `show` tells it
abbrev pub keeper_text : World → PageId → List ℕ
keeper_text w page =
    if in_limits w.count page
    then manager_name (manager_of w.count page) ++ manager_text (slice_get w.sites (manager_of w.count page)) page
    else []

-- who has answered the running transaction's Clear
abbrev pub cleared_while : Option Running → Book → List ℕ
cleared_while None b = codes "-"
cleared_while (Some _) b = copies_text b.cleared

abbrev pub waiting_text : Option Waiting → List ℕ
waiting_text None = []
waiting_text (Some x) =
    codes "<li>site " ++ (decimal x.from ++ (kind_name x.kind ++ (codes ", request " ++ (decimal x.request ++ codes "</li>"))))

-- the requests that wait for their turn, the oldest first
abbrev pub queue_text : Book → List ℕ
queue_text b = flat_map (λ k. waiting_text (slice_get b.waiting k)) (range_with_len 0 max_waiting)

abbrev pub book_cells : Book → List ℕ
book_cells b = codes "<td>" ++ (cleared_while b.running b ++ (codes "</td><td><ol>" ++ (queue_text b ++ codes "</ol></td>")))

abbrev pub volatile_cells : Option Site → PageId → List ℕ
volatile_cells None page = []
volatile_cells (Some site) page = book_cells (site.books page)

abbrev pub page_cell : PageId → List ℕ
page_cell page = codes "<tr><th>page " ++ (decimal page.seg ++ (codes " " ++ (decimal page.index ++ codes "</th>")))

abbrev pub row_text : World → PageId → List ℕ
row_text w page =
    page_cell page ++ (state_cells w page ++ (codes "<td>" ++ (keeper_text w page
    ++ (codes "</td>" ++ (volatile_cells (slice_get w.sites (manager_of w.count page)) page ++ codes "</tr>\n")))))

-- ---- what each site waits for

abbrev pub pending_text : ℕ → Pending → List ℕ
pending_text s p =
    codes "<li>site " ++ (decimal s ++ (codes " waits for " ++ (page_name p.page ++ (kind_name p.kind
    ++ (codes ", request " ++ (decimal p.request ++ codes "</li>\n"))))))

abbrev pub call_text : ℕ → Option Outstanding → List ℕ
call_text s None = []
call_text s (Some c) = codes "<li>site " ++ (decimal s ++ (codes " waits for the reply to call " ++ (decimal c.number ++ codes "</li>\n")))

abbrev pub site_awaits : ℕ → Option Site → List ℕ
site_awaits s None = []
site_awaits s (Some site) = flat_map (pending_text s) site.pending ++ call_text s site.outstanding

abbrev pub awaits_text : World → List ℕ
awaits_text w = flat_map (λ s. site_awaits s (slice_get w.sites s)) (range_with_len 0 w.count)

-- ---- what is on its way

abbrev pub transaction_text : ℕ → List ℕ
transaction_text number = codes " t " ++ decimal number

-- behind a note's name and page, its number, and what else it says; a page's bytes aren't told
abbrev pub note_text : Note → List ℕ
note_text (Ask request kind) = codes " request " ++ (decimal request ++ kind_name kind)
note_text (Clear number) = transaction_text number
note_text (Cleared number) = transaction_text number
note_text (Hand number kind to) = transaction_text number ++ (codes " to site " ++ (decimal to ++ kind_name kind))
note_text (Page number kind bytes) = transaction_text number ++ kind_name kind
note_text (Confirm number) = transaction_text number

abbrev pub page_behind : PageId → List ℕ
page_behind page = codes " " ++ page_name page

abbrev pub message_text : Message → List ℕ
message_text (Of page note) = page_behind page ++ note_text note
message_text (Call number op) = codes " number " ++ decimal number
message_text (Replies number reply) = codes " number " ++ decimal number
message_text (Purge id) = codes " segment " ++ decimal id
message_text (Purged id) = codes " segment " ++ decimal id

-- its number, where it comes from and goes to, and its message's name
abbrev pub way_text : ℕ → Envelope → List ℕ
way_text number e =
    codes "<li>m" ++ (decimal number ++ (codes " from " ++ (decimal e.from ++ (codes " to " ++ (decimal e.to ++ (codes ": " ++ message_name e.message))))))

abbrev pub flight_text : ℕ → Option Envelope → List ℕ
flight_text number None = []
flight_text number (Some e) = way_text number e ++ (message_text e.message ++ codes "</li>\n")

abbrev pub flights_text : World → List ℕ
flights_text w = flat_map (λ k. flight_text k (live w k)) (range_with_len 0 (length w.sent))

-- ---- the whole of it

abbrev pub world_text : List PageId → World → List ℕ
world_text pages w =
    table_head w.count ++ (flat_map (row_text w) pages ++ (codes "</table>\n<h3>waits</h3>\n<ul>\n"
    ++ (awaits_text w ++ (codes "</ul>\n<h3>is on its way</h3>\n<ul>\n" ++ (flights_text w ++ codes "</ul>\n</section>\n")))))
