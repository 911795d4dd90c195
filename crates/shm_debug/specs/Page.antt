-- What a debugger says of a page: what each site has of it (Li and Hudak 1989, §3: nil, read or write access, one owner), and its
-- manager's book (§3.2).
use Rattle.std.specs.Prelude.{ℕ, Bool, List, [], ◌∷◌, ◌++◌, codes, Option, Some, None, filter, if◌then◌else◌, map, slice_get}
use Rattle.std.specs.Fmt.{decimal}
use Rattle.std.specs.List.{flat_map, join_with_byte, range_with_len}
use Rattle.shm_place.specs.declared.page_id.PageId.{PageId}
use Rattle.shm_place.specs.Page.{in_limits, manager_of}
use Rattle.shm_model.specs.declared.answer.Answer.TheVariants as answer
use Rattle.shm_model.specs.declared.answer.Shown.{Shown}
use Rattle.shm_model.specs.declared.request_kind.Kind.{Kind}
use Rattle.shm_model.specs.declared.request_kind.Kind.TheVariants.{Read, Write}
use Rattle.shm_model.specs.Book.{Book, Running, max_sites}
use Rattle.shm_model.specs.Refusal.{foreign_message}
use Rattle.shm_model.specs.Site.{Site}
use Rattle.shm_model.specs.World.{World}
use Rattle.shm_world.specs.Showing.{shown}
use Rattle.shm_text.specs.Names.{state_name}
use Rattle.shm_text.specs.Text.{answer_text}

-- a site's state, and the number that it met last
abbrev pub state_text : ℕ → Option Shown → List ℕ
state_text site None = []
state_text site (Some x) = codes " " ++ (decimal site ++ (codes ":" ++ (state_name x.state ++ (codes "/" ++ decimal x.seen))))

abbrev pub states_text : World → PageId → List ℕ
states_text w page = flat_map (λ s. state_text s (shown w s page)) (range_with_len 0 w.count)

-- sites, with a comma between each two
abbrev pub listed : List ℕ → List ℕ
listed sites = join_with_byte 44 (map decimal sites)

abbrev pub or_dash : List ℕ → List ℕ
or_dash [] = codes "-"
or_dash (s ∷ ss) = listed (s ∷ ss)

-- the sites that may have copies, rising
abbrev pub copies_text : (ℕ → Bool) → List ℕ
copies_text copies = or_dash (filter copies (range_with_len 0 max_sites))

abbrev pub kind_text : Kind → List ℕ
kind_text Read = codes " read "
kind_text Write = codes " write "

-- what the running transaction gives, and to whom
abbrev pub running_text : Option Running → List ℕ
running_text None = codes " idle"
running_text (Some run) = kind_text run.kind ++ decimal run.requester

abbrev pub book_text : Book → List ℕ
book_text b =
    codes " owner " ++ (decimal b.owner ++ (codes " copies " ++ (copies_text b.copies ++ (codes " t " ++ (decimal b.number ++ running_text b.running)))))

-- the manager's book, unless it has purged the segment
abbrev pub manager_text : Option Site → PageId → List ℕ
manager_text None page = []
manager_text (Some site) page = if site.purged page.seg then codes " purged" else book_text (site.books page)

abbrev pub page_text : World → PageId → List ℕ
page_text w page =
    if in_limits w.count page then codes "page" ++ (states_text w page ++ manager_text (slice_get w.sites (manager_of w.count page)) page)
    else answer_text (answer.Refused foreign_message)
