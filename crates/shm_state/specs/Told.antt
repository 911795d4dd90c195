-- What is told of a site's state, part by part: which parts fit what was told before them, and the state that they make.
use Rattle.std.specs.Prelude.{◌≡◌, ℕ, zero, suc, ◌==◌, ◌&&◌, Bool, true, false, not, nat_lt, if◌then◌else◌, List, [], ◌∷◌, ◌++◌, length, Option, None, Some, is_some}
use Rattle.std.specs.List.{list_any}
use Rattle.std.specs.Map.{keys_of}
use Rattle.shm_place.specs.Limits.{max_sites, page_bytes, pages}
use Rattle.shm_place.specs.Page.{same_page}
use Rattle.shm_place.specs.SiteSet.{has}
use Rattle.shm_model.specs.Book as model
use Rattle.shm_model.specs.Calls.{is_size}
use Rattle.shm_model.specs.Entry as entry
use Rattle.shm_model.specs.Site.{is_attached, max_attachments}
use Rattle.shm_number.specs.Kept.{kept_at}
use Rattle.shm_number.specs.Served.{served_of}
use Rattle.shm_keys.specs.Restored.{is_next_purge, is_next_segment}
use Rattle.shm_attach.specs.Attachments.{attachments_of}
use Rattle.shm_parts.specs.Listed.{purged_in}
use Rattle.shm_site.specs.State.{State, site_from}
use Rattle.shm_state.specs.Part.{BookPart, Part, Requests, Calls, Outstanding, Segment, Missing, Kept, Entry, Purged, Attachment, Book}
use Rattle.shm_state.specs.Stage.{is_due, stage_of}
use Rattle.shm_state.specs.declared.take_fault.TakeFault.{TakeFault}
use Rattle.shm_state.specs.declared.take_fault.TakeFault.TheVariants.{OutOfMemory, OutOfOrder, Twice, Unfit}
use Rattle.shm_state.specs.declared.told_stage.Stage.{Stage}
use Rattle.shm_state.specs.declared.told_stage.Stage.TheVariants as stage

-- what was told last, and the state that all parts make
pub record Told : Type 0 where
  pub last : Stage
  pub state : State

abbrev pub told_nothing : Told
told_nothing = record {
  last = stage.Nothing;
  state = record {
    entries = [];
    books = [];
    requests = 0;
    calls = record { begun = 0; outstanding = None };
    attachments = [];
    table = [];
    missing = [];
    kept = [];
    purged = [];
    frames = None;
  };
}

-- ---- the state that a part makes of another

-- with this at a place of the list
abbrev pub put : {X : Type 0} → ℕ → X → List (Option X) → List (Option X)
put zero x [] = Some x ∷ []
put zero x (y ∷ ys) = Some x ∷ ys
put (suc n) x [] = None ∷ put n x []
put (suc n) x (y ∷ ys) = y ∷ put n x ys

-- the book of which a restart leaves this
abbrev pub whole_book : BookPart → model.Book
whole_book book = record {
  owner = book.owner;
  copies = has book.copies;
  number = book.number;
  running = book.running;
  cleared = λ _. false;
  served = served_of book.served;
  waiting = [];
}

abbrev pub state_with : Part → State → State
state_with (Requests number) s = record s { requests = number }
state_with (Calls number) s = record s { calls = record s.calls { begun = number } }
state_with (Outstanding number op) s = record s { calls = record s.calls { outstanding = Some (record { number = number; op = op }) } }
state_with (Segment segment) s = record s { table = s.table ++ segment ∷ [] }
state_with (Missing purge) s = record s { missing = s.missing ++ purge ∷ [] }
state_with (Kept site number reply) s = record s { kept = put site (number, reply) s.kept }
state_with (Entry page entry) s = record s { entries = s.entries ++ (page, entry) ∷ [] }
state_with (Purged id) s = record s { purged = s.purged ++ id ∷ [] }
state_with (Attachment number attachment) s = record s { attachments = put number attachment s.attachments }
state_with (Book page book) s = record s { books = s.books ++ (page, whole_book book) ∷ [] }

abbrev pub told_with : Part → Told → Told
told_with part told = record { last = stage_of part; state = state_with part told.state }

-- ---- the parts that fit

-- the page's bytes, where there are any, are as many as a page has
abbrev pub is_filled : entry.Entry → Bool
is_filled (entry.Nil number) = true
is_filled (entry.Copy number bytes) = length bytes == page_bytes
is_filled (entry.OwnRead number bytes) = length bytes == page_bytes
is_filled (entry.OwnWrite number bytes) = length bytes == page_bytes
is_filled (entry.Handed number to bytes) = length bytes == page_bytes

-- a part that can stand there, unless it stands there already
abbrev pub once : Bool → Bool → Option TakeFault
once fits twice =
    if not fits then Some Unfit
    else if twice then Some Twice
    else None

-- What is wrong with a part beside what was told, but for its order. A home makes segments in the order of their identifiers; a site's calls have
-- numbers from 1; of a purged segment nothing is there, nor is it attached.
abbrev pub misfit : ℕ → ℕ → Part → State → Option TakeFault
misfit sites me (Requests number) s = None
misfit sites me (Calls number) s = None
misfit sites me (Outstanding number op) s = None
misfit sites me (Segment segment) s = once (is_next_segment me sites s.table segment) false
misfit sites me (Missing purge) s = once (is_next_purge s.table s.missing purge) false
misfit sites me (Kept site number reply) s = once (nat_lt site max_sites && nat_lt 0 number) (is_some (kept_at s.kept site))
misfit sites me (Purged id) s = once (not (is_attached (site_from sites me s) id)) (purged_in s.purged id)
misfit sites me (Entry page entry) s =
    once (nat_lt page.index pages && not (purged_in s.purged page.seg) && is_filled entry) (list_any (same_page page) (keys_of s.entries))
misfit sites me (Attachment number a) s =
    once (nat_lt number max_attachments && is_size a.size && not (purged_in s.purged a.id)) (is_some (attachments_of s.attachments number))
misfit sites me (Book page book) s = once (nat_lt page.index pages) (list_any (same_page page) (keys_of s.books))

-- what is wrong with the part, if anything
abbrev pub wrong : ℕ → ℕ → Part → Told → Option TakeFault
wrong sites me part told = if is_due told.last (stage_of part) then misfit sites me part told.state else Some OutOfOrder

-- a part for which memory is taken
abbrev pub takes_memory : Part → Bool
takes_memory (Requests number) = false
takes_memory (Calls number) = false
takes_memory (Outstanding number op) = false
takes_memory (Kept site number reply) = false
takes_memory part = true

-- why a part isn't taken: what is wrong with it, or that memory is refused
abbrev pub IsWhy : Part → TakeFault → Option TakeFault → Type 0
IsWhy part OutOfMemory found = takes_memory part ≡ true
IsWhy part fault found = found ≡ Some fault

-- ---- many parts

-- with all these parts, one after another
unfoldable pub told_all : List Part → Told → Told
told_all [] told = told
told_all (part ∷ parts) told = told_all parts (told_with part told)

-- the state that these parts make
abbrev pub state_told : List Part → State
state_told parts = (told_all parts told_nothing).state
