-- Hosts: sites whose machines map pages. Besides what happens in a world, a host maps a page, gives a mapping up or turns it from write
-- into read, and its processors load and store at mapped pages. One rule keeps the memory one: an event makes no step while the step
-- would leave the site with less access to a page than what is mapped. It is held, as if the network were slow, until the page is
-- unmapped. An access of the site itself is held where the machine's memory has the page's bytes, or wouldn't have the byte stored.
use Rattle.std.specs.Prelude.{ℕ, Bool, true, false, List, [], ◌∷◌, ◌++◌, Option, None, Some, Result, Ok, Err, ◌+◌, ◌*◌, ◌&&◌, ◌||◌, not, ◌==◌, if◌then◌else◌, is_some, map, slice_get, slice_index, slice_set}
use Rattle.shm_place.specs.declared.page_id.PageId.{PageId}
use Rattle.shm_place.specs.Limits.{page_bytes}
use Rattle.shm_place.specs.Page.{same_page}
use Rattle.shm_model.specs.declared.answer.Answer.{Answer}
use Rattle.shm_model.specs.declared.answer.Answer.TheVariants.{Byte, Stored}
use Rattle.shm_model.specs.declared.event.Event.{Event}
use Rattle.shm_model.specs.declared.event.Event.TheVariants.{Load as LoadEvent, Store as StoreEvent}
use Rattle.shm_model.specs.declared.request_kind.Kind.{Kind}
use Rattle.shm_model.specs.Access.{Place, right}
use Rattle.shm_model.specs.Basics.{at}
use Rattle.shm_model.specs.Book.{is_write}
use Rattle.shm_model.specs.Entry.{Entry, bytes}
use Rattle.shm_model.specs.Message.{Input, Load, Store}
use Rattle.shm_model.specs.Site.{Site}
use Rattle.shm_model.specs.World.{Done, Next, Opening, World, is_full, next, opened}
use Rattle.shm_mapping.specs.Mapped.{Mapped, allows, allows_all, mapped_at, remapped, unmapped}

-- the sites' world, what each host maps, and the account of all accesses and steps, the newest first: what was asked and answered
pub record Hosts : Type 0 where
  pub world : World
  pub mapped : ℕ → List Mapped
  pub account : List Done

-- an event of the world; a site's page is mapped through an attachment; a mapping of a page is given up, its changes being stored through
-- an attachment, and this is still mapped then (nothing: unmapped; `Read`: it may be read on; `Write`: the changes alone were brought);
-- a processor of a site's machine loads or stores through an attachment at an offset
pub data HostEvent : Type 0 where
  Happens : Event → HostEvent
  Map : ℕ → ℕ → PageId → Kind → HostEvent
  GiveUp : ℕ → ℕ → PageId → Option Kind → HostEvent
  ProcessorLoad : ℕ → ℕ → ℕ → HostEvent
  ProcessorStore : ℕ → ℕ → ℕ → ℕ → HostEvent

-- What became of an event: the hosts after it; the events that it is in a world without mappings, where processors' accesses are the
-- sites'; and the events that it is for the sites alone, which know of what is mapped only when it is brought back.
pub record Moved : Type 0 where
  pub hosts : Hosts
  pub plain : List Event
  pub own : List Event

abbrev pub nothing : Hosts → Moved
nothing h = record { hosts = h; plain = []; own = [] }

-- past the greatest count of envelopes no site is stepped any more
abbrev pub live_site : World → ℕ → Option Site
live_site w s = if is_full w then None else slice_get w.sites s

-- what is mapped of the page that an access goes to
abbrev pub reached : List Mapped → Result Place ℕ → Option Mapped
reached mapped (Err _) = None
reached mapped (Ok place) = mapped_at place.page mapped

abbrev pub is_written : Option Mapped → Bool
is_written None = false
is_written (Some m) = is_write m.kind

-- the step would leave the site with less access to a page than what is mapped
abbrev pub takes_away : List Mapped → Option Site → Bool
takes_away mapped None = false
takes_away mapped (Some site) = not (allows_all mapped site)

-- the site's own load would give a byte that the machine's memory has newer, or its own store one that the machine's memory lacked
abbrev pub passes_by : List Mapped → Site → Option Input → Answer → Bool
passes_by mapped site (Some (Load a offset)) (Byte _) = is_written (reached mapped (right site.attachments a offset false))
passes_by mapped site (Some (Store a offset _)) Stored = is_some (reached mapped (right site.attachments a offset true))
passes_by mapped site _ _ = false

abbrev pub accesses_by : List Mapped → Option Site → Done → Bool
accesses_by mapped None done = false
accesses_by mapped (Some site) done = passes_by mapped site done.input done.answer

abbrev pub is_held : Hosts → Next → Bool
is_held h n =
    takes_away (h.mapped n.done.site) (slice_get n.world.sites n.done.site)
    || accesses_by (h.mapped n.done.site) (slice_get h.world.sites n.done.site) n.done

abbrev pub happens : Hosts → Event → Next → Moved
happens h event n =
    if is_held h n then nothing h
    else record { hosts = record h { world = n.world; account = n.done ∷ h.account }; plain = event ∷ []; own = event ∷ [] }

-- the attachment has the page, and may be stored through where that is asked (shmop(2))
abbrev pub is_place_in : PageId → Result Place ℕ → Bool
is_place_in page (Err _) = false
is_place_in page (Ok place) = same_page place.page page

abbrev pub has_page : Site → ℕ → PageId → Bool → Bool
has_page site a page for_store = is_place_in page (right site.attachments a (page.index * page_bytes) for_store)

-- The machine's memory gets the entry's bytes; of a page that is mapped already it has them. What is mapped to write stays so.
abbrev pub mapped_for : Kind → PageId → Entry → Option Mapped → Mapped
mapped_for kind page e None = record { page = page; kind = kind; memory = bytes e }
mapped_for kind page e (Some m) = if is_write m.kind then m else record m { kind = kind }

abbrev pub maps : Hosts → ℕ → ℕ → PageId → Kind → Option Site → Moved
maps h s a page kind None = nothing h
maps h s a page kind (Some site) =
    if has_page site a page (is_write kind) && allows kind (site.entries page)
    then record {
      hosts = record h { mapped = at h.mapped s (remapped (mapped_for kind page (site.entries page) (mapped_at page (h.mapped s))) (h.mapped s)) };
      plain = [];
      own = [];
    }
    else nothing h

-- the places, from this one on, at which bytes differ
abbrev pub differing : ℕ → List ℕ → List ℕ → List ℕ
differing i (x ∷ xs) (y ∷ ys) = if x == y then differing (i + 1) xs ys else i ∷ differing (i + 1) xs ys
differing i _ _ = []

-- where the machine's memory has other bytes than the entry, and a store for each
abbrev pub changed : List ℕ → List ℕ → List ℕ
changed old memory = differing 0 old memory

abbrev pub store_back : ℕ → ℕ → PageId → List ℕ → ℕ → Event
store_back s a page memory i = StoreEvent s a (page.index * page_bytes + i) (slice_index memory i)

abbrev pub stores_back : ℕ → ℕ → PageId → List ℕ → List ℕ → List Event
stores_back s a page old memory = map (store_back s a page memory) (changed old memory)

abbrev pub after_events : World → List Event → World
after_events w [] = w
after_events w (e ∷ es) = after_events (next w e).world es

abbrev pub left_mapped : Option Kind → PageId → Mapped → List Mapped → List Mapped
left_mapped None page m mapped = unmapped page mapped
left_mapped (Some kind) page m mapped = remapped (record m { kind = kind }) mapped

abbrev pub left_of_read : Option Kind → PageId → List Mapped → List Mapped
left_of_read None page mapped = unmapped page mapped
left_of_read (Some _) page mapped = mapped

-- what is mapped to read has nothing to bring
abbrev pub gives_up_read : Hosts → ℕ → PageId → Option Kind → Moved
gives_up_read h s page left = record { hosts = record h { mapped = at h.mapped s (left_of_read left page (h.mapped s)) }; plain = []; own = [] }

abbrev pub gives_up_write : Hosts → ℕ → PageId → Option Kind → Mapped → List Event → Moved
gives_up_write h s page left m stores = record {
  hosts = record h { world = after_events h.world stores; mapped = at h.mapped s (left_mapped left page m (h.mapped s)) };
  plain = [];
  own = stores;
}

abbrev pub gives_up : Hosts → ℕ → ℕ → PageId → Option Kind → Option Site → Option Mapped → Moved
gives_up h s a page left None m = nothing h
gives_up h s a page left (Some site) None = nothing h
gives_up h s a page left (Some site) (Some m) =
    if not (is_write m.kind) then gives_up_read h s page left
    else if has_page site a page true then gives_up_write h s page left m (stores_back s a page (bytes (site.entries page)) m.memory)
    else nothing h

-- A processor's access at a page that is mapped so, in the order in which accesses reach the memory; anything else faults.
abbrev pub loads_from : Hosts → ℕ → ℕ → ℕ → Place → Option Mapped → Moved
loads_from h s a offset place None = nothing h
loads_from h s a offset place (Some m) = record {
  hosts = record h { account = record { site = s; input = Some (Load a offset); answer = Byte (slice_index m.memory place.within) } ∷ h.account };
  plain = LoadEvent s a offset ∷ [];
  own = [];
}

abbrev pub loads_at : Hosts → ℕ → ℕ → ℕ → Result Place ℕ → Moved
loads_at h s a offset (Err _) = nothing h
loads_at h s a offset (Ok place) = loads_from h s a offset place (mapped_at place.page (h.mapped s))

abbrev pub loads : Hosts → ℕ → ℕ → ℕ → Option Site → Moved
loads h s a offset None = nothing h
loads h s a offset (Some site) = loads_at h s a offset (right site.attachments a offset false)

abbrev pub stores_to : Hosts → ℕ → ℕ → ℕ → ℕ → Place → Option Mapped → Moved
stores_to h s a offset byte place None = nothing h
stores_to h s a offset byte place (Some m) =
    if is_write m.kind
    then record {
      hosts = record h {
        mapped = at h.mapped s (remapped (record m { memory = slice_set m.memory place.within byte }) (h.mapped s));
        account = record { site = s; input = Some (Store a offset byte); answer = Stored } ∷ h.account;
      };
      plain = StoreEvent s a offset byte ∷ [];
      own = [];
    }
    else nothing h

abbrev pub stores_at : Hosts → ℕ → ℕ → ℕ → ℕ → Result Place ℕ → Moved
stores_at h s a offset byte (Err _) = nothing h
stores_at h s a offset byte (Ok place) = stores_to h s a offset byte place (mapped_at place.page (h.mapped s))

abbrev pub stores : Hosts → ℕ → ℕ → ℕ → ℕ → Option Site → Moved
stores h s a offset byte None = nothing h
stores h s a offset byte (Some site) = stores_at h s a offset byte (right site.attachments a offset true)

abbrev pub moved : Hosts → HostEvent → Moved
moved h (Happens event) = happens h event (next h.world event)
moved h (Map s a page kind) = maps h s a page kind (live_site h.world s)
moved h (GiveUp s a page left) = gives_up h s a page left (live_site h.world s) (mapped_at page (h.mapped s))
moved h (ProcessorLoad s a offset) = loads h s a offset (live_site h.world s)
moved h (ProcessorStore s a offset byte) = stores h s a offset byte (live_site h.world s)

abbrev pub hosts_on : Hosts → List HostEvent → Hosts
hosts_on h [] = h
hosts_on h (e ∷ es) = hosts_on (moved h e).hosts es

abbrev pub plain_on : Hosts → List HostEvent → List Event
plain_on h [] = []
plain_on h (e ∷ es) = (moved h e).plain ++ plain_on (moved h e).hosts es

abbrev pub own_on : Hosts → List HostEvent → List Event
own_on h [] = []
own_on h (e ∷ es) = (moved h e).own ++ own_on (moved h e).hosts es

-- nothing is mapped at first
abbrev pub opened_hosts : Opening → Hosts
opened_hosts o = record { world = opened o; mapped = λ _. []; account = [] }
