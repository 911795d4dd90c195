-- A machine that dies: its programs and their memory are gone, and its site comes back with what was brought to it. A machine brings all
-- that its processors changed, at once, before a page leaves it. Then a death takes an end of what it did, and never a middle.
use Rattle.std.specs.Prelude.{◌≡◌, ℕ, Bool, false, List, [], ◌∷◌, ◌++◌, Some, not, ◌==◌, if◌then◌else◌, filter, slice_get}
use Rattle.shm_place.specs.declared.page_id.PageId.{PageId}
use Rattle.shm_model.specs.declared.event.Event.{Event}
use Rattle.shm_model.specs.Basics.{at}
use Rattle.shm_model.specs.Entry.{bytes}
use Rattle.shm_model.specs.Site.{Site}
use Rattle.shm_model.specs.World.{Done, Opening, run}
use Rattle.shm_mapping.specs.Mapped.{Mapped, mapped_at}
use Rattle.shm_mapping.specs.Hosts.{GiveUp, HostEvent, Hosts, ProcessorLoad, ProcessorStore, hosts_on, is_written, moved, opened_hosts}
use Rattle.shm_mapping.specs.Programs.{joined_world}

-- all that host s maps has the bytes that its site has: so it is once everything was brought
abbrev pub IsBrought : ℕ → Hosts → Type 0
IsBrought s h = (site : Site) (page : PageId) (m : Mapped) → slice_get h.world.sites s ≡ Some site → mapped_at page (h.mapped s) ≡ Some m
    → m.memory ≡ bytes (site.entries page)

-- the event doesn't bring what host s changed: no mapping to write is given up there
abbrev pub BringsNothing : ℕ → Hosts → HostEvent → Type 0
BringsNothing s h (GiveUp t _ page _) = t ≡ s → is_written (mapped_at page (h.mapped s)) ≡ false
BringsNothing s h _ = Unit {0}

abbrev pub BringNothing : ℕ → Hosts → List HostEvent → Type 0
BringNothing s h [] = Unit {0}
BringNothing s h (e ∷ es) = BringsNothing s h e × BringNothing s (moved h e).hosts es

abbrev pub is_access_at : ℕ → HostEvent → Bool
is_access_at s (ProcessorLoad t _ _) = t == s
is_access_at s (ProcessorStore t _ _ _) = t == s
is_access_at s _ = false

-- the events of the world without mappings, but for the accesses of the processors of host s
abbrev pub plain_without : ℕ → Hosts → List HostEvent → List Event
plain_without s h [] = []
plain_without s h (e ∷ es) = (if is_access_at s e then [] else (moved h e).plain) ++ plain_without s (moved h e).hosts es

-- hosts, and the events that they were in the world without mappings
pub record Life : Type 0 where
  pub hosts : Hosts
  pub plain : List Event

-- What happens to hosts: one event; or these, and after them the machine of host s is dead.
pub data Turn : Type 0 where
  Moves : HostEvent → Turn
  Dies : ℕ → List HostEvent → Turn

-- the accesses of the processors of host s since the batch were never made
abbrev pub left : Life → ℕ → List HostEvent → List Event
left life s later = life.plain ++ plain_without s life.hosts later

-- the sites are where they were, host s maps nothing, and the account is of what is left
abbrev pub died : Opening → Life → ℕ → List HostEvent → Hosts
died o life s later =
    let h = hosts_on life.hosts later in
    record { world = h.world; mapped = at h.mapped s []; account = (run o (left life s later)).account }

abbrev pub turned : Opening → Life → Turn → Life
turned o life (Moves e) = record { hosts = (moved life.hosts e).hosts; plain = life.plain ++ (moved life.hosts e).plain }
turned o life (Dies s later) = record { hosts = died o life s later; plain = left life s later }

-- before the events in which a machine dies it brought all that it changed, and nothing is brought in them
abbrev pub IsTurn : Life → Turn → Type 0
IsTurn life (Moves e) = Unit {0}
IsTurn life (Dies s later) = IsBrought s life.hosts × BringNothing s life.hosts later

abbrev pub AreTurns : Opening → Life → List Turn → Type 0
AreTurns o life [] = Unit {0}
AreTurns o life (t ∷ ts) = IsTurn life t × AreTurns o (turned o life t) ts

abbrev pub lived_on : Opening → Life → List Turn → Life
lived_on o life [] = life
lived_on o life (t ∷ ts) = lived_on o (turned o life t) ts

abbrev pub first_life : Opening → Life
first_life o = record { hosts = opened_hosts o; plain = [] }

abbrev pub lived : Opening → List Turn → Life
lived o turns = lived_on o (first_life o) turns

-- the hosts are one world without mappings, with the same account
pub record LivesAsOne (o : Opening) (life : Life) : Type 0 where
  pub world : (run o life.plain).world ≡ joined_world life.hosts
  pub account : (run o life.plain).account ≡ life.hosts.account

abbrev pub is_elsewhere : ℕ → Done → Bool
is_elsewhere s d = not (d.site == s)

-- what other hosts were answered is what they are answered where the last accesses of the dead machine were never made
abbrev pub OthersSawNothing : Opening → Life → ℕ → List HostEvent → Type 0
OthersSawNothing o life s later = filter (is_elsewhere s) (run o (left life s later)).account ≡ filter (is_elsewhere s) (hosts_on life.hosts later).account
