-- What programs get from mapped pages. For every opening and every list of events of hosts, there is a run of the world without mappings,
-- in which each processor's load and store is a load and store of its site at its place in the list, and what was held, mapped and given
-- up is left out. It has the same account, so each processor's load gave that run's byte, and the same envelopes; its world is that of the
-- hosts, with the machines' memory for the bytes of the pages that are mapped to write.
--
-- The premise is in the events: a machine's memory is touched only at pages that are mapped so, and giving a mapping up brings what stands
-- there. An access of several bytes is so many accesses with nothing between, and so is one that reads and writes at once.
use Rattle.std.specs.Prelude.{◌≡◌, ◌≢◌, ℕ, List, [], ◌∷◌, None, Some, IsTrue, slice_get, suc}
use Rattle.shm_place.specs.declared.page_id.PageId.{PageId}
use Rattle.shm_model.specs.declared.event.Event.{Event}
use Rattle.shm_model.specs.declared.request_kind.Kind.TheVariants.{Write}
use Rattle.shm_model.specs.Entry.{bytes}
use Rattle.shm_model.specs.Site.{Site}
use Rattle.shm_model.specs.World.{Opening, World, run}
use Rattle.shm_mapping.specs.Mapped.{Mapped, allows, joined, mapped_at, with_memory}
use Rattle.shm_mapping.specs.Hosts.{HostEvent, Hosts, hosts_on, opened_hosts, own_on, plain_on}

abbrev pub hosts : Opening → List HostEvent → Hosts
hosts o events = hosts_on (opened_hosts o) events

-- the events of the world without mappings
abbrev pub plain : Opening → List HostEvent → List Event
plain o events = plain_on (opened_hosts o) events

-- the events of the sites alone: no access of a processor, and for what was given up its changes, which is what a journal has
abbrev pub own : Opening → List HostEvent → List Event
own o events = own_on (opened_hosts o) events

-- each site with its machine's memory
abbrev pub joined_sites : (ℕ → List Mapped) → List Site → List Site
joined_sites mapped [] = []
joined_sites mapped (site ∷ sites) = joined (mapped 0) site ∷ joined_sites (λ s. mapped (suc s)) sites

abbrev pub joined_world : Hosts → World
joined_world h = record h.world { sites = joined_sites h.mapped h.world.sites }

pub record RunsAsOne (o : Opening) (events : List HostEvent) : Type 0 where
  pub world : (run o (plain o events)).world ≡ joined_world (hosts o events)
  pub account : (run o (plain o events)).account ≡ (hosts o events).account

-- what the sites make of it alone is a run too, with the same envelopes: stores moved later, to where a mapping is given up, change nothing
-- that others see
pub record SitesRun (o : Opening) (events : List HostEvent) : Type 0 where
  pub world : (run o (own o events)).world ≡ (hosts o events).world
  pub sent : (run o (own o events)).world.sent ≡ (run o (plain o events)).world.sent

-- What is mapped is kept: host s has the right to a page that it maps, what it maps to read is what the one memory has, and a page that it
-- maps to write no other host maps (Li and Hudak 1989, §3: many readers or one writer).
pub record MappedHold (h : Hosts) (s : ℕ) (site : Site) (page : PageId) (m : Mapped) : Type 0 where
  pub allowed : IsTrue (allows m.kind (site.entries page))
  pub memory : m.memory ≡ bytes (with_memory (Some m) (site.entries page))
  pub alone : m.kind ≡ Write → (t : ℕ) (other : Site) → s ≢ t → slice_get h.world.sites t ≡ Some other → mapped_at page (h.mapped t) ≡ None

abbrev pub AllMappedHold : Hosts → Type 0
AllMappedHold h = (s : ℕ) (site : Site) (page : PageId) (m : Mapped) → slice_get h.world.sites s ≡ Some site → mapped_at page (h.mapped s) ≡ Some m
    → MappedHold h s site page m
