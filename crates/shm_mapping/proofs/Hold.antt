-- The laws, by induction over the events of hosts.
use Rattle.std.proofs.Common.{◌≡◌, ◌≢◌, ℕ, true, List, [], ◌∷◌, ◌++◌, Option, Some, None, refl, sym, ap, ◌∙◌, subst, slice_get}
use Rattle.std.proofs.lemmas.List.{append-nil, append_assoc}
use Rattle.shm_place.specs.declared.page_id.PageId.{PageId}
use Rattle.shm_model.specs.declared.event.Event.{Event}
use Rattle.shm_model.specs.declared.request_kind.Kind.{Kind}
use Rattle.shm_model.specs.declared.request_kind.Kind.TheVariants.{Write}
use Rattle.shm_model.specs.Entry.{readable, writable}
use Rattle.shm_model.specs.Memory.{Coherent, Legal}
use Rattle.shm_model.specs.Site.{Site}
use Rattle.shm_model.specs.World.{IsOpening, Opening, World, run}
use Rattle.shm_laws.proofs.Headline.{runs-coherent, runs-legal}
use Rattle.shm_laws.proofs.Page.Entry.{false-true}
use Rattle.shm_mapping.specs.Mapped.{Mapped, allows, joined, mapped_at}
use Rattle.shm_mapping.specs.Hosts.{GiveUp, Happens, HostEvent, Hosts, ProcessorLoad, Map, ProcessorStore, gives_up, hosts_on, live_site, loads, maps, moved, opened_hosts, own_on, plain_on, stores}
use Rattle.shm_mapping.specs.Programs.{AllMappedHold, RunsAsOne, SitesRun, hosts, joined_sites, joined_world, own, plain}
use Rattle.shm_mapping.proofs.Joined.{readable-memory, writable-memory}
use Rattle.shm_mapping.proofs.Worlds.{joined-get, joined_found}
use Rattle.shm_mapping.proofs.Good.{Good, Went, allows-readable, lone-in-run, nothing-went}
use Rattle.shm_mapping.proofs.Happened.{happens-went}
use Rattle.shm_mapping.proofs.Mapping.{live-is, map-went}
use Rattle.shm_mapping.proofs.GiveUp.{give-up-went}
use Rattle.shm_mapping.proofs.Processors.{loads-went, stores-went}

none-some : {X : Type 0} (x : X) → None ≡ Some x → ⊥
none-some x e = cc

-- nothing is mapped, and each site is as it is
opened-joined : (sites : List Site) → joined_sites (λ _. []) sites ≡ sites
opened-joined [] = refl
opened-joined (x ∷ xs) = ap (λ ys. x ∷ ys) (opened-joined xs)

pub opened-good : (o : Opening) → Good o (opened_hosts o) [] []
opened-good o = record {
  as_one = ap (λ sites. record (opened_hosts o).world { sites = sites }) (sym (opened-joined (opened_hosts o).world.sites));
  account = refl;
  alone = refl;
  holds = λ s x page m e f. absurd (none-some m f);
}

module _ (o : Opening) (is : IsOpening o) where
  module _ (h : Hosts) (ps os : List Event) (good : Good o h ps os) where
    map-site : (s a : ℕ) (page : PageId) (kind : Kind) (x : Option Site) → live_site h.world s ≡ x → Went o ps os (maps h s a page kind x)
    map-site s a page kind None e = nothing-went o h ps os good
    map-site s a page kind (Some x) e = map-went o is h ps os good s x (live-is h.world s x e).1 a page kind

    give-site : (s a : ℕ) (page : PageId) (left : Option Kind) (x : Option Site) → live_site h.world s ≡ x → Went o ps os (gives_up h s a page left x (mapped_at page (h.mapped s)))
    give-site s a page left None e = nothing-went o h ps os good
    give-site s a page left (Some x) e =
        let live = live-is h.world s x e in give-up-went o is h ps os good s a x page left live.1 live.0 (mapped_at page (h.mapped s)) refl

    load-site : (s a offset : ℕ) (x : Option Site) → live_site h.world s ≡ x → Went o ps os (loads h s a offset x)
    load-site s a offset None e = nothing-went o h ps os good
    load-site s a offset (Some x) e = let live = live-is h.world s x e in loads-went o is h ps os good s a offset x live.1 live.0

    store-site : (s a offset byte : ℕ) (x : Option Site) → live_site h.world s ≡ x → Went o ps os (stores h s a offset byte x)
    store-site s a offset byte None e = nothing-went o h ps os good
    store-site s a offset byte (Some x) e = let live = live-is h.world s x e in stores-went o is h ps os good s a offset x live.1 live.0 byte

    pub moved-went : (event : HostEvent) → Went o ps os (moved h event)
    moved-went (Happens event) = happens-went o is h ps os good event
    moved-went (Map s a page kind) = map-site s a page kind (live_site h.world s) refl
    moved-went (GiveUp s a page left) = give-site s a page left (live_site h.world s) refl
    moved-went (ProcessorLoad s a offset) = load-site s a offset (live_site h.world s) refl
    moved-went (ProcessorStore s a offset byte) = store-site s a offset byte (live_site h.world s) refl

  pub good-on : (h : Hosts) (ps os : List Event) → Good o h ps os → (events : List HostEvent) → Good o (hosts_on h events) (ps ++ plain_on h events) (os ++ own_on h events)
  good-on h ps os good [] = subst (λ p. Good o h p (os ++ [])) (sym (append-nil ps)) (subst (λ p. Good o h ps p) (sym (append-nil os)) good)
  good-on h ps os good (e ∷ es) =
      let went = good-on (moved h e).hosts (ps ++ (moved h e).plain) (os ++ (moved h e).own) (moved-went h ps os good e) es in
      subst (λ p. Good o (hosts_on (moved h e).hosts es) p (os ++ ((moved h e).own ++ own_on (moved h e).hosts es))) (append_assoc ps (moved h e).plain (plain_on (moved h e).hosts es))
      (subst (λ p. Good o (hosts_on (moved h e).hosts es) ((ps ++ (moved h e).plain) ++ plain_on (moved h e).hosts es) p) (append_assoc os (moved h e).own (own_on (moved h e).hosts es)) went)

  pub hosts-good : (events : List HostEvent) → Good o (hosts o events) (plain o events) (own o events)
  hosts-good events = good-on (opened_hosts o) [] [] (opened-good o) events

  pub run-as-one : (events : List HostEvent) → RunsAsOne o events
  run-as-one events = record { world = (hosts-good events).as_one; account = (hosts-good events).account }

  pub programs-legal : (events : List HostEvent) → Legal o (hosts o events).account
  programs-legal events = subst (Legal o) (hosts-good events).account (runs-legal o (plain o events) is)

  pub programs-coherent : (events : List HostEvent) → Coherent (joined_world (hosts o events))
  programs-coherent events = subst Coherent (hosts-good events).as_one (runs-coherent o (plain o events) is)

  pub sites-run : (events : List HostEvent) → SitesRun o events
  sites-run events =
      let good = hosts-good events in
      record { world = good.alone; sent = ap (λ (w : World). w.sent) good.alone ∙ sym (ap (λ (w : World). w.sent) good.as_one) }

  module _ (events : List HostEvent) where
    abbrev h : Hosts
    h = hosts o events

    joined-there : (s : ℕ) (x : Site) → slice_get h.world.sites s ≡ Some x → slice_get (run o (plain o events)).world.sites s ≡ Some (joined (h.mapped s) x)
    joined-there s x e = ap (λ (w : World). slice_get w.sites s) (hosts-good events).as_one ∙ (joined-get h.mapped h.world.sites s ∙ ap (joined_found (h.mapped s)) e)

    lone-if : (s t : ℕ) (x y : Site) (page : PageId) (m : Mapped) (other : Option Mapped) → slice_get h.world.sites s ≡ Some x → slice_get h.world.sites t ≡ Some y → s ≢ t
        → mapped_at page (h.mapped s) ≡ Some m → m.kind ≡ Write → mapped_at page (h.mapped t) ≡ other → other ≡ None
    lone-if s t x y page m None ex ey apart f write g = refl
    lone-if s t x y page m (Some k) ex ey apart f write g =
        let good = hosts-good events in
        let w : writable (x.entries page) ≡ true = subst (λ kind. allows kind (x.entries page) ≡ true) write (good.holds s x page m ex f).allowed in
        let r : readable (y.entries page) ≡ true = allows-readable k.kind (y.entries page) (good.holds t y page k ey g).allowed in
        absurd (false-true (sym (lone-in-run o (plain o events) is page s t (joined (h.mapped s) x) (joined (h.mapped t) y) (joined-there s x ex) (joined-there t y ey) apart
        (writable-memory (mapped_at page (h.mapped s)) (x.entries page) ∙ w)) ∙ (readable-memory (mapped_at page (h.mapped t)) (y.entries page) ∙ r)))

    pub all-hold : AllMappedHold h
    all-hold s x page m e f = record {
      allowed = ((hosts-good events).holds s x page m e f).allowed;
      memory = ((hosts-good events).holds s x page m e f).memory;
      alone = λ write t y apart ey. lone-if s t x y page m (mapped_at page (h.mapped t)) e ey apart f write refl;
    }
