-- What holds of hosts after every list of their events: they are a run of the world without mappings, and what is mapped is kept.
use Rattle.std.proofs.Common.{◌≡◌, ◌≢◌, ℕ, ◌<◌, ◌⊎◌, inl, inr, Bool, true, false, List, [], ◌∷◌, ◌++◌, Some, None, refl, sym, ap, ◌∙◌, subst, slice_get, slice_set}
use Rattle.std.proofs.Math.Path.{fun_ext}
use Rattle.std.proofs.lemmas.Bool.{cases_eq, false_from_ne_true}
use Rattle.std.proofs.lemmas.List.{append-nil, ext_get_or}
use Rattle.shm_place.specs.declared.page_id.PageId.{PageId}
use Rattle.shm_place.specs.Page.{same_page}
use Rattle.shm_model.specs.declared.event.Event.{Event}
use Rattle.shm_model.specs.declared.request_kind.Kind.{Kind}
use Rattle.shm_model.specs.declared.request_kind.Kind.TheVariants.{Read, Write}
use Rattle.shm_model.specs.Basics.{at}
use Rattle.shm_model.specs.Entry.{Entry, Nil, Copy, OwnRead, OwnWrite, Handed, bytes, readable, writable}
use Rattle.shm_model.specs.Site.{Site}
use Rattle.shm_model.specs.World.{Done, IsOpening, Next, Opening, Run, begun, extended, next, run, run_on}
use Rattle.shm_laws.proofs.Headline.{agree-here, run-sound}
use Rattle.shm_laws.proofs.Page.Entry.{false-true}
use Rattle.shm_laws.proofs.Page.Moves.{now_of, page-same}
use Rattle.shm_laws.proofs.Run.GoesOn.{run_on-append}
use Rattle.shm_laws.proofs.Sound.{PageSound}
use Rattle.shm_mapping.specs.Mapped.{Mapped, allows, joined, mapped_at, remapped, unmapped, with_bytes, with_memory}
use Rattle.shm_mapping.specs.Hosts.{Hosts, Moved, after_events, nothing}
use Rattle.shm_mapping.specs.Programs.{joined_sites, joined_world}
use Rattle.shm_mapping.proofs.Joined.{remapped-here, remapped-there, unmapped-here, unmapped-there}
use Rattle.shm_mapping.proofs.Worlds.{at-other-place, at-same-place, joined-changed, joined-get, joined_found, set-same}

none-some : {X : Type 0} (x : X) → None ≡ Some x → ⊥
none-some x e = cc

some-same : {X : Type 0} (x y : X) → Some x ≡ Some y → x ≡ y
some-same x y e = cc

-- a page that is mapped, and its entry
pub record Holds (m : Mapped) (e : Entry) : Type 0 where
  pub allowed : allows m.kind e ≡ true
  pub memory : m.memory ≡ bytes (with_memory (Some m) e)

pub record Good (o : Opening) (h : Hosts) (plain own : List Event) : Type 0 where
  pub as_one : (run o plain).world ≡ joined_world h
  pub account : (run o plain).account ≡ h.account
  pub alone : (run o own).world ≡ h.world
  pub holds : (s : ℕ) (x : Site) (page : PageId) (m : Mapped) → slice_get h.world.sites s ≡ Some x → mapped_at page (h.mapped s) ≡ Some m → Holds m (x.entries page)

pub write-memory : (memory : List ℕ) (e : Entry) → writable e ≡ true → memory ≡ bytes (with_bytes memory e)
write-memory memory (Nil n) w = absurd (false-true w)
write-memory memory (Copy n b) w = absurd (false-true w)
write-memory memory (OwnRead n b) w = absurd (false-true w)
write-memory memory (OwnWrite n b) w = refl
write-memory memory (Handed n to b) w = absurd (false-true w)

write-readable : (e : Entry) → writable e ≡ true → readable e ≡ true
write-readable (Nil n) w = absurd (false-true w)
write-readable (Copy n b) w = refl
write-readable (OwnRead n b) w = refl
write-readable (OwnWrite n b) w = refl
write-readable (Handed n to b) w = absurd (false-true w)

pub allows-readable : (kind : Kind) (e : Entry) → allows kind e ≡ true → readable e ≡ true
allows-readable Read e a = a
allows-readable Write e a = write-readable e a

-- what holds of every run
module _ (o : Opening) (events : List Event) (is : IsOpening o) (q : PageId) where
  pub now-of-run : (s : ℕ) (x : Site) → slice_get (run o events).world.sites s ≡ Some x → readable (x.entries q) ≡ true → now_of o q (run o events).account (bytes (x.entries q))
  now-of-run s x found r =
      let page : PageSound o (run o events) q = (run-sound o events is).pages q in
      let l = page.local s x found in
      let same : page.view.entries s ≡ x.entries q = l.entry (false_from_ne_true _ (λ p. false-true (sym (ap readable (l.gone p)) ∙ r))) in
      subst (λ e. now_of o q (run o events).account (bytes e)) same (page.holds.now s (ap readable same ∙ r))

  pub lone-in-run : (s t : ℕ) (x y : Site) → slice_get (run o events).world.sites s ≡ Some x → slice_get (run o events).world.sites t ≡ Some y → s ≢ t
      → writable (x.entries q) ≡ true → readable (y.entries q) ≡ false
  lone-in-run s t x y fx fy other w =
      let page : PageSound o (run o events) q = (run-sound o events is).pages q in
      (agree-here o (run o events).account q page.view page.holds s t x y (page.local s x fx) (page.local t y fy) other).alone w

-- two lists of bytes that are those stored last
pub now-same : (o : Opening) (q : PageId) (account : List Done) (b c : List ℕ) → now_of o q account b → now_of o q account c → b ≡ c
now-same o q account b c nb nc =
    ext_get_or 0 b c (nb.whole ∙ sym nc.whole) (λ k l. let m = subst (λ n. k < n) nb.whole l in nb.byte k m ∙ sym (nc.byte k m))

-- one event more
pub run-push : (o : Opening) (es : List Event) (e : Event) → run o (es ++ (e ∷ [])) ≡ extended (run o es) (next (run o es).world e)
run-push o es e = run_on-append (begun o) es (e ∷ [])

pub run_on-world : (r : Run) (es : List Event) → (run_on r es).world ≡ after_events r.world es
run_on-world r [] = refl
run_on-world r (e ∷ es) = run_on-world (extended r (next r.world e)) es

abbrev pub Went : Opening → List Event → List Event → Moved → Type 0
Went o plain own mv = Good o mv.hosts (plain ++ mv.plain) (own ++ mv.own)

module _ (o : Opening) (h : Hosts) (plain own : List Event) (good : Good o h plain own) where
  pub push : (e : Event) (n : Next) → next (joined_world h) e ≡ n → ((run o (plain ++ (e ∷ []))).world ≡ n.world) × ((run o (plain ++ (e ∷ []))).account ≡ n.done ∷ h.account)
  push e n is =
      let all : run o (plain ++ (e ∷ [])) ≡ extended (run o plain) n = run-push o plain e ∙ ap (extended (run o plain)) (ap (λ w. next w e) good.as_one ∙ is) in
      (ap (λ (r : Run). r.world) all, ap (λ (r : Run). r.account) all ∙ ap (λ a. n.done ∷ a) good.account)

  -- nothing happened to the run
  pub quiet-went : (new : Hosts) → Good o new plain own → Went o plain own (record { hosts = new; plain = []; own = [] })
  quiet-went new g = subst (λ p. Good o new p (own ++ [])) (sym (append-nil plain)) (subst (λ p. Good o new plain p) (sym (append-nil own)) g)

  pub nothing-went : Went o plain own (nothing h)
  nothing-went = quiet-went h good

  -- one host maps other pages
  module _ (s : ℕ) (x : Site) (found : slice_get h.world.sites s ≡ Some x) (new : List Mapped) (hold : (q : PageId) (m : Mapped) → mapped_at q new ≡ Some m → Holds m (x.entries q)) where
    holds-then : (t : ℕ) (y : Site) (page : PageId) (m : Mapped) → (s ≡ t) ⊎ (s ≢ t) → slice_get h.world.sites t ≡ Some y → mapped_at page (at h.mapped s new t) ≡ Some m → Holds m (y.entries page)
    holds-then t y page m (inl here) e is =
        let site : x ≡ y = some-same x y (sym found ∙ (ap (slice_get h.world.sites) here ∙ e)) in
        let list : mapped_at page new ≡ Some m = ap (mapped_at page) (sym (at-same-place h.mapped s new)) ∙ (ap (λ i. mapped_at page (at h.mapped s new i)) here ∙ is) in
        subst (λ (z : Site). Holds m (z.entries page)) site (hold page m list)
    holds-then t y page m (inr there) e is = good.holds t y page m e (ap (mapped_at page) (sym (at-other-place h.mapped s t new there)) ∙ is)

    pub changed-holds : (t : ℕ) (y : Site) (page : PageId) (m : Mapped) → slice_get h.world.sites t ≡ Some y → mapped_at page (at h.mapped s new t) ≡ Some m → Holds m (y.entries page)
    changed-holds t y page m e is = holds-then t y page m (cases_eq s t) e is

    module _ (same : (q : PageId) → with_memory (mapped_at q new) (x.entries q) ≡ with_memory (mapped_at q (h.mapped s)) (x.entries q)) where
      changed-sites : joined_sites (at h.mapped s new) h.world.sites ≡ joined_sites h.mapped h.world.sites
      changed-sites =
          let here : joined new x ≡ joined (h.mapped s) x = ap (λ (f : PageId → Entry). record x { entries = f }) (fun_ext same) in
          joined-changed h.mapped h.world.sites s new x found
          ∙ (ap (slice_set (joined_sites h.mapped h.world.sites) s) here
          ∙ set-same (joined_sites h.mapped h.world.sites) s (joined (h.mapped s) x) (joined-get h.mapped h.world.sites s ∙ ap (joined_found (h.mapped s)) found))

      -- none of its bytes differ
      pub changed-good : Good o (record h { mapped = at h.mapped s new }) plain own
      changed-good = record {
        as_one = good.as_one ∙ ap (λ sites. record h.world { sites = sites }) (sym changed-sites);
        account = good.account;
        alone = good.alone;
        holds = changed-holds;
      }

-- a page that is mapped otherwise
module _ (f : PageId → Entry) (mapped : List Mapped) (m : Mapped) where
  remapped-memory-if : (q : PageId) (same : Bool) → same_page m.page q ≡ same → with_memory (Some m) (f m.page) ≡ with_memory (mapped_at m.page mapped) (f m.page)
      → with_memory (mapped_at q (remapped m mapped)) (f q) ≡ with_memory (mapped_at q mapped) (f q)
  remapped-memory-if q true is e =
      subst (λ p. with_memory (mapped_at p (remapped m mapped)) (f p) ≡ with_memory (mapped_at p mapped) (f p)) (page-same m.page q is)
      (ap (λ k. with_memory k (f m.page)) (remapped-here m mapped) ∙ e)
  remapped-memory-if q false is e = ap (λ k. with_memory k (f q)) (remapped-there m q mapped is)

  pub remapped-memory : with_memory (Some m) (f m.page) ≡ with_memory (mapped_at m.page mapped) (f m.page) → (q : PageId)
      → with_memory (mapped_at q (remapped m mapped)) (f q) ≡ with_memory (mapped_at q mapped) (f q)
  remapped-memory e q = remapped-memory-if q (same_page m.page q) refl e

  remapped-holds-if : (q : PageId) (k : Mapped) (same : Bool) → same_page m.page q ≡ same → Holds m (f m.page) → (mapped_at q mapped ≡ Some k → Holds k (f q))
      → mapped_at q (remapped m mapped) ≡ Some k → Holds k (f q)
  remapped-holds-if q k true is here old e =
      let page : m.page ≡ q = page-same m.page q is in
      let one : m ≡ k = some-same m k (sym (remapped-here m mapped) ∙ (ap (λ p. mapped_at p (remapped m mapped)) page ∙ e)) in
      subst (λ p. Holds k (f p)) page (subst (λ z. Holds z (f m.page)) one here)
  remapped-holds-if q k false is here old e = old (sym (remapped-there m q mapped is) ∙ e)

  pub remapped-holds : Holds m (f m.page) → ((q : PageId) (k : Mapped) → mapped_at q mapped ≡ Some k → Holds k (f q)) → (q : PageId) (k : Mapped)
      → mapped_at q (remapped m mapped) ≡ Some k → Holds k (f q)
  remapped-holds here old q k e = remapped-holds-if q k (same_page m.page q) refl here (old q k) e

module _ (f : PageId → Entry) (mapped : List Mapped) (page : PageId) where
  unmapped-memory-if : (q : PageId) (same : Bool) → same_page page q ≡ same → f page ≡ with_memory (mapped_at page mapped) (f page)
      → with_memory (mapped_at q (unmapped page mapped)) (f q) ≡ with_memory (mapped_at q mapped) (f q)
  unmapped-memory-if q true is e =
      subst (λ p. with_memory (mapped_at p (unmapped page mapped)) (f p) ≡ with_memory (mapped_at p mapped) (f p)) (page-same page q is)
      (ap (λ k. with_memory k (f page)) (unmapped-here page mapped) ∙ e)
  unmapped-memory-if q false is e = ap (λ k. with_memory k (f q)) (unmapped-there page q mapped is)

  pub unmapped-memory : f page ≡ with_memory (mapped_at page mapped) (f page) → (q : PageId) → with_memory (mapped_at q (unmapped page mapped)) (f q) ≡ with_memory (mapped_at q mapped) (f q)
  unmapped-memory e q = unmapped-memory-if q (same_page page q) refl e

  unmapped-holds-if : (q : PageId) (k : Mapped) (same : Bool) → same_page page q ≡ same → (mapped_at q mapped ≡ Some k → Holds k (f q)) → mapped_at q (unmapped page mapped) ≡ Some k → Holds k (f q)
  unmapped-holds-if q k true is old e =
      absurd (none-some k (sym (unmapped-here page mapped) ∙ (ap (λ p. mapped_at p (unmapped page mapped)) (page-same page q is) ∙ e)))
  unmapped-holds-if q k false is old e = old (sym (unmapped-there page q mapped is) ∙ e)

  pub unmapped-holds : ((q : PageId) (k : Mapped) → mapped_at q mapped ≡ Some k → Holds k (f q)) → (q : PageId) (k : Mapped) → mapped_at q (unmapped page mapped) ≡ Some k → Holds k (f q)
  unmapped-holds old q k e = unmapped-holds-if q k (same_page page q) refl (old q k) e
