-- Mapping a page changes no byte, nor does giving a mapping up: what was stored to the machine's memory is the site's then.
use Rattle.std.proofs.Common.{◌≡◌, ℕ, Bool, true, false, ◌&&◌, List, [], Option, Some, None, refl, sym, ap, ◌∙◌, subst, if◌then◌else◌, slice_get}
use Rattle.std.proofs.lemmas.Bool.{and_parts}
use Rattle.shm_place.specs.declared.page_id.PageId.{PageId}
use Rattle.shm_model.specs.declared.event.Event.{Event}
use Rattle.shm_model.specs.declared.request_kind.Kind.{Kind}
use Rattle.shm_model.specs.declared.request_kind.Kind.TheVariants.{Read, Write}
use Rattle.shm_model.specs.Basics.{at}
use Rattle.shm_model.specs.Book.{is_write}
use Rattle.shm_model.specs.Entry.{Entry, Nil, Copy, OwnRead, OwnWrite, Handed, bytes}
use Rattle.shm_model.specs.Site.{Site}
use Rattle.shm_model.specs.World.{IsOpening, Opening, World, is_full}
use Rattle.shm_laws.proofs.Page.Entry.{false-true}
use Rattle.shm_mapping.specs.Mapped.{Mapped, allows, mapped_at, remapped, unmapped, with_bytes, with_memory}
use Rattle.shm_mapping.specs.Hosts.{Hosts, has_page, left_of_read, live_site, mapped_for, maps, nothing}
use Rattle.shm_mapping.proofs.Joined.{by_kind, found-page}
use Rattle.shm_mapping.proofs.Good.{Good, Holds, Went, changed-good, nothing-went, quiet-went, remapped-holds, remapped-memory, unmapped-holds, unmapped-memory}

some-same : {X : Type 0} (x y : X) → Some x ≡ Some y → x ≡ y
some-same x y e = cc

none-some : {X : Type 0} (x : X) → None ≡ Some x → ⊥
none-some x e = cc

-- a site that may be stepped
live-if : (found : Option Site) (x : Site) (full : Bool) → (if full then None else found) ≡ Some x → (full ≡ false) × (found ≡ Some x)
live-if found x true e = absurd (none-some x e)
live-if found x false e = (refl, e)

pub live-is : (w : World) (s : ℕ) (x : Site) → live_site w s ≡ Some x → (is_full w ≡ false) × (slice_get w.sites s ≡ Some x)
live-is w s x e = live-if (slice_get w.sites s) x (is_full w) e

-- the bytes that are there already
own-bytes : (e : Entry) → with_bytes (bytes e) e ≡ e
own-bytes (Nil n) = refl
own-bytes (Copy n b) = refl
own-bytes (OwnRead n b) = refl
own-bytes (OwnWrite n b) = refl
own-bytes (Handed n to b) = refl

pub kind-bytes : (kind : Kind) (memory : List ℕ) (e : Entry) → memory ≡ bytes e → by_kind kind memory e ≡ e
kind-bytes Read memory e is = refl
kind-bytes Write memory e is = ap (λ b. with_bytes b e) is ∙ own-bytes e

fresh-holds : (kind : Kind) (page : PageId) (e : Entry) → allows kind e ≡ true → Holds (record { page = page; kind = kind; memory = bytes e }) e
fresh-holds kind page e a = record { allowed = a; memory = ap bytes (sym (kind-bytes kind (bytes e) e refl)) }

-- what is mapped already, where more is asked
abbrev asked_for : Kind → Kind → PageId → List ℕ → Mapped
asked_for kind old page memory = if is_write old then record { page = page; kind = old; memory = memory } else record { page = page; kind = kind; memory = memory }

more-same : (kind old : Kind) (page : PageId) (memory : List ℕ) (e : Entry) → memory ≡ bytes (by_kind old memory e)
    → with_memory (Some (asked_for kind old page memory)) e ≡ by_kind old memory e
more-same kind Read page memory e is = kind-bytes kind memory e is
more-same kind Write page memory e is = refl

more-holds : (kind old : Kind) (page : PageId) (memory : List ℕ) (e : Entry) → allows kind e ≡ true → allows old e ≡ true → memory ≡ bytes (by_kind old memory e)
    → Holds (asked_for kind old page memory) e
more-holds kind Read page memory e a b is = record { allowed = a; memory = is ∙ ap bytes (sym (kind-bytes kind memory e is)) }
more-holds kind Write page memory e a b is = record { allowed = b; memory = is }

more-page : (kind old : Kind) (page : PageId) (memory : List ℕ) → (asked_for kind old page memory).page ≡ page
more-page kind Read page memory = refl
more-page kind Write page memory = refl

module _ (kind : Kind) (page : PageId) (e : Entry) (a : allows kind e ≡ true) where
  for-page : (old : Option Mapped) → ((m : Mapped) → old ≡ Some m → m.page ≡ page) → (mapped_for kind page e old).page ≡ page
  for-page None f = refl
  for-page (Some m) f = more-page kind m.kind m.page m.memory ∙ f m refl

  for-same : (old : Option Mapped) → ((m : Mapped) → old ≡ Some m → Holds m e) → with_memory (Some (mapped_for kind page e old)) e ≡ with_memory old e
  for-same None f = kind-bytes kind (bytes e) e refl
  for-same (Some m) f = more-same kind m.kind m.page m.memory e (f m refl).memory

  for-holds : (old : Option Mapped) → ((m : Mapped) → old ≡ Some m → Holds m e) → Holds (mapped_for kind page e old) e
  for-holds None f = fresh-holds kind page e a
  for-holds (Some m) f = more-holds kind m.kind m.page m.memory e a (f m refl).allowed (f m refl).memory

module _ (o : Opening) (is : IsOpening o) (h : Hosts) (plain own : List Event) (good : Good o h plain own) (s : ℕ) (x : Site) (there : slice_get h.world.sites s ≡ Some x) where
  holds-here : (q : PageId) (m : Mapped) → mapped_at q (h.mapped s) ≡ Some m → Holds m (x.entries q)
  holds-here q m e = good.holds s x q m there e

  -- the page is mapped so from now on
  pub remap-good : (m : Mapped) → with_memory (Some m) (x.entries m.page) ≡ with_memory (mapped_at m.page (h.mapped s)) (x.entries m.page) → Holds m (x.entries m.page)
      → Good o (record h { mapped = at h.mapped s (remapped m (h.mapped s)) }) plain own
  remap-good m same hold =
      changed-good o h plain own good s x there (remapped m (h.mapped s)) (remapped-holds x.entries (h.mapped s) m hold holds-here) (remapped-memory x.entries (h.mapped s) m same)

  pub unmap-good : (page : PageId) → x.entries page ≡ with_memory (mapped_at page (h.mapped s)) (x.entries page) → Good o (record h { mapped = at h.mapped s (unmapped page (h.mapped s)) }) plain own
  unmap-good page same =
      changed-good o h plain own good s x there (unmapped page (h.mapped s)) (unmapped-holds x.entries (h.mapped s) page holds-here) (unmapped-memory x.entries (h.mapped s) page same)

  map-good : (page : PageId) (kind : Kind) → allows kind (x.entries page) ≡ true
      → Good o (record h { mapped = at h.mapped s (remapped (mapped_for kind page (x.entries page) (mapped_at page (h.mapped s))) (h.mapped s)) }) plain own
  map-good page kind a =
      let new : Mapped = mapped_for kind page (x.entries page) (mapped_at page (h.mapped s)) in
      let at_it : new.page ≡ page = for-page kind page (x.entries page) a (mapped_at page (h.mapped s)) (λ m e. found-page page (h.mapped s) m e) in
      let same = for-same kind page (x.entries page) a (mapped_at page (h.mapped s)) (holds-here page) in
      let hold = for-holds kind page (x.entries page) a (mapped_at page (h.mapped s)) (holds-here page) in
      remap-good new (subst (λ p. with_memory (Some new) (x.entries p) ≡ with_memory (mapped_at p (h.mapped s)) (x.entries p)) (sym at_it) same) (subst (λ p. Holds new (x.entries p)) (sym at_it) hold)

  map-if : (page : PageId) (kind : Kind) (may : Bool) → (may ≡ true → allows kind (x.entries page) ≡ true)
      → Went o plain own (if may
      then record { hosts = record h { mapped = at h.mapped s (remapped (mapped_for kind page (x.entries page) (mapped_at page (h.mapped s))) (h.mapped s)) }; plain = []; own = [] }
      else nothing h)
  map-if page kind true a = quiet-went o h plain own good _ (map-good page kind (a refl))
  map-if page kind false a = nothing-went o h plain own good

  pub map-went : (a : ℕ) (page : PageId) (kind : Kind) → Went o plain own (maps h s a page kind (Some x))
  map-went a page kind =
      map-if page kind (has_page x a page (is_write kind) && allows kind (x.entries page)) (λ e. (and_parts (has_page x a page (is_write kind)) (allows kind (x.entries page)) e).1)

  -- what is mapped to read is given up
  read-same : (kind : Kind) (memory : List ℕ) (e : Entry) → is_write kind ≡ false → e ≡ by_kind kind memory e
  read-same Read memory e r = refl
  read-same Write memory e r = absurd (false-true (sym r))

  pub read-left : (page : PageId) (left : Option Kind) (m : Mapped) → mapped_at page (h.mapped s) ≡ Some m → is_write m.kind ≡ false
      → Good o (record h { mapped = at h.mapped s (left_of_read left page (h.mapped s)) }) plain own
  read-left page None m e r = unmap-good page (read-same m.kind m.memory (x.entries page) r ∙ ap (λ k. with_memory k (x.entries page)) (sym e))
  read-left page (Some kind) m e r = changed-good o h plain own good s x there (h.mapped s) holds-here (λ q. refl)
