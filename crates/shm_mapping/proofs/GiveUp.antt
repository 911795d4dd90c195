-- A mapping to write is given up: its stores are the site's, and the joined world is as it was.
use Rattle.std.proofs.Common.{◌≡◌, ◌≢◌, ℕ, ◌⊎◌, inl, inr, Bool, true, false, not, List, [], ◌++◌, Option, Some, None, length, refl, sym, ap, ◌∙◌, subst, if◌then◌else◌, slice_get, slice_set}
use Rattle.std.proofs.Math.Path.{fun_ext}
use Rattle.std.proofs.lemmas.Bool.{cases_eq}
use Rattle.std.proofs.lemmas.List.{append-nil}
use Rattle.shm_place.specs.declared.page_id.PageId.{PageId}
use Rattle.shm_place.specs.Limits.{page_bytes}
use Rattle.shm_place.specs.Page.{same_page}
use Rattle.shm_model.specs.declared.event.Event.{Event}
use Rattle.shm_model.specs.declared.request_kind.Kind.{Kind}
use Rattle.shm_model.specs.declared.request_kind.Kind.TheVariants.{Read, Write}
use Rattle.shm_model.specs.Basics.{at}
use Rattle.shm_model.specs.Book.{is_write}
use Rattle.shm_model.specs.Entry.{Entry, Nil, Copy, OwnRead, OwnWrite, Handed, bytes, readable, seen, writable}
use Rattle.shm_model.specs.Site.{Site}
use Rattle.shm_model.specs.World.{IsOpening, Opening, Run, World, begun, is_full, run}
use Rattle.shm_laws.proofs.Page.Entry.{false-true}
use Rattle.shm_laws.proofs.Page.Moves.{page-same}
use Rattle.shm_laws.proofs.Move.Transfer.{at-page-here}
use Rattle.shm_laws.proofs.Run.GoesOn.{run_on-append, slice_get-set_same}
use Rattle.shm_laws.proofs.Sound.{set-there}
use Rattle.shm_mapping.specs.Mapped.{Mapped, allows, joined, mapped_at, with_bytes, with_memory}
use Rattle.shm_mapping.specs.Hosts.{Hosts, after_events, gives_up, gives_up_write, has_page, left_mapped, left_of_read, nothing, stores_back}
use Rattle.shm_mapping.specs.Programs.{joined_sites}
use Rattle.shm_mapping.proofs.Joined.{by_kind, found-page}
use Rattle.shm_mapping.proofs.Worlds.{joined-get, joined-set, joined_found, set-same}
use Rattle.shm_mapping.proofs.Bring.{stores-bring, written}
use Rattle.shm_mapping.proofs.Good.{Good, Holds, Went, allows-readable, now-of-run, nothing-went, quiet-went, run_on-world}
use Rattle.shm_mapping.proofs.Mapping.{read-left, remap-good, unmap-good}

some-same : {X : Type 0} (x y : X) → Some x ≡ Some y → x ≡ y
some-same x y e = cc

own-write : (e : Entry) → writable e ≡ true → e ≡ OwnWrite (seen e) (bytes e)
own-write (Nil m) w = absurd (false-true w)
own-write (Copy m b) w = absurd (false-true w)
own-write (OwnRead m b) w = absurd (false-true w)
own-write (OwnWrite m b) w = refl
own-write (Handed m to b) w = absurd (false-true w)

pub write-is : (kind : Kind) → is_write kind ≡ true → kind ≡ Write
write-is Read e = absurd (false-true e)
write-is Write e = refl

module _ (o : Opening) (is : IsOpening o) (h : Hosts) (plain own : List Event) (good : Good o h plain own) (s a : ℕ) (x : Site) (page : PageId) (m : Mapped)
    (there : slice_get h.world.sites s ≡ Some x) (room : is_full h.world ≡ false) (has : has_page x a page true ≡ true)
    (found : mapped_at page (h.mapped s) ≡ Some m) (write : m.kind ≡ Write) where
  abbrev e : Entry
  e = x.entries page

  may-write : writable e ≡ true
  may-write = subst (λ k. allows k e ≡ true) write (good.holds s x page m there found).allowed

  abbrev n : ℕ
  n = seen e

  entry-is : e ≡ OwnWrite n (bytes e)
  entry-is = own-write e may-write

  -- the page with the machine's bytes
  with-mine : (y : Entry) → with_memory (mapped_at page (h.mapped s)) y ≡ with_bytes m.memory y
  with-mine y = ap (λ k. with_memory k y) found ∙ ap (λ k. by_kind k m.memory y) write

  mine-is : with_memory (mapped_at page (h.mapped s)) e ≡ OwnWrite n m.memory
  mine-is = with-mine e ∙ ap (with_bytes m.memory) entry-is

  old-long : length (bytes e) ≡ page_bytes
  old-long =
      (now-of-run o own is page s x (ap (λ (w : World). slice_get w.sites s) good.alone ∙ there) (allows-readable Write e may-write)).whole

  memory-long : length m.memory ≡ page_bytes
  memory-long =
      let at_it : slice_get (run o plain).world.sites s ≡ Some (joined (h.mapped s) x) =
      ap (λ (w : World). slice_get w.sites s) good.as_one ∙ (joined-get h.mapped h.world.sites s ∙ ap (joined_found (h.mapped s)) there) in
      ap (λ y. length (bytes y)) (sym mine-is) ∙ (now-of-run o plain is page s (joined (h.mapped s) x) at_it (ap readable mine-is)).whole

  abbrev stores : List Event
  stores = stores_back s a page (bytes e) m.memory

  abbrev new : Site
  new = written h.world s a page x n m.memory there room has m.memory

  brought : after_events h.world stores ≡ record h.world { sites = slice_set h.world.sites s new }
  brought = stores-bring h.world s a page x n m.memory there room has (bytes e) entry-is old-long memory-long

  new-page : new.entries page ≡ OwnWrite n m.memory
  new-page = at-page-here x.entries page (OwnWrite n m.memory)

  joined-if : (q : PageId) (same : Bool) → same_page page q ≡ same
      → with_memory (mapped_at q (h.mapped s)) (if same then OwnWrite n m.memory else x.entries q) ≡ with_memory (mapped_at q (h.mapped s)) (x.entries q)
  joined-if q true i =
      subst (λ p. with_memory (mapped_at p (h.mapped s)) (OwnWrite n m.memory) ≡ with_memory (mapped_at p (h.mapped s)) (x.entries p)) (page-same page q i) (with-mine (OwnWrite n m.memory) ∙ sym mine-is)
  joined-if q false i = refl

  joined-new : joined (h.mapped s) new ≡ joined (h.mapped s) x
  joined-new = ap (λ (f : PageId → Entry). record x { entries = f }) (fun_ext (λ q. joined-if q (same_page page q) refl))

  abbrev brought_world : World
  brought_world = record h.world { sites = slice_set h.world.sites s new }

  joined-brought : joined_sites h.mapped (slice_set h.world.sites s new) ≡ joined_sites h.mapped h.world.sites
  joined-brought =
      joined-set h.mapped h.world.sites s new
      ∙ (ap (slice_set (joined_sites h.mapped h.world.sites) s) joined-new
      ∙ set-same (joined_sites h.mapped h.world.sites) s (joined (h.mapped s) x) (joined-get h.mapped h.world.sites s ∙ ap (joined_found (h.mapped s)) there))

  holds-if : (q : PageId) (k : Mapped) (same : Bool) → same_page page q ≡ same → mapped_at q (h.mapped s) ≡ Some k → Holds k (if same then OwnWrite n m.memory else x.entries q)
  holds-if q k true i f =
      let one : m ≡ k = some-same m k (sym found ∙ (ap (λ p. mapped_at p (h.mapped s)) (page-same page q i) ∙ f)) in
      subst (λ z. Holds z (OwnWrite n m.memory)) one (record {
        allowed = ap (λ k. allows k (OwnWrite n m.memory)) write;
        memory = sym (ap (λ k. bytes (by_kind k m.memory (OwnWrite n m.memory))) write);
      })
  holds-if q k false i f = good.holds s x q k there f

  holds-brought : (t : ℕ) (y : Site) (q : PageId) (k : Mapped) → (t ≡ s) ⊎ (t ≢ s) → slice_get (slice_set h.world.sites s new) t ≡ Some y → mapped_at q (h.mapped t) ≡ Some k → Holds k (y.entries q)
  holds-brought t y q k (inl same) f g =
      let site_is : new ≡ y = some-same new y (sym (slice_get-set_same h.world.sites s x new there) ∙ (ap (slice_get (slice_set h.world.sites s new)) (sym same) ∙ f)) in
      subst (λ (z : Site). Holds k (z.entries q)) site_is (holds-if q k (same_page page q) refl (ap (λ i. mapped_at q (h.mapped i)) (sym same) ∙ g))
  holds-brought t y q k (inr other) f g = good.holds t y q k (sym (set-there h.world.sites s t new other) ∙ f) g

  brought-good : Good o (record h { world = brought_world }) plain (own ++ stores)
  brought-good = record {
    as_one = good.as_one ∙ ap (λ sites. record h.world { sites = sites }) (sym joined-brought);
    account = good.account;
    alone = ap (λ (r : Run). r.world) (run_on-append (begun o) own stores) ∙ (run_on-world (run o own) stores ∙ (ap (λ w. after_events w stores) good.alone ∙ brought));
    holds = λ t y q k f g. holds-brought t y q k (cases_eq t s) f g;
  }

  there-new : slice_get brought_world.sites s ≡ Some new
  there-new = slice_get-set_same h.world.sites s x new there

  new-joined : with_memory (mapped_at page (h.mapped s)) (new.entries page) ≡ OwnWrite n m.memory
  new-joined = ap (with_memory (mapped_at page (h.mapped s))) new-page ∙ with-mine (OwnWrite n m.memory)

  left-same : (kind : Kind) → by_kind kind m.memory (OwnWrite n m.memory) ≡ OwnWrite n m.memory
  left-same Read = refl
  left-same Write = refl

  left-allowed : (kind : Kind) → allows kind (OwnWrite n m.memory) ≡ true
  left-allowed Read = refl
  left-allowed Write = refl

  left-good : (left : Option Kind) → Good o (record h { world = brought_world; mapped = at h.mapped s (left_mapped left page m (h.mapped s)) }) plain (own ++ stores)
  left-good None = unmap-good o is (record h { world = brought_world }) plain (own ++ stores) brought-good s new there-new page (new-page ∙ sym new-joined)
  left-good (Some kind) =
      let k : Mapped = record m { kind = kind } in
      let at_it : page ≡ m.page = sym (found-page page (h.mapped s) m found) in
      let same : with_memory (Some k) (new.entries page) ≡ with_memory (mapped_at page (h.mapped s)) (new.entries page) = ap (by_kind kind m.memory) new-page ∙ (left-same kind ∙ sym new-joined) in
      let hold : Holds k (new.entries page) = subst (λ y. Holds k y) (sym new-page) (record { allowed = left-allowed kind; memory = sym (ap bytes (left-same kind)) }) in
      remap-good o is (record h { world = brought_world }) plain (own ++ stores) brought-good s new there-new k
      (subst (λ p. with_memory (Some k) (new.entries p) ≡ with_memory (mapped_at p (h.mapped s)) (new.entries p)) at_it same) (subst (λ p. Holds k (new.entries p)) at_it hold)

  pub give-up-write : (left : Option Kind) → Went o plain own (gives_up_write h s page left m stores)
  give-up-write left =
      subst (λ p. Good o (record h { world = after_events h.world stores; mapped = at h.mapped s (left_mapped left page m (h.mapped s)) }) p (own ++ stores)) (sym (append-nil plain))
      (subst (λ w. Good o (record h { world = w; mapped = at h.mapped s (left_mapped left page m (h.mapped s)) }) plain (own ++ stores)) (sym brought) (left-good left))

module _ (o : Opening) (is : IsOpening o) (h : Hosts) (plain own : List Event) (good : Good o h plain own) (s a : ℕ) (x : Site) (page : PageId) (left : Option Kind)
    (there : slice_get h.world.sites s ≡ Some x) (room : is_full h.world ≡ false) where
  has-if : (m : Mapped) (has : Bool) → has_page x a page true ≡ has → mapped_at page (h.mapped s) ≡ Some m → m.kind ≡ Write
      → Went o plain own (if has then gives_up_write h s page left m (stores_back s a page (bytes (x.entries page)) m.memory) else nothing h)
  has-if m true has found write = give-up-write o is h plain own good s a x page m there room has found write left
  has-if m false has found write = nothing-went o h plain own good

  write-if : (m : Mapped) (write : Bool) → is_write m.kind ≡ write → mapped_at page (h.mapped s) ≡ Some m
      → Went o plain own (if not write then record { hosts = record h { mapped = at h.mapped s (left_of_read left page (h.mapped s)) }; plain = []; own = [] }
      else if has_page x a page true then gives_up_write h s page left m (stores_back s a page (bytes (x.entries page)) m.memory) else nothing h)
  write-if m true w found = has-if m (has_page x a page true) refl found (write-is m.kind w)
  write-if m false w found = quiet-went o h plain own good _ (read-left o is h plain own good s x there page left m found w)

  pub give-up-went : (m : Option Mapped) → mapped_at page (h.mapped s) ≡ m → Went o plain own (gives_up h s a page left (Some x) m)
  give-up-went None found = nothing-went o h plain own good
  give-up-went (Some m) found = write-if m (is_write m.kind) refl found
