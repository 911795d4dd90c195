-- A mapping that holds, and what keeps it so: its attachment, and the site's right to its page.
use Rattle.std.proofs.Common.{◌≡◌, ℕ, ◌*◌, Bool, true, false, List, [], ◌∷◌, ◌&&◌, ◌||◌, Option, Some, None, Result, Ok, Err, cond, refl, sym, ap, ◌∙◌, subst, arith, nat_lt, map}
use Rattle.std.specs.List.{cons_option, find, list_all, list_any}
use Rattle.std.proofs.lemmas.Bool.{and_parts}
use Rattle.std.proofs.lemmas.Bool.Decides.{nat_tests}
use Rattle.std.proofs.lemmas.List.Folds.{list_all-append}
use Rattle.shm_place.specs.declared.page_id.PageId.{PageId}
use Rattle.shm_place.specs.Limits.{page_bytes}
use Rattle.shm_place.specs.Offset.{index_of, rounded}
use Rattle.shm_place.specs.Page.{same_page}
use Rattle.shm_model.specs.declared.request_kind.Kind.{Kind}
use Rattle.shm_model.specs.declared.request_kind.Kind.TheVariants.{Read, Write}
use Rattle.shm_model.specs.Access.{Place, place_in, right_through}
use Rattle.shm_model.specs.Book.{is_write}
use Rattle.shm_model.specs.Calls.{Attachment}
use Rattle.shm_model.specs.Entry.{Entry, Nil, Copy, OwnRead, OwnWrite, Handed}
use Rattle.shm_model.specs.Site.{Site, is_attached}
use Rattle.shm_laws.proofs.Page.Entry.{false-true}
use Rattle.shm_laws.proofs.Page.Moves.{page-same}
use Rattle.shm_mapping.specs.Hosts.{is_place_in}
use Rattle.shm_mapping.specs.Mapped.{allows}
use Rattle.shm_mapping.specs.Verdicts.{may_map}
use Rattle.shm_wire.specs.declared.mapping_text.Mapping.{Mapping}
use Rattle.shm_process.specs.Mapped.{as_mapped, kept_as, left_of, lowered, mapped_at, mapped_for, remapped}
use Rattle.shm_process.specs.Node.{Node}
use Rattle.shm_kept.specs.Kept.{AreNumbered, IsKept, is_through}
use Rattle.shm_kept.proofs.Attachments.{names-segment}

-- its attachment has the page, and the site the right to it
abbrev pub holds : Site → Mapping → Bool
holds site m = is_through site m && allows m.kind (site.entries m.page)

pub both : (x y : Bool) → x ≡ true → y ≡ true → (x && y) ≡ true
both x y e f = ap (λ b. b && y) e ∙ f

-- ---- lists

pub each-more : (p q r : Mapping → Bool) → ((m : Mapping) → r m ≡ false → p m ≡ true → q m ≡ true) → (ms : List Mapping) → list_any r ms ≡ false
    → list_all p ms ≡ true → list_all q ms ≡ true
each-more p q r more [] none e = refl
each-more p q r more (m ∷ ms) none e =
    let parts = and_parts (p m) (list_all p ms) e in
    let here = first-none (r m) (list_any r ms) none in
    both (q m) (list_all q ms) (more m here.0 parts.0) (each-more p q r more ms here.1 parts.1)
  where
    first-none : (a b : Bool) → (a || b) ≡ false → (a ≡ false) × (b ≡ false)
    first-none true b h = absurd (false-true (sym h))
    first-none false b h = (refl, h)

pub none-any : (r : Mapping → Bool) → ((m : Mapping) → r m ≡ false) → (ms : List Mapping) → list_any r ms ≡ false
none-any r none [] = refl
none-any r none (m ∷ ms) = ap (λ b. b || list_any r ms) (none m) ∙ none-any r none ms

found-if : (r : Mapping → Bool) (b : Bool) (m : Mapping) (ms : List Mapping) → r m ≡ b → cond b (Some m) (find r ms) ≡ None
    → (find r ms ≡ None → list_any r ms ≡ false) → (r m || list_any r ms) ≡ false
found-if r true m ms is e later = absurd (cc)
found-if r false m ms is e later = ap (λ b. b || list_any r ms) is ∙ later e

pub not-found : (r : Mapping → Bool) (ms : List Mapping) → find r ms ≡ None → list_any r ms ≡ false
not-found r [] e = refl
not-found r (m ∷ ms) e = found-if r (r m) m ms refl e (not-found r ms)

found-all : (p r : Mapping → Bool) (b : Bool) (m old : Mapping) (ms : List Mapping) → cond b (Some m) (find r ms) ≡ Some old → p m ≡ true
    → (find r ms ≡ Some old → p old ≡ true) → p old ≡ true
found-all p r true m old ms e here later = let same : m ≡ old = cc in subst (λ x. p x ≡ true) same here
found-all p r false m old ms e here later = later e

pub all-found : (p r : Mapping → Bool) (ms : List Mapping) (old : Mapping) → list_all p ms ≡ true → find r ms ≡ Some old → p old ≡ true
all-found p r [] old each e = absurd (cc)
all-found p r (m ∷ ms) old each e =
    let parts = and_parts (p m) (list_all p ms) each in found-all p r (r m) m old ms e parts.0 (all-found p r ms old parts.1)

-- ---- through an attachment

abbrev reach : Option Attachment → ℕ → Bool → PageId → Bool
reach found offset stores page = is_place_in page (right_through found offset stores)

-- who stands with the attachment reaches the page
reach-stays : (found new : Option Attachment) (offset : ℕ) (stores : Bool) (page : PageId) → ((x : Attachment) → found ≡ Some x → new ≡ Some x)
    → reach found offset stores page ≡ true → reach new offset stores page ≡ true
reach-stays None new offset stores page stays e = absurd (false-true e)
reach-stays (Some x) new offset stores page stays e = ap (λ f. reach f offset stores page) (stays x refl) ∙ e

pub through-stays : (old new : Site) (m : Mapping) → ((x : Attachment) → old.attachments m.at ≡ Some x → new.attachments m.at ≡ Some x)
    → is_through old m ≡ true → is_through new m ≡ true
through-stays old new m stays e = reach-stays (old.attachments m.at) (new.attachments m.at) (m.page.index * page_bytes) (is_write m.kind) m.page stays e

-- whoever may store may load there
reach-if : (stores ro inside : Bool) (a b : ℕ) (place : Place) (page : PageId)
    → is_place_in page (cond (stores && ro) (Err a) (cond inside (Ok place) (Err b))) ≡ true
    → is_place_in page (cond inside (Ok place) (Err b)) ≡ true
reach-if true true inside a b place page e = absurd (false-true e)
reach-if true false inside a b place page e = e
reach-if false ro inside a b place page e = e

reach-lower : (found : Option Attachment) (offset : ℕ) (stores : Bool) (page : PageId) → reach found offset stores page ≡ true → reach found offset false page ≡ true
reach-lower None offset stores page e = e
reach-lower (Some x) offset stores page e = reach-if stores x.ro (nat_lt offset (rounded x.size)) _ _ (place_in x offset) page e

-- the attachment names the page's segment
inside-is : (inside : Bool) (b : ℕ) (place : Place) (page : PageId) → is_place_in page (cond inside (Ok place) (Err b)) ≡ true → place.page ≡ page
inside-is true b place page e = page-same place.page page e
inside-is false b place page e = absurd (false-true e)

reach-names : (found : Option Attachment) (offset : ℕ) (stores : Bool) (page : PageId) → reach found offset stores page ≡ true
    → (x : Attachment) × (found ≡ Some x) × (x.id ≡ page.seg)
reach-names None offset stores page e = absurd (false-true e)
reach-names (Some x) offset stores page e =
    let lower = reach-lower (Some x) offset stores page e in
    (x, refl, ap (λ (p : PageId). p.seg) (inside-is (nat_lt offset (rounded x.size)) _ (place_in x offset) page lower))

pub through-attached : (site : Site) (m : Mapping) → AreNumbered site → is_through site m ≡ true → is_attached site m.page.seg ≡ true
through-attached site m numbered e =
    let named = reach-names (site.attachments m.at) (m.page.index * page_bytes) (is_write m.kind) m.page e in
    ap (is_attached site) (sym named.2) ∙ names-segment site m.at named.0 numbered named.1

-- ---- a place that is reached is in a page that is reached

index-again : (offset : ℕ) → index_of (index_of offset * page_bytes) ≡ index_of offset
index-again offset = omega arith

index-low : (offset size : ℕ) → nat_lt offset size ≡ true → nat_lt (index_of offset * page_bytes) size ≡ true
index-low offset size h = grind (arith, nat_tests)

page-again : (x : Attachment) (offset : ℕ) → same_page (place_in x (index_of offset * page_bytes)).page (place_in x offset).page ≡ true
page-again x offset = let same = index-again offset in grind (arith, nat_tests)

ok-is : (a b : Place) → ◌≡◌ {A = Result Place ℕ} (Ok a) (Ok b) → a ≡ b
ok-is a b e = cc

inside-again : (x : Attachment) (offset : ℕ) (refused inside : Bool) (a b : ℕ) (place : Place) → nat_lt offset (rounded x.size) ≡ inside
    → cond refused (Err a) (cond inside (Ok (place_in x offset)) (Err b)) ≡ Ok place
    → is_place_in place.page (cond refused (Err a) (cond (nat_lt (place.page.index * page_bytes) (rounded x.size)) (Ok (place_in x (place.page.index * page_bytes))) (Err b))) ≡ true
inside-again x offset true inside a b place is e = absurd (cc)
inside-again x offset false false a b place is e = absurd (cc)
inside-again x offset false true a b place is e =
    subst (λ (p : Place). is_place_in p.page (cond (nat_lt (p.page.index * page_bytes) (rounded x.size)) (Ok (place_in x (p.page.index * page_bytes))) (Err b)) ≡ true)
    (ok-is (place_in x offset) place e)
    (ap (λ c. is_place_in (place_in x offset).page (cond c (Ok (place_in x (index_of offset * page_bytes))) (Err b))) (index-low offset (rounded x.size) is)
    ∙ page-again x offset)

pub reach-again : (found : Option Attachment) (offset : ℕ) (stores : Bool) (place : Place) → right_through found offset stores ≡ Ok place
    → is_place_in place.page (right_through found (place.page.index * page_bytes) stores) ≡ true
reach-again None offset stores place e = absurd (cc)
reach-again (Some x) offset stores place e = inside-again x offset (stores && x.ro) (nat_lt offset (rounded x.size)) _ _ place refl e

right-if : (ro inside : Bool) (a b : ℕ) (p place : Place) → cond ro (Err a) (cond inside (Ok p) (Err b)) ≡ Ok place → cond inside (Ok p) (Err b) ≡ Ok place
right-if true inside a b p place e = absurd (cc)
right-if false inside a b p place e = e

pub right-lower : (found : Option Attachment) (offset : ℕ) (place : Place) → right_through found offset true ≡ Ok place → right_through found offset false ≡ Ok place
right-lower None offset place e = absurd (cc)
right-lower (Some x) offset place e = right-if x.ro (nat_lt offset (rounded x.size)) _ _ (place_in x offset) place e

-- ---- what is lowered, and what is mapped besides

pub allows-lower : (kind : Kind) (e : Entry) → allows kind e ≡ true → allows Read e ≡ true
allows-lower Read e a = a
allows-lower Write (Nil n) a = absurd (false-true a)
allows-lower Write (Copy n b) a = absurd (false-true a)
allows-lower Write (OwnRead n b) a = absurd (false-true a)
allows-lower Write (OwnWrite n b) a = refl
allows-lower Write (Handed n to b) a = absurd (false-true a)

module _ (site : Site) where
  to-read : (m : Mapping) → holds site m ≡ true → holds site (record m { kind = Read }) ≡ true
  to-read m e =
      let parts = and_parts (is_through site m) (allows m.kind (site.entries m.page)) e in
      both _ _ (reach-lower (site.attachments m.at) (m.page.index * page_bytes) (is_write m.kind) m.page parts.0) (allows-lower m.kind (site.entries m.page) parts.1)

  some-is : (x y : Mapping) → Some x ≡ Some y → x ≡ y
  some-is x y e = cc

  as-holds : (keeps : Option Kind) (m x : Mapping) → kept_as keeps m ≡ Some x → holds site m ≡ true → holds site x ≡ true
  as-holds None m x e h = absurd (cc)
  as-holds (Some Read) m x e h = subst (λ y. holds site y ≡ true) (some-is (record m { kind = Read }) x e) (to-read m h)
  as-holds (Some Write) m x e h = subst (λ y. holds site y ≡ true) (some-is m x e) h

  left-holds : (same : Bool) (keeps : Option Kind) (m x : Mapping) → cond same (kept_as keeps m) (Some m) ≡ Some x → holds site m ≡ true → holds site x ≡ true
  left-holds true keeps m x e h = as-holds keeps m x e h
  left-holds false keeps m x e h = subst (λ y. holds site y ≡ true) (some-is m x e) h

  with-option : (o : Option Mapping) (rest : List Mapping) → ((x : Mapping) → o ≡ Some x → holds site x ≡ true) → list_all (holds site) rest ≡ true
      → list_all (holds site) (cons_option o rest) ≡ true
  with-option None rest here later = later
  with-option (Some x) rest here later = both (holds site x) _ (here x refl) later

  pub lowered-holds : (keeps : Option Kind) (page : PageId) (ms : List Mapping) → list_all (holds site) ms ≡ true → list_all (holds site) (lowered page keeps ms) ≡ true
  lowered-holds keeps page [] e = refl
  lowered-holds keeps page (m ∷ ms) e =
      let parts = and_parts (holds site m) (list_all (holds site) ms) e in
      with-option (left_of page keeps m) (lowered page keeps ms) (λ x is. left-holds (same_page page m.page) keeps m x is parts.0) (lowered-holds keeps page ms parts.1)

  for-holds : (new : Mapping) (ms : List Mapping) (found : Option Mapping) → mapped_at new.page ms ≡ found → list_all (holds site) ms ≡ true
      → holds site new ≡ true → holds site (mapped_for new found) ≡ true
  for-holds new ms None is each e = e
  for-holds new ms (Some old) is each e = old-or (is_write old.kind) (all-found (holds site) (λ m. same_page new.page m.page) ms old each is)
    where
      old-or : (writes : Bool) → holds site old ≡ true → holds site (cond writes old new) ≡ true
      old-or true h = h
      old-or false h = e

  pub remapped-holds : (new : Mapping) (ms : List Mapping) → list_all (holds site) ms ≡ true → holds site new ≡ true → list_all (holds site) (remapped new ms) ≡ true
  remapped-holds new ms each e =
      let last = mapped_for new (mapped_at new.page ms) in
      list_all-append (holds site) (lowered new.page None ms) (last ∷ [])
      ∙ both _ _ (lowered-holds None new.page ms each) (both (holds site last) true (for-holds new ms (mapped_at new.page ms) refl each e) refl)

-- ---- a node whose mappings hold

pub record Good (site : Site) (mapped : List Mapping) : Type 0 where
  pub frames : site.frames ≡ None
  pub each : list_all (holds site) mapped ≡ true
  pub numbered : AreNumbered site

abbrev pub GoodNode : Node → Type 0
GoodNode node = Good node.site node.mapped

may-each : (site : Site) → AreNumbered site → (ms : List Mapping) → list_all (holds site) ms ≡ true → list_all (may_map site) (map as_mapped ms) ≡ true
may-each site numbered [] e = refl
may-each site numbered (m ∷ ms) e =
    let here = and_parts (holds site m) (list_all (holds site) ms) e in
    let parts = and_parts (is_through site m) (allows m.kind (site.entries m.page)) here.0 in
    both (may_map site (as_mapped m)) _ (both _ _ (through-attached site m numbered parts.0) parts.1) (may-each site numbered ms here.1)

through-each : (site : Site) (ms : List Mapping) → list_all (holds site) ms ≡ true → list_all (is_through site) ms ≡ true
through-each site [] e = refl
through-each site (m ∷ ms) e =
    let here = and_parts (holds site m) (list_all (holds site) ms) e in
    let parts = and_parts (is_through site m) (allows m.kind (site.entries m.page)) here.0 in
    both (is_through site m) _ parts.0 (through-each site ms here.1)

pub good-kept : (node : Node) → GoodNode node → IsKept node
good-kept node g = record {
  may = record { frames = g.frames; each = may-each node.site g.numbered node.mapped g.each };
  through = through-each node.site node.mapped g.each;
  numbered = g.numbered;
}

both-each : (site : Site) (ms : List Mapping) → list_all (may_map site) (map as_mapped ms) ≡ true → list_all (is_through site) ms ≡ true → list_all (holds site) ms ≡ true
both-each site [] e f = refl
both-each site (m ∷ ms) e f =
    let may = and_parts (may_map site (as_mapped m)) (list_all (may_map site) (map as_mapped ms)) e in
    let through = and_parts (is_through site m) (list_all (is_through site) ms) f in
    let parts = and_parts (is_attached site m.page.seg) (allows m.kind (site.entries m.page)) may.0 in
    both (holds site m) _ (both _ _ through.0 parts.1) (both-each site ms may.1 through.1)

pub kept-good : (node : Node) → IsKept node → GoodNode node
kept-good node k = record { frames = k.may.frames; each = both-each node.site node.mapped k.may.each k.through; numbered = k.numbered }
