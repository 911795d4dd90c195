-- A site joined with its machine's memory: the bytes of what is mapped to write are all that differs.
use Rattle.std.proofs.Common.{◌≡◌, ℕ, Bool, true, false, not, List, [], ◌∷◌, Option, Some, None, refl, sym, ap, ◌∙◌, subst, if◌then◌else◌}
use Rattle.std.proofs.Math.Path.{fun_ext}
use Rattle.std.proofs.lemmas.Bool.{and_parts, cond-true, cond-false}
use Rattle.shm_place.specs.declared.page_id.PageId.{PageId}
use Rattle.shm_place.specs.Page.{same_page}
use Rattle.shm_model.specs.declared.request_kind.Kind.{Kind}
use Rattle.shm_model.specs.declared.request_kind.Kind.TheVariants.{Read, Write}
use Rattle.shm_model.specs.Basics.{at_page}
use Rattle.shm_model.specs.Book.{is_write}
use Rattle.shm_model.specs.Entry.{Entry, Nil, Copy, OwnRead, OwnWrite, Handed, is_copy, readable, seen, writable}
use Rattle.shm_model.specs.Site.{Site, Step}
use Rattle.shm_laws.proofs.Page.Entry.{false-true}
use Rattle.shm_laws.proofs.Page.Moves.{page-same, same-page}
use Rattle.shm_mapping.specs.Mapped.{Mapped, allows, allows_all, mapped_at, remapped, unmapped, with_bytes, with_memory}

-- by what is mapped of each page, however that is listed
abbrev pub joined_by : (PageId → Option Mapped) → Site → Site
joined_by memory site = record site { entries = λ page. with_memory (memory page) (site.entries page) }

abbrev pub joined_step : (PageId → Option Mapped) → Step → Step
joined_step memory done = record done { site = joined_by memory done.site }

abbrev pub allowed : Option Mapped → Entry → Bool
allowed None e = true
allowed (Some m) e = allows m.kind e

-- an entry of a page that is mapped so
abbrev pub by_kind : Kind → List ℕ → Entry → Entry
by_kind kind memory e = if is_write kind then with_bytes memory e else e

module _ {X : Type 0} (f : Entry → X) (same : (memory : List ℕ) (e : Entry) → f (with_bytes memory e) ≡ f e) where
  kind-same : (kind : Kind) (memory : List ℕ) (e : Entry) → f (by_kind kind memory e) ≡ f e
  kind-same Read memory e = refl
  kind-same Write memory e = same memory e

  memory-same : (m : Option Mapped) (e : Entry) → f (with_memory m e) ≡ f e
  memory-same None e = refl
  memory-same (Some m) e = kind-same m.kind m.memory e

seen-bytes : (memory : List ℕ) (e : Entry) → seen (with_bytes memory e) ≡ seen e
seen-bytes memory (Nil n) = refl
seen-bytes memory (Copy n b) = refl
seen-bytes memory (OwnRead n b) = refl
seen-bytes memory (OwnWrite n b) = refl
seen-bytes memory (Handed n to b) = refl

readable-bytes : (memory : List ℕ) (e : Entry) → readable (with_bytes memory e) ≡ readable e
readable-bytes memory (Nil n) = refl
readable-bytes memory (Copy n b) = refl
readable-bytes memory (OwnRead n b) = refl
readable-bytes memory (OwnWrite n b) = refl
readable-bytes memory (Handed n to b) = refl

writable-bytes : (memory : List ℕ) (e : Entry) → writable (with_bytes memory e) ≡ writable e
writable-bytes memory (Nil n) = refl
writable-bytes memory (Copy n b) = refl
writable-bytes memory (OwnRead n b) = refl
writable-bytes memory (OwnWrite n b) = refl
writable-bytes memory (Handed n to b) = refl

copy-bytes : (memory : List ℕ) (e : Entry) → is_copy (with_bytes memory e) ≡ is_copy e
copy-bytes memory (Nil n) = refl
copy-bytes memory (Copy n b) = refl
copy-bytes memory (OwnRead n b) = refl
copy-bytes memory (OwnWrite n b) = refl
copy-bytes memory (Handed n to b) = refl

pub seen-memory : (m : Option Mapped) (e : Entry) → seen (with_memory m e) ≡ seen e
seen-memory m e = memory-same seen seen-bytes m e

pub readable-memory : (m : Option Mapped) (e : Entry) → readable (with_memory m e) ≡ readable e
readable-memory m e = memory-same readable readable-bytes m e

pub writable-memory : (m : Option Mapped) (e : Entry) → writable (with_memory m e) ≡ writable e
writable-memory m e = memory-same writable writable-bytes m e

pub copy-memory : (m : Option Mapped) (e : Entry) → is_copy (with_memory m e) ≡ is_copy e
copy-memory m e = memory-same is_copy copy-bytes m e

nil-kind : (kind : Kind) (memory : List ℕ) (n : ℕ) → by_kind kind memory (Nil n) ≡ Nil n
nil-kind Read memory n = refl
nil-kind Write memory n = refl

pub nil-memory : (m : Option Mapped) (n : ℕ) → with_memory m (Nil n) ≡ Nil n
nil-memory None n = refl
nil-memory (Some m) n = nil-kind m.kind m.memory n

-- one entry changed
joined-at-if : (memory : PageId → Option Mapped) (f : PageId → Entry) (page : PageId) (e : Entry) (q : PageId) (same : Bool) → same_page page q ≡ same
    → (if same then with_memory (memory page) e else with_memory (memory q) (f q)) ≡ with_memory (memory q) (if same then e else f q)
joined-at-if memory f page e q true is = ap (λ p. with_memory (memory p) e) (page-same page q is)
joined-at-if memory f page e q false is = refl

pub joined-at : (memory : PageId → Option Mapped) (f : PageId → Entry) (page : PageId) (e : Entry)
    → at_page (λ q. with_memory (memory q) (f q)) page (with_memory (memory page) e) ≡ (λ q. with_memory (memory q) (at_page f page e q))
joined-at memory f page e = fun_ext (λ q. joined-at-if memory f page e q (same_page page q) refl)

-- what is mapped, page by page
some-same : {X : Type 0} (x y : X) → Some x ≡ Some y → x ≡ y
some-same x y e = cc

none-some : {X : Type 0} (x : X) → None ≡ Some x → ⊥
none-some x e = cc

allows-at-if : (f : PageId → Entry) (page : PageId) (x m : Mapped) (same : Bool) (rest : Option Mapped) → same_page page x.page ≡ same
    → allows x.kind (f x.page) ≡ true → (rest ≡ Some m → allows m.kind (f page) ≡ true) → (if same then Some x else rest) ≡ Some m → allows m.kind (f page) ≡ true
allows-at-if f page x m true rest is here more e =
    let p : page ≡ x.page = page-same page x.page is in
    subst (λ (y : Mapped). allows y.kind (f page) ≡ true) (some-same x m e) (subst (λ q. allows x.kind (f q) ≡ true) (sym p) here)
allows-at-if f page x m false rest is here more e = more e

pub allows-at : (mapped : List Mapped) (site : Site) (page : PageId) (m : Mapped) → allows_all mapped site ≡ true → mapped_at page mapped ≡ Some m
    → allows m.kind (site.entries page) ≡ true
allows-at [] site page m all e = absurd (none-some m e)
allows-at (x ∷ xs) site page m all e =
    let parts = and_parts (allows x.kind (site.entries x.page)) (allows_all xs site) all in
    allows-at-if site.entries page x m (same_page page x.page) (mapped_at page xs) refl parts.0 (allows-at xs site page m parts.1) e

unmapped-here-if : (page : PageId) (x : Mapped) (xs : List Mapped) (same : Bool) → same_page page x.page ≡ same → mapped_at page (unmapped page xs) ≡ None
    → mapped_at page (if not same then x ∷ unmapped page xs else unmapped page xs) ≡ None
unmapped-here-if page x xs true is more = more
unmapped-here-if page x xs false is more = cond-false (same_page page x.page) (Some x) (mapped_at page (unmapped page xs)) is ∙ more

pub unmapped-here : (page : PageId) (mapped : List Mapped) → mapped_at page (unmapped page mapped) ≡ None
unmapped-here page [] = refl
unmapped-here page (x ∷ xs) = unmapped-here-if page x xs (same_page page x.page) refl (unmapped-here page xs)

same-page-sym : (p q : PageId) → same_page p q ≡ true → same_page q p ≡ true
same-page-sym p q e = subst (λ x. same_page x p ≡ true) (page-same p q e) (same-page p)

unmapped-there-if : (page q : PageId) (x : Mapped) (xs : List Mapped) (same here : Bool) → same_page page q ≡ false → same_page page x.page ≡ same → same_page q x.page ≡ here
    → mapped_at q (unmapped page xs) ≡ mapped_at q xs
    → mapped_at q (if not same then x ∷ unmapped page xs else unmapped page xs) ≡ (if here then Some x else mapped_at q xs)
unmapped-there-if page q x xs true true apart s h more =
    absurd (false-true (sym apart ∙ subst (λ p. same_page page p ≡ true) (sym (page-same q x.page h)) s))
unmapped-there-if page q x xs true false apart s h more = more
unmapped-there-if page q x xs false true apart s h more = cond-true (same_page q x.page) (Some x) (mapped_at q (unmapped page xs)) h
unmapped-there-if page q x xs false false apart s h more = cond-false (same_page q x.page) (Some x) (mapped_at q (unmapped page xs)) h ∙ more

pub unmapped-there : (page q : PageId) (mapped : List Mapped) → same_page page q ≡ false → mapped_at q (unmapped page mapped) ≡ mapped_at q mapped
unmapped-there page q [] apart = refl
unmapped-there page q (x ∷ xs) apart = unmapped-there-if page q x xs (same_page page x.page) (same_page q x.page) apart refl refl (unmapped-there page q xs apart)

pub remapped-here : (m : Mapped) (mapped : List Mapped) → mapped_at m.page (remapped m mapped) ≡ Some m
remapped-here m mapped = cond-true (same_page m.page m.page) (Some m) (mapped_at m.page (unmapped m.page mapped)) (same-page m.page)

pub remapped-there : (m : Mapped) (q : PageId) (mapped : List Mapped) → same_page m.page q ≡ false → mapped_at q (remapped m mapped) ≡ mapped_at q mapped
remapped-there m q mapped apart =
    cond-false (same_page q m.page) (Some m) (mapped_at q (unmapped m.page mapped)) (apart-sym m.page q apart) ∙ unmapped-there m.page q mapped apart
  where
    apart-if : (p q : PageId) (same : Bool) → same_page q p ≡ same → same_page p q ≡ false → same ≡ false
    apart-if p q true is apart = absurd (false-true (sym apart ∙ same-page-sym q p is))
    apart-if p q false is apart = refl

    apart-sym : (p q : PageId) → same_page p q ≡ false → same_page q p ≡ false
    apart-sym p q apart = apart-if p q (same_page q p) refl apart

-- what is found of a page is of that page
found-page-if : (page : PageId) (x m : Mapped) (same : Bool) (rest : Option Mapped) → same_page page x.page ≡ same → (rest ≡ Some m → m.page ≡ page)
    → (if same then Some x else rest) ≡ Some m → m.page ≡ page
found-page-if page x m true rest is more e = ap (λ (y : Mapped). y.page) (sym (some-same x m e)) ∙ sym (page-same page x.page is)
found-page-if page x m false rest is more e = more e

pub found-page : (page : PageId) (mapped : List Mapped) (m : Mapped) → mapped_at page mapped ≡ Some m → m.page ≡ page
found-page page [] m e = absurd (none-some m e)
found-page page (x ∷ xs) m e = found-page-if page x m (same_page page x.page) (mapped_at page xs) refl (found-page page xs m) e
