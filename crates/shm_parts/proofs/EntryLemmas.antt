-- What a change of one page's entry does to the entries as a function of the page.
use Rattle.std.proofs.Common.{◌≡◌, ℕ, ◌<◌, Bool, true, false, slice_get, length, ◌==◌, Option, Some, None, is_some, Result, Ok, Err, IfOk, OnOk, OnErr, if◌then◌else◌, refl, sym, subst, ◌∙◌, ap, true≢false, arith}
use Rattle.std.proofs.Math.Path.{fun_ext}
use Rattle.std.proofs.lemmas.Bool.{and_parts}
use Rattle.std.proofs.lemmas.Bool.Decides.{nat_tests}
use Rattle.std.proofs.lemmas.Map.Entries.{length-keys_of, lookup_from_place}
use Rattle.std.proofs.lemmas.Option.{same_Some, slice_get-map, slice_get_within}
use Rattle.std.specs.Cmp.{IsEquivalence}
use Rattle.std.specs.Map.{keys_of}
use Rattle.std.specs.Option.{option_map}
use Rattle.indexmap.proofs.CallerLemmas.{updates-with_value_at}
use Rattle.indexmap.specs.IndexMap.{IsUnique, with_value_at}
use Rattle.shm_place.specs.declared.page_id.PageId.{PageId}
use Rattle.shm_place.specs.Page.{same_page}
use Rattle.shm_model.specs.Entry as model
use Rattle.shm_model.specs.Basics.{at_page}
use Rattle.shm_page.specs.Entry.{entry_of}
use Rattle.shm_page.specs.declared.entry.Entry.{Entry}
use Rattle.shm_parts.specs.Entries.{StandsAt, entries_of, entry_or, is_stored, stored_at}
use Rattle.shm_parts.specs.declared.page_entries.Entries.{Entries}

-- pages with the same segment and index are the same
pub page-same : (p q : PageId) → same_page p q ≡ true → p ≡ q
page-same p q e =
    let parts = and_parts (p.seg == q.seg) (p.index == q.index) e in
    let seg : p.seg ≡ q.seg = grind (arith, nat_tests, parts.0) in
    let index : p.index ≡ q.index = grind (arith, nat_tests, parts.1) in
    pair-same p q seg index
  where
    pair-same : (p q : PageId) → p.seg ≡ q.seg → p.index ≡ q.index → p ≡ q
    pair-same p q e f =
        let made : ℕ → ℕ → PageId = (λ x y. record { seg = x; index = y }) in
        ap (λ x. made x p.index) e ∙ ap (λ y. made q.seg y) f

pub same-page : (q : PageId) → same_page q q ≡ true
same-page q = grind (arith, nat_tests)

-- at each page the new entries have what `at_page` says
module _ {A : Type 0} (old new : Entries A) (page : PageId) (w : Entry A)
    (put : (q : PageId) → stored_at new q ≡ (if same_page page q then Some w else stored_at old q)) where
  pub entries-put : (rest : PageId → model.Entry) (e : model.Entry) → entry_of w ≡ e → entries_of rest new ≡ at_page (entries_of rest old) page e
  entries-put rest e is = fun_ext (λ q. ap (entry_or (rest q)) (put q) ∙ by (same_page page q) (rest q) (stored_at old q))
    where
      by : (b : Bool) (r : model.Entry) (o : Option (Entry A)) → entry_or r (if b then Some w else o) ≡ (if b then e else entry_or r o)
      by true r o = is
      by false r o = refl

  pub stored-put : is_stored old page ≡ true → is_stored new ≡ is_stored old
  stored-put there = fun_ext (λ q. ap is_some (put q) ∙ by (same_page page q) q refl)
    where
      by : (b : Bool) (q : PageId) → same_page page q ≡ b → is_some (if b then Some w else stored_at old q) ≡ is_some (stored_at old q)
      by true q e = sym there ∙ ap (is_stored old) (page-same page q e)
      by false q e = refl

-- what stands at a page, put there again
at_page-same : {X : Type 0} (f : PageId → X) (page : PageId) → at_page f page (f page) ≡ f
at_page-same f page = fun_ext (λ q. by (same_page page q) q refl)
  where
    by : (b : Bool) (q : PageId) → same_page page q ≡ b → (if b then f page else f q) ≡ f q
    by true q e = ap f (page-same page q e)
    by false q e = refl

-- the entry v, which was stored at the page, has become w
module _ {A : Type 0} (old new : Entries A) (page : PageId) (v w : Entry A) (at : Some v ≡ stored_at old page)
    (put : (q : PageId) → stored_at new q ≡ (if same_page page q then Some w else stored_at old q)) where
  pub entries-turned : (rest : PageId → model.Entry) (f : model.Entry → model.Entry) → entry_of w ≡ f (entry_of v) → entries_of rest new ≡ at_page (entries_of rest old) page (f (entries_of rest old page))
  entries-turned rest f is = entries-put old new page w put rest (f (entries_of rest old page)) (is ∙ ap f (ap (entry_or (rest page)) at))

  pub entries-kept : (rest : PageId → model.Entry) → entry_of w ≡ entry_of v → entries_of rest new ≡ entries_of rest old
  entries-kept rest is = entries-turned rest (λ e. e) is ∙ at_page-same (entries_of rest old) page

  pub entries-if : (rest : PageId → model.Entry) (f : model.Entry → model.Entry) (b : Bool) → entry_of w ≡ (if b then f (entry_of v) else entry_of v) → entries_of rest new ≡ (if b then at_page (entries_of rest old) page (f (entries_of rest old page)) else entries_of rest old)
  entries-if rest f true is = entries-turned rest f is
  entries-if rest f false is = entries-kept rest is

  pub stored-turned : is_stored new ≡ is_stored old
  stored-turned = stored-put old new page w put (ap is_some (sym at))

-- an entry that nothing is stored of is what it would be anyway
or-none : {A : Type 0} (r : model.Entry) (o : Option (Entry A)) → is_some o ≡ false → entry_or r o ≡ r
or-none r None h = refl
or-none r (Some e) h = absurd (true≢false h)

-- storing what an entry is anyway changes nothing
pub entries-ensured : {A : Type 0} (old new : Entries A) (page : PageId) (w : Entry A)
    → ((q : PageId) → stored_at new q ≡ (if same_page page q then Some w else stored_at old q))
    → is_stored old page ≡ false → (rest : PageId → model.Entry) → entry_of w ≡ rest page → entries_of rest new ≡ entries_of rest old
entries-ensured old new page w put fresh rest is =
    entries-put old new page w put rest (rest page) is
    ∙ ap (at_page (entries_of rest old) page) (sym (or-none (rest page) (stored_at old page) fresh))
    ∙ at_page-same (entries_of rest old) page

-- what holds on success
pub on_ok : {T E : Type 0} {P Q : Type 0} (r : Result T E) → (P → Q) → OnOk r P → OnOk r Q
on_ok (Ok x) f h = f h
on_ok (Err e) f h = h

-- what holds of a success
pub if_ok : {T E : Type 0} {P Q : T → Type 0} (r : Result T E) → ((x : T) → P x → Q x) → IfOk r P → IfOk r Q
if_ok (Ok x) f h = f x h
if_ok (Err e) f h = h

-- and at a failure
pub on_err : {T E : Type 0} {P Q : Type 0} (r : Result T E) → (P → Q) → OnErr r P → OnErr r Q
on_err (Ok x) f h = h
on_err (Err e) f h = f h

pub same_page_equiv : IsEquivalence same_page
same_page_equiv = record {
  refl = same-page;
  symm = λ p q. grind (arith, nat_tests);
  congr = λ x y z e. ap (λ p. same_page p z) (page-same x y e);
}

-- where a page stands is one of so many places
pub stands-within : {A : Type 0} (entries : Entries A) (page : PageId) (place : ℕ) → StandsAt page place entries → place < length entries.map.entries
stands-within entries page place stands =
    subst (λ n. place < n) (length-keys_of entries.map.entries) (slice_get_within (keys_of entries.map.entries) place page stands)

-- what stands where the page does is the page's entry
pub stands-own : {A : Type 0} (entries : Entries A) (page : PageId) (place : ℕ) (k : PageId) (v : Entry A) → StandsAt page place entries
    → slice_get entries.map.entries place ≡ Some (k, v) → slice_get entries.map.entries place ≡ Some (page, v)
stands-own entries page place k v stands at =
    at ∙ ap (λ p. Some (p, v)) (same_Some k page (sym (ap (option_map (λ e. e.0)) at) ∙ sym (slice_get-map (λ e. e.0) entries.map.entries place) ∙ stands))

-- the value at the place where the page stands is the page's entry; and a value that is written there is the page's entry after it
module _ {A : Type 0} (old : Entries A) (page : PageId) (place : ℕ) (k : PageId) (v w : Entry A) (unique : IsUnique same_page old.map)
    (stands : StandsAt page place old) (at : slice_get old.map.entries place ≡ Some (k, v)) where
  pub stands-entry : Some v ≡ stored_at old page
  stands-entry = sym (lookup_from_place same_page_equiv old.map.entries place page v unique (stands-own old page place k v stands at))

  pub stands-written : (q : PageId) → stored_at (record { map = with_value_at old.map place w }) q ≡ (if same_page page q then Some w else stored_at old q)
  stands-written = (updates-with_value_at old.map place w same_page_equiv unique page v (stands-own old page place k v stands at)).0

-- a page that is found to be the one that stands at a place stands there
pub stands-found : {A : Type 0} (entries : Entries A) (page : PageId) (place : ℕ) (k : PageId) (v : Entry A) → slice_get entries.map.entries place ≡ Some (k, v) → same_page k page ≡ true → StandsAt page place entries
stands-found entries page place k v at same =
    slice_get-map (λ e. e.0) entries.map.entries place ∙ ap (option_map (λ e. e.0)) at ∙ ap Some (page-same k page same)
