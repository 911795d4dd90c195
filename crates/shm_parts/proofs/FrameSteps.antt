-- The copies, after a change of the pages among which they stand.
use Rattle.std.proofs.Common.{◌≡◌, ℕ, Bool, true, false, cond, not, ◌&&◌, ◌==◌, filter, List, [], ◌∷◌, ◌++◌, Option, None, Some, is_some, if◌then◌else◌, refl, sym, ap, ◌∙◌}
use Rattle.std.specs.Map.{keys_of, lookup}
use Rattle.std.proofs.lemmas.Bool.{true≢false}
use Rattle.indexmap.specs.IndexMap.{insert_entry}
use Rattle.shm_place.specs.declared.page_id.PageId.{PageId}
use Rattle.shm_place.specs.Page.{same_page}
use Rattle.shm_model.specs.SegmentCalls.{without_segment}
use Rattle.shm_model.specs.Site as model
use Rattle.shm_model.specs.Transfer.{without_page}
use Rattle.shm_parts.specs.Frames.{IsFor, arranged_by, counted, installs}
use Rattle.shm_parts.specs.OrderedPages.{without, without_pages_of}
use Rattle.shm_parts.specs.declared.entry_change.Change.{Change}
use Rattle.shm_parts.proofs.EntryLemmas.{same-page}
use Rattle.shm_parts.proofs.OrderedPagesLemmas.{filter-both, insert-new}

second : (b c : Bool) → not b ≡ false → (b && c) ≡ false → c ≡ false
second true c in_it none = none
second false c in_it none = absurd (true≢false in_it)

pub first_and : (b c : Bool) → (b && c) ≡ true → (not b ≡ false) × (c ≡ true)
first_and true c both = (refl, both)
first_and false c both = absurd (true≢false (sym both))

twice : (b : Bool) → not b ≡ (not b && not b)
twice true = refl
twice false = refl

pub counted-without : (page : PageId) (awaited : Option PageId) (pages : List PageId) → IsFor page awaited → without_page page (counted awaited pages) ≡ without_page page pages
counted-without page None pages for = refl
counted-without page (Some q) pages for =
    ap (λ p. without_page page (without_page p pages)) for
    ∙ filter-both (λ q. not (same_page page q)) (λ q. not (same_page page q)) (λ q. not (same_page page q)) (λ q. twice (same_page page q)) pages

none_from : {X : Type 0} (o : Option X) → is_some o ≡ false → o ≡ None
none_from None h = refl
none_from (Some x) h = absurd (true≢false h)

pub unit_from : (o : Option (Unit {0})) → is_some o ≡ true → o ≡ Some tt
unit_from None h = absurd (true≢false (sym h))
unit_from (Some x) h = refl

pub was_new : (there joins : Bool) → joins ≡ not there → joins ≡ true → there ≡ false
was_new true joins is yes_it_joins = absurd (true≢false (sym yes_it_joins ∙ is))
was_new false joins is yes_it_joins = refl

pub was_there : (there joins : Bool) → joins ≡ not there → joins ≡ false → there ≡ true
was_there true joins is none = refl
was_there false joins is none = absurd (true≢false (sym is ∙ none))

-- a copy that stays one stays where it is
pub arranged-kept : (page : PageId) (change : Change) (old new : model.Frames) → not change.copy ≡ false → installs change ≡ false → new ≡ old
    → new ≡ record old { copies = arranged_by change page old.copies }
arranged-kept page change old new in_it none same =
    same
    ∙ (λ i. record old { copies = if sym in_it i then without_page page old.copies else if sym (second change.copy change.newer in_it none) i then without_page page old.copies ++ (page ∷ []) else old.copies })

module _ {V : Type 0} where
  keys_step : (b : Bool) (e : PageId × V) (xs : List (PageId × V)) (ys : List PageId) → keys_of xs ≡ ys → keys_of (cond b (e ∷ xs) xs) ≡ cond b (e.0 ∷ ys) ys
  keys_step true e xs ys same = ap (λ l. e.0 ∷ l) same
  keys_step false e xs ys same = same

  keys-filter : (keep : PageId → Bool) (es : List (PageId × V)) → keys_of (filter (λ e. keep e.0) es) ≡ filter keep (keys_of es)
  keys-filter keep [] = refl
  keys-filter keep (e ∷ es) = keys_step (keep e.0) e (filter (λ e. keep e.0) es) (filter keep (keys_of es)) (keys-filter keep es)

  pub keys-without : (page : PageId) (es : List (PageId × V)) → keys_of (without page es) ≡ without_page page (keys_of es)
  keys-without page es = keys-filter (λ q. not (same_page page q)) es

  pub keys-without_segment : (id : ℕ) (es : List (PageId × V)) → keys_of (without_pages_of id es) ≡ without_segment id (keys_of es)
  keys-without_segment id es = keys-filter (λ q. not (id == q.seg)) es

  keys-push : (es : List (PageId × V)) (page : PageId) (v : V) → keys_of (es ++ (page, v) ∷ []) ≡ keys_of es ++ page ∷ []
  keys-push [] page v = refl
  keys-push (e ∷ es) page v = ap (λ l. e.0 ∷ l) (keys-push es page v)

  new_step : (b : Bool) (e : PageId × V) (o : Option V) (xs ys : List PageId) → cond b (Some e.1) o ≡ None → (o ≡ None → xs ≡ ys) → cond (not b) (e.0 ∷ xs) xs ≡ e.0 ∷ ys
  new_step true e o xs ys none rest = cc
  new_step false e o xs ys none rest = ap (λ l. e.0 ∷ l) (rest none)

  unseen : (page : PageId) (v : V) (es : List (PageId × V)) → lookup (same_page page) es ≡ None → without_page page (keys_of (es ++ (page, v) ∷ [])) ≡ keys_of es
  unseen page v [] none = ap (λ b. cond (not b) (page ∷ []) []) (same-page page)
  unseen page v (e ∷ es) none =
      new_step (same_page page e.0) e (lookup (same_page page) es) (without_page page (keys_of (es ++ (page, v) ∷ []))) (keys_of es) none (unseen page v es)

  -- a page that was put among them for later is no copy
  pub awaited-unseen : (page : PageId) (v : V) (es new : List (PageId × V)) → is_some (lookup (same_page page) es) ≡ false → new ≡ insert_entry same_page es page v
      → without_page page (keys_of new) ≡ keys_of es
  awaited-unseen page v es new absent put =
      let none = none_from (lookup (same_page page) es) absent in
      ap (λ l. without_page page (keys_of l)) (put ∙ insert-new page v es none) ∙ unseen page v es none

  there : (page : PageId) (v : V) (es : List (PageId × V)) → is_some (lookup (same_page page) (es ++ (page, v) ∷ [])) ≡ true
  there page v [] = ap (λ b. is_some (cond b (Some v) None)) (same-page page)
  there page v (e ∷ es) = some_step (same_page page e.0) e.1 (lookup (same_page page) (es ++ (page, v) ∷ [])) (there page v es)
    where
      some_step : (b : Bool) (w : V) (o : Option V) → is_some o ≡ true → is_some (cond b (Some w) o) ≡ true
      some_step true w o h = refl
      some_step false w o h = h

  -- but it stands there
  pub awaited-there : (page : PageId) (v : V) (es new : List (PageId × V)) → is_some (lookup (same_page page) es) ≡ false → new ≡ insert_entry same_page es page v
      → is_some (lookup (same_page page) new) ≡ true
  awaited-there page v es new absent put =
      ap (λ l. is_some (lookup (same_page page) l)) (put ∙ insert-new page v es (none_from (lookup (same_page page) es) absent)) ∙ there page v es

  -- the page is no copy any more
  pub copies-left : (page : PageId) (change : Change) (awaited : Option PageId) (es new : List (PageId × V)) → IsFor page awaited → not change.copy ≡ true → new ≡ without page es
      → keys_of new ≡ arranged_by change page (counted awaited (keys_of es))
  copies-left page change awaited es new for out gone =
      ap keys_of gone ∙ keys-without page es ∙ sym (counted-without page awaited (keys_of es) for)
      ∙ ap (λ b. if b then without_page page copies else if change.newer then without_page page copies ++ (page ∷ []) else copies) (sym out)
    where
      copies : List PageId
      copies = counted awaited (keys_of es)

  -- the same, of the frames, where no page is awaited
  pub arranged-left : (page : PageId) (change : Change) (old : model.Frames) (limit : ℕ) (awaited : Option PageId) (es new : List (PageId × V)) → awaited ≡ None → not change.copy ≡ true → new ≡ without page es
      → record { limit = limit; copies = counted awaited (keys_of es) } ≡ old → record { limit = limit; copies = counted awaited (keys_of new) } ≡ record old { copies = arranged_by change page old.copies }
  arranged-left page change old limit None es new none out gone same =
      ap (λ (l : List PageId). record { limit = limit; copies = l }) (copies-left page change None es new tt out gone)
      ∙ ap (λ (f : model.Frames). record f { copies = arranged_by change page f.copies }) same
  arranged-left page change old limit (Some q) es new none out gone same = cc

  -- the page is the newest copy
  pub copies-joined : (page : PageId) (v : V) (change : Change) (awaited : Option PageId) (es new : List (PageId × V)) → IsFor page awaited → not change.copy ≡ false → change.newer ≡ true
      → new ≡ without page es ++ (page, v) ∷ [] → keys_of new ≡ arranged_by change page (counted awaited (keys_of es))
  copies-joined page v change awaited es new for in_it newer moved =
      ap keys_of moved ∙ keys-push (without page es) page v
      ∙ ap (λ l. l ++ page ∷ []) (keys-without page es ∙ sym (counted-without page awaited (keys_of es) for))
      ∙ (λ i. if sym in_it i then without_page page copies else if sym newer i then without_page page copies ++ (page ∷ []) else copies)
    where
      copies : List PageId
      copies = counted awaited (keys_of es)
