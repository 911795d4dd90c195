-- Copies as a list, and one copy more at its end.
use Rattle.std.proofs.Common.{◌≡◌, ◌∙◌, ℕ, Bool, true, false, cond, not, List, [], ◌∷◌, ◌++◌, Option, Some, None, is_some, Result, Ok, Err, IfOk, OnOk, if◌then◌else◌, append-nil, refl, ap, sym}
use Rattle.std.proofs.lemmas.Option.{none-some}
use Rattle.std.specs.Map.{keys_of, lookup}
use Rattle.indexmap.specs.IndexMap.{insert_entry}
use Rattle.shm_place.specs.declared.page_id.PageId.{PageId}
use Rattle.shm_place.specs.Page.{same_page}
use Rattle.shm_model.specs.Site as model
use Rattle.shm_parts.specs.Frames.{counted, is_awaited}
use Rattle.shm_parts.proofs.FrameSteps.{unit_from, was_new, was_there}
use Rattle.shm_parts.proofs.OrderedPagesLemmas.{insert-kept, insert-new}
use Rattle.shm_parts.proofs.PlaceLemmas.{no_place}

-- the first of the pages is a copy, unless it is awaited
pub counted-first : (awaited : Option PageId) (page : PageId) (pages : List PageId) → counted awaited (page ∷ pages) ≡ cond (is_awaited page awaited) (counted awaited pages) (page ∷ counted awaited pages)
counted-first None page pages = refl
counted-first (Some a) page pages = by (same_page a page)
  where
    by : (b : Bool) → cond (not b) (page ∷ counted (Some a) pages) (counted (Some a) pages) ≡ cond b (counted (Some a) pages) (page ∷ counted (Some a) pages)
    by true = refl
    by false = refl

pub counted-none : (awaited : Option PageId) → counted awaited [] ≡ []
counted-none None = refl
counted-none (Some a) = refl

-- no page is left
pub counted_left : {V : Type 0} (awaited : Option PageId) (done : List PageId) (rows : List (PageId × V)) → rows ≡ [] → done ++ counted awaited (keys_of rows) ≡ done
counted_left awaited done rows none =
    ap (λ (l : List (PageId × _)). done ++ counted awaited (keys_of l)) none ∙ ap (λ (l : List PageId). done ++ l) (counted-none awaited) ∙ append-nil done

keys-push : {V : Type 0} (es : List (PageId × V)) (page : PageId) (v : V) → keys_of (es ++ (page, v) ∷ []) ≡ keys_of es ++ page ∷ []
keys-push [] page v = refl
keys-push (e ∷ es) page v = ap (λ (l : List PageId). e.0 ∷ l) (keys-push es page v)

-- the page was put among the pages of the frames, where none is awaited
pub frames_joined : {E : Type 0} (r : Result Bool E) (page : PageId) (limit : ℕ) (awaited : Option PageId) (pages new : List (PageId × Unit {0})) (old : model.Frames)
    → awaited ≡ None → record { limit = limit; copies = counted awaited (keys_of pages) } ≡ old
    → IfOk r (λ joins. joins ≡ not (is_some (lookup (same_page page) pages))) → OnOk r (new ≡ insert_entry same_page pages page tt)
    → IfOk r (λ joins. record { limit = limit; copies = counted awaited (keys_of new) } ≡ (if joins then record old { copies = old.copies ++ page ∷ [] } else old))
frames_joined (Err e) page limit awaited pages new old none same joins put = tt
frames_joined (Ok joined) page limit (Some a) pages new old none same joins put = absurd (none-some a (sym none))
frames_joined (Ok true) page limit None pages new old none same joins put =
    let absent = no_place (lookup (same_page page) pages) (was_new (is_some (lookup (same_page page) pages)) true joins refl) in
    ap (λ (l : List PageId). record { limit = limit; copies = l }) (ap keys_of (put ∙ insert-new page tt pages absent) ∙ keys-push pages page tt)
    ∙ ap (λ (f : model.Frames). record f { copies = f.copies ++ page ∷ [] }) same
frames_joined (Ok false) page limit None pages new old none same joins put =
    let there = was_there (is_some (lookup (same_page page) pages)) false joins refl in
    ap (λ (l : List (PageId × Unit {0})). record { limit = limit; copies = keys_of l }) (put ∙ insert-kept page tt pages (unit_from (lookup (same_page page) pages) there))
    ∙ same
