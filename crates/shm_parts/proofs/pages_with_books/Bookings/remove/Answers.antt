use Rattle.std.proofs.Common.{◌≡◌, ◌∙◌, ℕ, Bool, true, false, cond, List, Option, Some, None, is_some, refl, ap, nat_cmp, sym, true≢false}
use Rattle.std.proofs.lemmas.Bool.{false≢true}
use Rattle.std.proofs.lemmas.Option.{same_Some}
use Rattle.std.specs.BTreeMap.{is_at}
use Rattle.std.specs.Map.{remove_entry, values_of}
use Rattle.shm_place.specs.declared.page_id.PageId.{PageId}
use Rattle.shm_place.specs.Page.{same_page}
use Rattle.shm_parts.specs.Places.{IsPlaced, in_order, is_marked_at, page_at, place_of}
use Rattle.shm_parts.proofs.InOrderLemmas.{removed_in_order, sorted_in_order}
use Rattle.shm_parts.proofs.PlaceLemmas.{at-same, listed_less, listed_same, page-itself, page_at-all, placed_less}
use Rattle.shm_parts.proofs.RisingLemmas.{page_at_remove}
use Rattle.shm_parts.proofs.pages_with_books.Bookings.remove.Goals as goal

-- the marks of the other pages stay
marks_left : (places less : List (PageId × ℕ)) (pages marked unmarked : List (ℕ × PageId)) (next n : ℕ) (page other : PageId) → IsPlaced places pages marked next → place_of places page ≡ Some n
    → place_of less other ≡ cond (same_page page other) None (place_of places other) → ((k : ℕ) → page_at unmarked k ≡ cond (is_at (nat_cmp n) k) None (page_at marked k))
    → same_page page other ≡ false → is_marked_at (place_of places other) marked ≡ true → is_marked_at (place_of less other) unmarked ≡ true
marks_left places less pages marked unmarked next n page other is own put left apart was =
    ap (λ (o : Option ℕ). is_marked_at o unmarked) (put ∙ ap (λ b. cond b None (place_of places other)) apart) ∙ by (place_of places other) refl was
  where
    stays : (k : ℕ) (b : Bool) → is_at (nat_cmp n) k ≡ b → place_of places other ≡ Some k → is_some (page_at marked k) ≡ true → is_some (page_at unmarked k) ≡ true
    stays k true at there h =
        let owner : page ≡ other = same_Some page other (sym (is.there page n own) ∙ ap (page_at pages) (at-same n k at) ∙ is.there other k there) in
        absurd (true≢false (sym (page-itself page) ∙ ap (same_page page) owner ∙ apart))
    stays k false at there h = ap is_some (left k ∙ ap (λ b. cond b None (page_at marked k)) at) ∙ h

    by : (o : Option ℕ) → place_of places other ≡ o → is_marked_at o marked ≡ true → is_marked_at o unmarked ≡ true
    by None there h = absurd (false≢true h)
    by (Some k) there h = stays k (is_at (nat_cmp n) k) refl there h

pub returns-in_default-clause-listed : goal.returns-in_default-clause-listed
returns-in_default-clause-listed g c =
    let old = c.args.self.now in
    ap (λ (es : List (PageId × ℕ)). values_of (in_order es)) c.in_default.ensures.unchanged
    ∙ listed_same old.places.entries (in_order old.places.entries) old.marked old.next c.args.page.now old.placed (sym c.in_default.ensures.value)

pub invariant_of-self-2 : goal.invariant_of-self-2
invariant_of-self-2 g c =
    let old = c.args.self.now in
    let page = c.args.page.now in
    let place = c.in-Some.place in
    let pages = in_order old.places.entries in
    let less : in_order c.swap_remove.new.self.entries ≡ remove_entry (is_at (nat_cmp place)) pages =
    removed_in_order old.places.entries c.swap_remove.new.self.entries page place (sym c.in-Some.ensures.value) old.placed.there
    (λ k q found. page_at-all (λ (e : ℕ × PageId). place_of old.places.entries e.1 ≡ Some e.0) pages k q old.placed.own found) c.in-Some.ensures.updates.0 c.in-Some.ensures.unique in
    record {
      placed = placed_less old.places.entries c.swap_remove.new.self.entries pages (in_order c.swap_remove.new.self.entries) old.marked c.remove.new.self old.next page place old.placed
          (sym c.in-Some.ensures.value) c.in-Some.ensures.updates.0 less
          (λ k. ap (λ (l : List (ℕ × PageId)). page_at l k) less ∙ page_at_remove pages place k (sorted_in_order old.places.entries)) (sorted_in_order c.swap_remove.new.self.entries) c.remove.ensures.pages;
    }

pub returns-clause-listed : goal.returns-clause-listed
returns-clause-listed g c =
    let old = c.args.self.now in
    let page = c.args.page.now in
    let place = c.in-Some.place in
    let pages = in_order old.places.entries in
    let less : in_order c.swap_remove.new.self.entries ≡ remove_entry (is_at (nat_cmp place)) pages =
    removed_in_order old.places.entries c.swap_remove.new.self.entries page place (sym c.in-Some.ensures.value) old.placed.there
    (λ k q found. page_at-all (λ (e : ℕ × PageId). place_of old.places.entries e.1 ≡ Some e.0) pages k q old.placed.own found) c.in-Some.ensures.updates.0 c.in-Some.ensures.unique in
    listed_less old.places.entries pages (in_order c.swap_remove.new.self.entries) old.marked old.next page place old.placed (sym c.in-Some.ensures.value) less

pub returns-clause-others : goal.returns-clause-others
returns-clause-others g c = λ other apart was.
    let old = c.args.self.now in
    marks_left old.places.entries c.swap_remove.new.self.entries (in_order old.places.entries) old.marked c.remove.new.self old.next c.in-Some.place c.args.page.now other old.placed
    (sym c.in-Some.ensures.value) (c.in-Some.ensures.updates.0 other) c.remove.ensures.pages apart was
