use Rattle.std.proofs.Common.{◌≡◌, ◌∙◌, ℕ, List, Some, None, ap, cond, arith, nat_cmp}
use Rattle.std.proofs.lemmas.Bool.Decides.{nat_tests}
use Rattle.std.specs.BTreeMap as tree
use Rattle.std.specs.Map.{lookup, values_of}
use Rattle.indexmap.specs.IndexMap.{insert_entry}
use Rattle.shm_place.specs.declared.page_id.PageId.{PageId}
use Rattle.shm_place.specs.Page.{same_page}
use Rattle.shm_parts.specs.Places.{in_order, page_at, place_of}
use Rattle.shm_parts.proofs.InOrderLemmas.{put_in_order, sorted_in_order}
use Rattle.shm_parts.proofs.OrderedPagesLemmas.{insert-new}
use Rattle.shm_parts.proofs.PlaceLemmas.{at-itself, no_place, placed_marked, placed_more, put_last, values-push}
use Rattle.shm_parts.proofs.RisingLemmas.{page_at_insert}
use Rattle.shm_parts.proofs.pages_with_books.Bookings.add.Goals as goal

pub invariant_of-self-2 : goal.invariant_of-self-2
invariant_of-self-2 g c =
    let old = c.args.self.now in
    let page = c.args.page.now in
    let pages = in_order old.places.entries in
    let absent : place_of old.places.entries page ≡ None = no_place (place_of old.places.entries page) c.requires.fresh in
    let more = c.in-Some.ensures in
    let pushed = c.put.ensures.entries ∙ ap (λ es. insert_entry same_page es page old.next) c.in_ok-reserve.ensures.entries ∙ insert-new page old.next old.places.entries absent in
    let added : in_order c.put.new.map.entries ≡ tree.insert_entry nat_cmp pages old.next page = put_in_order old.places.entries c.put.new.map.entries old.next page old.placed.below pushed in
    record {
      placed = placed_marked c.put.new.map.entries (in_order c.put.new.map.entries) old.marked c.put_at.new.self c.in-Some.next old.next page
          (placed_more old.places.entries c.put.new.map.entries pages (in_order c.put.new.map.entries) old.marked old.next c.in-Some.next page old.placed
          absent c.requires.index
          (λ q. c.put.ensures.values q ∙ ap (λ es. cond (same_page page q) (Some old.next) (lookup (same_page q) es)) c.in_ok-reserve.ensures.entries)
          added (sorted_in_order c.put.new.map.entries) (grind (arith, nat_tests, more)))
          (ap (λ (l : List (ℕ × PageId)). page_at l old.next) added ∙ page_at_insert pages old.next page old.next ∙ ap (λ b. cond b (Some page) (page_at pages old.next)) (at-itself old.next))
          c.in_ok-put_at.ensures.pages;
    }

pub returns-clause-listed : goal.returns-clause-listed
returns-clause-listed g c =
    let old = c.args.self.now in
    let page = c.args.page.now in
    let pages = in_order old.places.entries in
    let absent : place_of old.places.entries page ≡ None = no_place (place_of old.places.entries page) c.requires.fresh in
    let pushed = c.put.ensures.entries ∙ ap (λ es. insert_entry same_page es page old.next) c.in_ok-reserve.ensures.entries ∙ insert-new page old.next old.places.entries absent in
    let added : in_order c.put.new.map.entries ≡ tree.insert_entry nat_cmp pages old.next page = put_in_order old.places.entries c.put.new.map.entries old.next page old.placed.below pushed in
    ap values_of (added ∙ put_last pages old.next page old.placed.below) ∙ values-push pages old.next page
