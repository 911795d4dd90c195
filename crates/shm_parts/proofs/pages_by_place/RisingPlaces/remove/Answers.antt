use Rattle.std.proofs.Common.{◌≡◌, ◌∙◌, cond, None, List, is_some, true, ap, subst, sym}
use Rattle.std.specs.BTreeMap.{is_at}
use Rattle.std.specs.List.{remove}
use Rattle.std.specs.List.Sorted.{IsStrictlySortedBy}
use Rattle.std.specs.Map.{keys_of, remove_entry}
use Rattle.std.specs.Ordering.{nat_cmp}
use Rattle.shm_parts.specs.Places.{page_at}
use Rattle.shm_parts.proofs.RisingLemmas.{Row, before, page_at_remove, removed_is, removed_none, sorted_remove, unless_there}
use Rattle.shm_parts.proofs.pages_by_place.RisingPlaces.remove.Goals as goal

pub returns-then-is_place_at-clause-entries : goal.returns-then-is_place_at-clause-entries
returns-then-is_place_at-clause-entries g c =
    let es = c.self.inside.pages.items in
    let place = c.args.place in
    let index : c.count_before-index.result ≡ before place es = c.count_before-index.ensures.count ∙ ap (before place) c.as_slice.ensures.value in
    let there : is_some (page_at es place) ≡ true = ap (λ (l : List Row). is_some (page_at l place)) (sym c.as_slice-2.ensures.value) ∙ sym c.is_place_at.ensures.there ∙ c.if-is_place_at.true in
    c.remove.ensures.items ∙ ap (remove es) index ∙ removed_is es place there c.self.invariant ∙ ap (remove_entry (is_at (nat_cmp place))) c.self.view_is

pub returns-then-is_place_at-clause-pages : goal.returns-then-is_place_at-clause-pages
returns-then-is_place_at-clause-pages g c = λ other.
    let es = c.self.inside.pages.items in
    let place = c.args.place in
    ap (λ (l : List Row). page_at l other) (returns-then-is_place_at-clause-entries g c)
    ∙ ap (λ (l : List Row). page_at (remove_entry (is_at (nat_cmp place)) l) other) (sym c.self.view_is)
    ∙ page_at_remove es place other c.self.invariant
    ∙ ap (λ (l : List Row). cond (is_at (nat_cmp place) other) None (page_at l other)) c.self.view_is

pub returns-then-is_place_at-clause-rising : goal.returns-then-is_place_at-clause-rising
returns-then-is_place_at-clause-rising g c =
    let es = c.self.inside.pages.items in
    let test = is_at (nat_cmp c.args.place) in
    subst (λ (l : List Row). IsStrictlySortedBy nat_cmp (keys_of l)) (ap (remove_entry test) c.self.view_is ∙ sym (returns-then-is_place_at-clause-entries g c)) (sorted_remove test es c.self.invariant)

pub invariant_of-self : goal.invariant_of-self
invariant_of-self g c = returns-then-is_place_at-clause-rising g c

pub returns-else-is_place_at-clause-entries : goal.returns-else-is_place_at-clause-entries
returns-else-is_place_at-clause-entries g c =
    let now = c.args.self.now in
    let place = c.args.place in
    let gone : is_some (page_at now place) ≡ _ =
    ap (λ (l : List Row). is_some (page_at l place)) (sym c.self.view_is ∙ sym c.as_slice-2.ensures.value) ∙ sym c.is_place_at.ensures.there ∙ c.if-is_place_at.false in
    sym (removed_none now place (unless_there now place gone))
