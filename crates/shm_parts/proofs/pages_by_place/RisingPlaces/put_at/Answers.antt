use Rattle.std.proofs.Common.{arith, ◌≡◌, ◌∙◌, List, is_some, true, false, slice_set, ap, subst, sym}
use Rattle.std.proofs.lemmas.Grind.{common_steps}
use Rattle.std.specs.BTreeMap.{insert_entry}
use Rattle.std.specs.List.{insert}
use Rattle.std.specs.List.Sorted.{IsStrictlySortedBy}
use Rattle.std.specs.Map.{keys_of}
use Rattle.std.specs.Ordering.{nat_cmp}
use Rattle.shm_parts.specs.Places.{page_at}
use Rattle.shm_parts.proofs.RisingLemmas.{Row, before, inserted_is, page_at_insert, set_is, sorted_insert, unless_there}
use Rattle.shm_parts.proofs.pages_by_place.RisingPlaces.put_at.Goals as goal

pub returns-then-is_place_at-clause-entries : goal.returns-then-is_place_at-clause-entries
returns-then-is_place_at-clause-entries g c =
    let es = c.self.inside.pages.items in
    let place = c.args.place in
    let page = c.args.page in
    let index : c.count_before-index.result ≡ before place es = c.count_before-index.ensures.count ∙ ap (before place) c.as_slice.ensures.value in
    let there : is_some (page_at es place) ≡ true = ap (λ (l : List Row). is_some (page_at l place)) (sym c.as_slice-2.ensures.value) ∙ sym c.is_place_at.ensures.there ∙ c.if-is_place_at.true in
    ap (λ k. slice_set es k (place, page)) index ∙ set_is es place page there c.self.invariant ∙ ap (λ (l : List Row). insert_entry nat_cmp l place page) c.self.view_is

pub returns-then-is_place_at-clause-pages : goal.returns-then-is_place_at-clause-pages
returns-then-is_place_at-clause-pages g c = λ other.
    ap (λ (l : List Row). page_at l other) (returns-then-is_place_at-clause-entries g c) ∙ page_at_insert c.args.self.now c.args.place c.args.page other

pub returns-then-is_place_at-clause-rising : goal.returns-then-is_place_at-clause-rising
returns-then-is_place_at-clause-rising g c =
    let es = c.self.inside.pages.items in
    subst (λ (l : List Row). IsStrictlySortedBy nat_cmp (keys_of l))
    (ap (λ (l : List Row). insert_entry nat_cmp l c.args.place c.args.page) c.self.view_is ∙ sym (returns-then-is_place_at-clause-entries g c))
    (sorted_insert es c.args.place c.args.page c.self.invariant)

pub invariant_of-self : goal.invariant_of-self
invariant_of-self g c = returns-then-is_place_at-clause-rising g c

pub returns-clause-entries : goal.returns-clause-entries
returns-clause-entries g c =
    let es = c.self.inside.pages.items in
    let place = c.args.place in
    let page = c.args.page in
    let index : c.count_before-index.result ≡ before place es = c.count_before-index.ensures.count ∙ ap (before place) c.as_slice.ensures.value in
    let gone : is_some (page_at es place) ≡ false = ap (λ (l : List Row). is_some (page_at l place)) (sym c.as_slice-2.ensures.value) ∙ sym c.is_place_at.ensures.there ∙ c.if-is_place_at.false in
    let inserted : c.insert.new.self.items ≡ insert c.reserve.new.self.items c.count_before-index.result (place, page) = grind (arith, common_steps) in
    inserted ∙ ap (λ (l : List Row). insert l c.count_before-index.result (place, page)) c.in_ok-reserve.ensures.items ∙ ap (λ k. insert es k (place, page)) index
    ∙ inserted_is es place page (unless_there es place gone) ∙ ap (λ (l : List Row). insert_entry nat_cmp l place page) c.self.view_is

pub returns-clause-pages : goal.returns-clause-pages
returns-clause-pages g c = λ other.
    ap (λ (l : List Row). page_at l other) (returns-clause-entries g c) ∙ page_at_insert c.args.self.now c.args.place c.args.page other

pub returns-clause-rising : goal.returns-clause-rising
returns-clause-rising g c =
    let es = c.self.inside.pages.items in
    subst (λ (l : List Row). IsStrictlySortedBy nat_cmp (keys_of l))
    (ap (λ (l : List Row). insert_entry nat_cmp l c.args.place c.args.page) c.self.view_is ∙ sym (returns-clause-entries g c))
    (sorted_insert es c.args.place c.args.page c.self.invariant)

pub invariant_of-self-2 : goal.invariant_of-self-2
invariant_of-self-2 g c = returns-clause-rising g c
