use Rattle.std.proofs.Common.{◌≡◌, ◌∙◌, ◌<◌, ◌≤◌, Some, is_some, List, length, slice_index_or, true, ap, subst, sym, arith}
use Rattle.shm_parts.specs.Places.{is_behind, page_at}
use Rattle.shm_parts.proofs.RisingLemmas.{Row, first_behind, first_found, first_least, none_behind, up_to}
use Rattle.shm_parts.proofs.pages_by_place.RisingPlaces.first_after.Goals as goal

pub returns-then-index-len-clause-none : goal.returns-then-index-len-clause-none
returns-then-index-len-clause-none g c = λ place back.
    let es = c.self.inside.pages.items in
    let last = c.args.last in
    let index : c.count_up_to-index.result ≡ up_to last es = c.count_up_to-index.ensures ∙ ap (up_to last) c.as_slice.ensures.value in
    let past : length es ≤ c.count_up_to-index.result = omega arith in
    ap (λ (l : List Row). page_at l place) (sym c.self.view_is) ∙ none_behind last es (subst (λ k. length es ≤ k) index past) place back

pub returns-clause-found : goal.returns-clause-found
returns-clause-found g c =
    let es = c.self.inside.pages.items in
    let last = c.args.last in
    let row = c.index.result.now in
    let index : c.count_up_to-index.result ≡ up_to last es = c.count_up_to-index.ensures ∙ ap (up_to last) c.as_slice.ensures.value in
    let within : c.count_up_to-index.result < length es = omega arith in
    let read : row ≡ slice_index_or es (up_to last es) row = c.index.ensures ∙ ap (λ k. slice_index_or es k row) index in
    ap (λ (l : List Row). page_at l row.0) (sym c.self.view_is)
    ∙ subst (λ (r : Row). page_at es r.0 ≡ Some r.1) (sym read) (first_found last es row (subst (λ k. k < length es) index within))

pub returns-clause-behind : goal.returns-clause-behind
returns-clause-behind g c =
    let es = c.self.inside.pages.items in
    let last = c.args.last in
    let row = c.index.result.now in
    let index : c.count_up_to-index.result ≡ up_to last es = c.count_up_to-index.ensures ∙ ap (up_to last) c.as_slice.ensures.value in
    let within : c.count_up_to-index.result < length es = omega arith in
    let read : row ≡ slice_index_or es (up_to last es) row = c.index.ensures ∙ ap (λ k. slice_index_or es k row) index in
    subst (λ (r : Row). is_behind last r.0 ≡ true) (sym read) (first_behind last es row (subst (λ k. k < length es) index within))

pub returns-clause-least : goal.returns-clause-least
returns-clause-least g c = λ place back there.
    let es = c.self.inside.pages.items in
    let last = c.args.last in
    let row = c.index.result.now in
    let index : c.count_up_to-index.result ≡ up_to last es = c.count_up_to-index.ensures ∙ ap (up_to last) c.as_slice.ensures.value in
    let within : c.count_up_to-index.result < length es = omega arith in
    let read : row ≡ slice_index_or es (up_to last es) row = c.index.ensures ∙ ap (λ k. slice_index_or es k row) index in
    subst (λ (r : Row). r.0 ≤ place) (sym read)
    (first_least last es row c.self.invariant (subst (λ k. k < length es) index within) place back (subst (λ (l : List Row). is_some (page_at l place) ≡ true) (sym c.self.view_is) there))
