use Rattle.std.proofs.Common.{rules, ◌≡◌, ◌∙◌, ◌≤◌, ◌++◌, [], ◌∷◌, None, Some, ap, sym, refl, subst, arith, filter, is_some, length, slice_index_or, slice_set, vec_capacity, vec_len}
use Rattle.std.proofs.lemmas.Fn.{filter_same}
use Rattle.std.proofs.lemmas.Option.{none-some}
use Rattle.std.specs.Map.{lookup}
use Rattle.shm_place.specs.Page.{same_page}
use Rattle.shm_parts.specs.OrderedPages.{IsIndexed, IsWithin, is_apart, moved_last, place_in, standing}
use Rattle.shm_parts.proofs.OrderedPagesLemmas.{within-moved}
use Rattle.shm_parts.proofs.PageRowLemmas.{absent-lookup, indexed-moved, moved-apart, moved-count, moved-found, moved-none, moved-standing, place-within, standing-within, swept-standing}
use Rattle.shm_parts.proofs.ordered_pages.OrderedPages.move_last.Goals as goal

pub returns-in_default-clause-order : goal.returns-in_default-clause-order
returns-in_default-clause-order g c =
    let page = c.args.page.now in
    c.self.view_is ∙ moved-none page c.args.self.now
    (ap (lookup (same_page page)) (sym c.self.view_is) ∙ absent-lookup page c.self.inside.rows.items (sym (c.self.invariant.0.found page) ∙ sym c.in_default.ensures.value))

pub returns-in_default-clause-moved : goal.returns-in_default-clause-moved
returns-in_default-clause-moved g c = λ value found.
    let page = c.args.page.now in
    absurd (none-some value (sym (ap (lookup (same_page page)) (sym c.self.view_is)
    ∙ absent-lookup page c.self.inside.rows.items (sym (c.self.invariant.0.found page) ∙ sym c.in_default.ensures.value)) ∙ found))

pub index_mut-requires : goal.index_mut-requires
index_mut-requires g c =
    let page = c.args.page.now in
    let counted : vec_len c.self.inside.rows ≡ length c.self.inside.rows.items = search rules in
    omega (arith, counted, place-within page c.in-Some.place.now c.self.inside.rows.items (sym (c.self.invariant.0.found page) ∙ sym c.in-Some.ensures.value))

pub invariant_of-self-then-len-capacity : goal.invariant_of-self-then-len-capacity
invariant_of-self-then-len-capacity g c =
    let page = c.args.page.now in
    let items = c.self.inside.rows.items in
    let k = c.in-Some.place.now in
    let row = c.take-row.result in
    let at : lookup (same_page page) c.self.inside.places.entries ≡ Some k = sym c.in-Some.ensures.value in
    let here : place_in page items ≡ Some k = sym (c.self.invariant.0.found page) ∙ at in
    let read : row ≡ slice_index_or items k row = subst (λ r. r ≡ slice_index_or items k r) (sym c.take-row.ensures.value) c.index_mut.ensures.value in
    let n = c.len-then-len-capacity.result in
    let written = c.get_mut.follows.holds n in
    let values = (written.3 (ap is_some at)).0 in
    let counted : vec_len c.self.inside.rows ≡ length items = search rules in
    let now : c.push_reserved.new.self.items ≡ slice_set items k None ++ row ∷ [] = c.push_reserved.ensures.items ∙ ap (λ r. slice_set items k r ++ row ∷ []) c.take-row.ensures.after in (
      subst (λ l. IsIndexed (c.get_mut.follows.lender n).entries l) (sym now)
          (indexed-moved page k n row c.self.inside.places.entries (c.get_mut.follows.lender n).entries items c.self.invariant.0 at read (c.len-then-len-capacity.ensures ∙ counted)
          values written.2),
      subst (IsWithin c.self.inside.last) (sym (ap standing now ∙ moved-standing page k row (slice_set items k None) items c.self.invariant.0.apart here read refl))
          (within-moved c.self.inside.last page (standing items) c.self.invariant.1),
    )

pub returns-then-len-capacity-clause-order : goal.returns-then-len-capacity-clause-order
returns-then-len-capacity-clause-order g c =
    let page = c.args.page.now in
    let items = c.self.inside.rows.items in
    let k = c.in-Some.place.now in
    let row = c.take-row.result in
    let here : place_in page items ≡ Some k = sym (c.self.invariant.0.found page) ∙ sym c.in-Some.ensures.value in
    let read : row ≡ slice_index_or items k row = subst (λ r. r ≡ slice_index_or items k r) (sym c.take-row.ensures.value) c.index_mut.ensures.value in
    let now : c.push_reserved.new.self.items ≡ slice_set items k None ++ row ∷ [] = c.push_reserved.ensures.items ∙ ap (λ r. slice_set items k r ++ row ∷ []) c.take-row.ensures.after in
    ap standing now ∙ moved-standing page k row (slice_set items k None) items c.self.invariant.0.apart here read refl ∙ ap (moved_last page) c.self.view_is

pub returns-then-len-capacity-clause-moved : goal.returns-then-len-capacity-clause-moved
returns-then-len-capacity-clause-moved g c = λ value found. returns-then-len-capacity-clause-order g c ∙ moved-found c.args.page.now value c.args.self.now found

pub push_reserved-requires-2 : goal.push_reserved-requires-2
push_reserved-requires-2 g c =
    let page = c.args.page.now in
    let items = c.self.inside.rows.items in
    let k = c.in-Some.place.now in
    let here : place_in page items ≡ Some k = sym (c.self.invariant.0.found page) ∙ sym c.in-Some.ensures.value in
    let left : c.retain.new.self.items ≡ filter is_some (slice_set items k None) =
    filter_same _ is_some _ (λ x b f' h. search rules) _ _ c.retain.ensures.filtered ∙ ap (λ r. filter is_some (slice_set items k r)) c.take-row.ensures.after in
    let counted : vec_len c.self.inside.rows ≡ length items = search rules in
    let fits : vec_len c.self.inside.rows ≤ vec_capacity c.self.inside.rows = search rules in
    let fewer : vec_len c.retain.new.self ≡ length c.retain.new.self.items = search rules in
    let few : length c.retain.new.self.items ≡ length (filter is_some (slice_set items k None)) = ap (λ l. length l) left in
    let room : vec_capacity c.retain.new.self ≡ vec_capacity c.self.inside.rows = c.retain.ensures.capacity in
    let count = moved-count page k items here in
    let within = standing-within items in
    omega (arith, counted, fits, fewer, few, room, count, within)

pub index-requires-clause-apart : goal.index-requires-clause-apart
index-requires-clause-apart g c =
    let page = c.args.page.now in
    let items = c.self.inside.rows.items in
    let k = c.in-Some.place.now in
    let row = c.take-row.result in
    let here : place_in page items ≡ Some k = sym (c.self.invariant.0.found page) ∙ sym c.in-Some.ensures.value in
    let read : row ≡ slice_index_or items k row = subst (λ r. r ≡ slice_index_or items k r) (sym c.take-row.ensures.value) c.index_mut.ensures.value in
    let left : c.retain.new.self.items ≡ filter is_some (slice_set items k None) =
    filter_same _ is_some _ (λ x b f' h. search rules) _ _ c.retain.ensures.filtered ∙ ap (λ r. filter is_some (slice_set items k r)) c.take-row.ensures.after in
    ap is_apart (c.push_reserved-2.ensures.items ∙ ap (λ l. l ++ row ∷ []) left) ∙ moved-apart page k row items c.self.invariant.0.apart here read

pub index-requires-clause-room : goal.index-requires-clause-room
index-requires-clause-room g c =
    let page = c.args.page.now in
    let items = c.self.inside.rows.items in
    let k = c.in-Some.place.now in
    let here : place_in page items ≡ Some k = sym (c.self.invariant.0.found page) ∙ sym c.in-Some.ensures.value in
    let left : c.retain.new.self.items ≡ filter is_some (slice_set items k None) =
    filter_same _ is_some _ (λ x b f' h. search rules) _ _ c.retain.ensures.filtered ∙ ap (λ r. filter is_some (slice_set items k r)) c.take-row.ensures.after in
    let fewer : vec_len c.retain.new.self ≡ length c.retain.new.self.items = search rules in
    let few : length c.retain.new.self.items ≡ length (filter is_some (slice_set items k None)) = ap (λ l. length l) left in
    let count = moved-count page k items here in
    let written = c.get_mut.follows.holds k in
    omega (arith, fewer, few, count, c.push_reserved-2.ensures.len, c.self.invariant.0.count, written.2)

pub returns-clause-order : goal.returns-clause-order
returns-clause-order g c =
    let page = c.args.page.now in
    let items = c.self.inside.rows.items in
    let k = c.in-Some.place.now in
    let row = c.take-row.result in
    let here : place_in page items ≡ Some k = sym (c.self.invariant.0.found page) ∙ sym c.in-Some.ensures.value in
    let read : row ≡ slice_index_or items k row = subst (λ r. r ≡ slice_index_or items k r) (sym c.take-row.ensures.value) c.index_mut.ensures.value in
    let left : c.retain.new.self.items ≡ filter is_some (slice_set items k None) =
    filter_same _ is_some _ (λ x b f' h. search rules) _ _ c.retain.ensures.filtered ∙ ap (λ r. filter is_some (slice_set items k r)) c.take-row.ensures.after in
    ap standing (c.push_reserved-2.ensures.items ∙ ap (λ l. l ++ row ∷ []) left)
    ∙ moved-standing page k row (filter is_some (slice_set items k None)) items c.self.invariant.0.apart here read (swept-standing (slice_set items k None))
    ∙ ap (moved_last page) c.self.view_is

pub returns-clause-moved : goal.returns-clause-moved
returns-clause-moved g c = λ value found. returns-clause-order g c ∙ moved-found c.args.page.now value c.args.self.now found

pub invariant_of-self-2 : goal.invariant_of-self-2
invariant_of-self-2 g c =
    let page = c.args.page.now in
    let items = c.self.inside.rows.items in
    let k = c.in-Some.place.now in
    let row = c.take-row.result in
    let here : place_in page items ≡ Some k = sym (c.self.invariant.0.found page) ∙ sym c.in-Some.ensures.value in
    let read : row ≡ slice_index_or items k row = subst (λ r. r ≡ slice_index_or items k r) (sym c.take-row.ensures.value) c.index_mut.ensures.value in
    let left : c.retain.new.self.items ≡ filter is_some (slice_set items k None) =
    filter_same _ is_some _ (λ x b f' h. search rules) _ _ c.retain.ensures.filtered ∙ ap (λ r. filter is_some (slice_set items k r)) c.take-row.ensures.after in (
      c.index.ensures,
      subst (IsWithin c.self.inside.last) (sym (ap standing (c.push_reserved-2.ensures.items ∙ ap (λ l. l ++ row ∷ []) left)
          ∙ moved-standing page k row (filter is_some (slice_set items k None)) items c.self.invariant.0.apart here read (swept-standing (slice_set items k None))))
          (within-moved c.self.inside.last page (standing items) c.self.invariant.1),
    )
