use Rattle.std.proofs.Common.{rules, ◌≡◌, ◌∙◌, ◌≤◌, Some, ap, sym, arith, is_some, length, not, vec_len}
use Rattle.std.specs.Map.{lookup}
use Rattle.shm_place.specs.Page.{same_page}
use Rattle.shm_parts.specs.OrderedPages.{standing}
use Rattle.shm_parts.proofs.OrderedPagesLemmas.{insert-new}
use Rattle.shm_parts.proofs.PageRowLemmas.{absent-lookup, indexed-more, more-standing, put-standing}
use Rattle.shm_parts.proofs.PutRowLemmas.{indexed-value, place-found, place-new, there-lookup}
use Rattle.shm_parts.proofs.page_vector_helpers.put_row.Goals as goal

pub returns-then-place-end-clause-put : goal.returns-then-place-end-clause-put
returns-then-place-end-clause-put g c =
    let row = c.args.row in
    let places = c.args.places.now.entries in
    let place = c.in_ok-place.place in
    let at : lookup (same_page row.0) places ≡ Some place = place-found row.0 c.len-end.result place places c.in_ok-place.ensures.place c.if-place-end.true in
    put-standing row.0 row.1 place c.args.rows.now.items (sym (c.requires.indexed.found row.0) ∙ at)

pub returns-then-place-end-clause-joins : goal.returns-then-place-end-clause-joins
returns-then-place-end-clause-joins g c =
    let row = c.args.row in
    let places = c.args.places.now.entries in
    let place = c.in_ok-place.place in
    let at : lookup (same_page row.0) places ≡ Some place = place-found row.0 c.len-end.result place places c.in_ok-place.ensures.place c.if-place-end.true in
    sym (ap not (there-lookup row.0 place c.args.rows.now.items (sym (c.requires.indexed.found row.0) ∙ at)))

pub returns-then-place-end-clause-indexed : goal.returns-then-place-end-clause-indexed
returns-then-place-end-clause-indexed g c =
    let row = c.args.row in
    let places = c.args.places.now.entries in
    let place = c.in_ok-place.place in
    let at : lookup (same_page row.0) places ≡ Some place = place-found row.0 c.len-end.result place places c.in_ok-place.ensures.place c.if-place-end.true in
    indexed-value row.0 row.1 place places c.place_or.new.places.entries c.args.rows.now.items c.requires.indexed at c.in_ok-place.ensures.entries

pub push_reserved-requires : goal.push_reserved-requires
push_reserved-requires g c =
    let row = c.args.row in
    let items = c.args.rows.now.items in
    let counted : vec_len c.args.rows.now ≡ length items = search rules in
    let past : c.len-end.result ≤ c.in_ok-place.place = omega (arith, c.if-place-end.false) in
    let new = place-new row.0 c.len-end.result c.in_ok-place.place c.args.places.now.entries items c.requires.indexed.found (c.len-end.ensures ∙ counted) c.in_ok-place.ensures.place past in
    c.requires.room (absent-lookup row.0 items (sym (c.requires.indexed.found row.0) ∙ new.0))

pub returns-clause-put : goal.returns-clause-put
returns-clause-put g c =
    let row = c.args.row in
    let items = c.args.rows.now.items in
    let counted : vec_len c.args.rows.now ≡ length items = search rules in
    let past : c.len-end.result ≤ c.in_ok-place.place = omega (arith, c.if-place-end.false) in
    let new = place-new row.0 c.len-end.result c.in_ok-place.place c.args.places.now.entries items c.requires.indexed.found (c.len-end.ensures ∙ counted) c.in_ok-place.ensures.place past in
    ap standing c.push_reserved.ensures.items ∙ more-standing (Some row) items
    ∙ sym (insert-new row.0 row.1 (standing items) (absent-lookup row.0 items (sym (c.requires.indexed.found row.0) ∙ new.0)))

pub returns-clause-joins : goal.returns-clause-joins
returns-clause-joins g c =
    let row = c.args.row in
    let items = c.args.rows.now.items in
    let counted : vec_len c.args.rows.now ≡ length items = search rules in
    let past : c.len-end.result ≤ c.in_ok-place.place = omega (arith, c.if-place-end.false) in
    let new = place-new row.0 c.len-end.result c.in_ok-place.place c.args.places.now.entries items c.requires.indexed.found (c.len-end.ensures ∙ counted) c.in_ok-place.ensures.place past in
    sym (ap (λ o. not (is_some o)) (absent-lookup row.0 items (sym (c.requires.indexed.found row.0) ∙ new.0)))

pub returns-clause-indexed : goal.returns-clause-indexed
returns-clause-indexed g c =
    let row = c.args.row in
    let items = c.args.rows.now.items in
    let counted : vec_len c.args.rows.now ≡ length items = search rules in
    let past : c.len-end.result ≤ c.in_ok-place.place = omega (arith, c.if-place-end.false) in
    let new = place-new row.0 c.len-end.result c.in_ok-place.place c.args.places.now.entries items c.requires.indexed.found (c.len-end.ensures ∙ counted) c.in_ok-place.ensures.place past in
    rw c.push_reserved.ensures.items (indexed-more row c.in_ok-place.place c.args.places.now.entries c.place_or.new.places.entries items c.requires.indexed
    (absent-lookup row.0 items (sym (c.requires.indexed.found row.0) ∙ new.0)) (new.1 ∙ c.len-end.ensures ∙ counted) c.in_ok-place.ensures.entries c.in_ok-place.ensures.values)
