use Rattle.std.proofs.Common.{rules, ◌≡◌, ◌∙◌, ◌<◌, ap, subst, arith, length, take, slice_index_or, vec_len}
use Rattle.std.specs.Map.{lookup}
use Rattle.shm_place.specs.Page.{same_page}
use Rattle.shm_parts.specs.OrderedPages.{is_found, standing}
use Rattle.shm_parts.proofs.PageRowLemmas.{before-empty, before-more}
use Rattle.shm_parts.proofs.page_vector_helpers.index.Goals.{in-Some, in-None}
use Rattle.shm_parts.proofs.page_vector_helpers.index.Goals as goal

pub rows-preserved : goal.rows-preserved
rows-preserved g c =
    let items = c.args.rows.now.items in
    let place = c.rows.place in
    let counted : vec_len c.args.rows.now ≡ length items = search rules in
    let less : place < length items = omega (arith, counted, c.rows-test.true, c.len-place-end.ensures) in
    let before : is_found c.rows.places.entries (take place items) × (length c.rows.places.entries ≡ length (standing (take place items))) = (c.rows.invariant.found, c.rows.invariant.count) in
    elim c.match-index.branch [
      | in-Some w ↦
          let read = subst (λ r. r ≡ slice_index_or items place r) w.in-Some.is c.index.ensures in
          let more = before-more c.rows.places.entries w.put.new.map.entries place w.in-Some.row items c.requires.apart less read before w.put.ensures.entries w.put.ensures.values in
          record {
            found = λ page. ap (λ m. lookup (same_page page) m.entries) w.places-is ∙ more.0 page;
            count = ap (λ m. length m.entries) w.places-is ∙ more.1;
            room = rw w.places-is (omega (arith, c.rows.invariant.room, w.put.ensures.room));
          }
      | in-None w ↦
          let read = subst (λ r. r ≡ slice_index_or items place r) w.in-None.is c.index.ensures in
          let more = before-empty c.rows.places.entries place items less read before in
          record {
            found = λ page. ap (λ m. lookup (same_page page) m.entries) w.places-is ∙ more.0 page;
            count = ap (λ m. length m.entries) w.places-is ∙ more.1;
            room = rw w.places-is (omega (arith, c.rows.invariant.room));
          }
    ]
