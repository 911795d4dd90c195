use Rattle.std.proofs.Common.{◌≡◌, ◌∙◌, ◌∷◌, ◌+◌, ◌++◌, ap, arith, drop, string_bytes, sym}
use Rattle.std.proofs.Math.ListN.{drop_of_length-le}
use Rattle.std.proofs.lemmas.List.{drop_more}
use Rattle.std.specs.List.{flat_map}
use Rattle.shm_place.specs.declared.page_id.PageId.{PageId}
use Rattle.shm_steps.specs.Section.{row_text}
use Rattle.shm_steps.proofs.Told.{told_last, told_next}
use Rattle.shm_steps.proofs.pages_table.tell_rows.Goals as goal

pub pages-preserved : goal.pages-preserved
pages-preserved g c = λ w stands.
    let pages = c.args.pages.now in
    let page : PageId = c.page-item.result in
    let dropped : drop c.pages.page-index pages ≡ page ∷ drop (c.pages.page-index + 1) pages =
    drop_more pages c.pages.page-index page (omega (arith, c.pages-test.true)) ∙ ap (λ x. x ∷ drop (c.pages.page-index + 1) pages) (sym c.page-item.is) in
    told_next (row_text w) page (drop c.pages.page-index pages) (drop (c.pages.page-index + 1) pages) (string_bytes c.pages.out) (string_bytes c.tell_row.new.out)
    (string_bytes c.args.out.now ++ flat_map (row_text w) pages) (c.in_ok-tell_row.ensures w stands) dropped (c.pages.invariant w stands)

pub returns : goal.returns
returns g c = λ w stands.
    told_last (row_text w) (drop c.pages.page-index c.args.pages.now) (string_bytes c.pages.out) (string_bytes c.args.out.now ++ flat_map (row_text w) c.args.pages.now)
    (drop_of_length-le c.args.pages.now (omega (arith, c.pages-test.false))) (c.pages.invariant w stands)
