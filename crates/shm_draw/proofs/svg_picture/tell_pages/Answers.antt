use Rattle.std.proofs.Common.{◌≡◌, ◌∙◌, ◌∷◌, ◌+◌, ap, arith, drop, string_bytes, sym}
use Rattle.std.proofs.Math.ListN.{drop_of_length-le}
use Rattle.std.proofs.lemmas.List.{drop_more}
use Rattle.shm_place.specs.declared.page_id.PageId.{PageId}
use Rattle.shm_draw.proofs.Going.{paging_all, paging_more, paging_none}
use Rattle.shm_draw.proofs.svg_picture.tell_pages.Goals as goal

pub pages-init : goal.pages-init
pages-init g c = λ w stands. paging_none c.args.pages.now w c.args.events.now c.args.captions.now (string_bytes c.args.out.now)

pub pages-preserved : goal.pages-preserved
pages-preserved g c = λ w stands.
    let pages = c.args.pages.now in
    let page : PageId = c.page-item.result in
    let dropped : drop c.pages.page-index pages ≡ page ∷ drop (c.pages.page-index + 1) pages =
    drop_more pages c.pages.page-index page (omega (arith, c.pages-test.true)) ∙ ap (λ x. x ∷ drop (c.pages.page-index + 1) pages) (sym c.page-item.is) in
    paging_more pages w c.args.events.now c.args.captions.now (string_bytes c.args.out.now) (string_bytes c.pages.out) (string_bytes c.tell_page.new.out)
    c.pages.page-index c.pages.top c.in_ok-depth.depth c.in_ok-top.top page
    (c.pages.invariant w stands) dropped (c.in_ok-depth.ensures w (c.in_ok-copy.ensures w stands)) c.in_ok-top.ensures

pub returns : goal.returns
returns g c = λ w stands.
    paging_all c.args.pages.now w c.args.events.now c.args.captions.now (string_bytes c.args.out.now) (string_bytes c.pages.out) c.pages.page-index c.pages.top
    (drop_of_length-le c.args.pages.now (omega (arith, c.pages-test.false))) (c.pages.invariant w stands)
