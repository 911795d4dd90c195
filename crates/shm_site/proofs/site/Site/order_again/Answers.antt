use Rattle.std.proofs.Common.{◌≡◌, ◌++◌, ◌∙◌, Some, ap, refl, map}
use Rattle.shm_manager.specs.Book.{book_of}
use Rattle.shm_model.specs.Book.{Book, orders}
use Rattle.shm_model.specs.Transfer.{order_envelopes}
use Rattle.shm_parts.specs.Books.{booked_after, books_of}
use Rattle.shm_site.specs.Site.{site_of}
use Rattle.shm_parts.specs.Message.{envelope_of}
use Rattle.shm_site.proofs.Ticks.{idle_for, orders_done, orders_fewer, orders_more, orders_none}
use Rattle.shm_site.proofs.site.Site.order_again.Goals as goal

pub pages-init : goal.pages-init
pages-init g c = orders_none c.args.self.now.me (site_of c.args.self.now) (map envelope_of c.args.list.now.items) (map envelope_of c.args.list.now.items) refl

pub pages-smaller : goal.pages-smaller
pages-smaller g c =
    let self = c.args.self.now in
    orders_fewer (booked_after c.pages.last self.books) c.in-Some.ensures.next.0 (booked_after (Some c.in-Some.place) self.books) c.in-Some.page c.in-Some.ensures.next.1

pub pages-preserved : goal.pages-preserved
pages-preserved g c =
    let self = c.args.self.now in
    let page = c.in-Some.page in
    let same : book_of c.in-Some.book.now ≡ books_of self.me self.books page = c.in-Some.ensures.book self.me in
    orders_more self.me (site_of self) (map envelope_of c.args.list.now.items) (map envelope_of c.pages.list.items) (map envelope_of c.resend.new.list.items)
    (booked_after c.pages.last self.books) c.in-Some.ensures.next.0 (booked_after (Some c.in-Some.place) self.books) page c.pages.invariant c.in-Some.ensures.next.1
    (idle_for self.me (λ me page. (books_of me self.books page).running) c.in-Some.ensures.next.0 c.in-Some.ensures.next.2)
    (c.in_ok-resend.ensures ∙ ap (λ (b : Book). (map envelope_of c.pages.list.items) ++ order_envelopes self.me page b (orders b)) same)

pub returns : goal.returns
returns g c =
    let self = c.args.self.now in
    orders_done self.me (site_of self) (map envelope_of c.args.list.now.items) (map envelope_of c.pages.list.items) (booked_after c.pages.last self.books) c.pages.invariant
    (idle_for self.me (λ me page. (books_of me self.books page).running) (booked_after c.pages.last self.books) c.in_default.ensures.rest)
