use Rattle.std.proofs.Common.{◌∙◌, arith}
use Rattle.std.specs.Map.{lookup}
use Rattle.shm_place.specs.Page.{same_page}
use Rattle.shm_model.specs.Book as model
use Rattle.shm_parts.specs.Books.{booked_of}
use Rattle.shm_parts.proofs.BookedLemmas.{gone_end, kept-all, kept-more, kept-none}
use Rattle.shm_parts.proofs.GoneLemmas.{gone_start, gone_step}
use Rattle.shm_parts.proofs.books.Books.remove_segment.Goals as goal

pub pages-init : goal.pages-init
pages-init g c = record { books = λ q. gone_start (lookup (same_page q) c.args.self.now.map.entries) c.args.id q; booked = kept-none c.args.id (booked_of c.args.self.now) }

pub pages-preserved : goal.pages-preserved
pages-preserved g c =
    let old = c.args.self.now in
    record {
      books = λ q. gone_step (lookup (same_page q) old.map.entries) (lookup (same_page q) c.pages.self.map.entries) (lookup (same_page q) c.remove.new.self.map.entries) c.args.id c.pages.index q (c.pages.invariant.books q) (c.remove.ensures.books q);
      booked = kept-more c.args.id c.pages.index (booked_of c.pages.self) (booked_of c.remove.new.self) (booked_of old) c.pages.invariant.booked c.remove.ensures.booked;
    }

pub returns-clause-books : goal.returns-clause-books
returns-clause-books g c = λ me.
    let old = c.args.self.now in
    gone_end old.map.entries old.bookings c.args.id c.end_of-end.result c.pages.index (omega (arith, c.pages-test.false)) old.booked c.end_of-end.ensures c.pages.self.map.entries (model.untouched_book me) c.pages.invariant.books

pub returns-clause-booked : goal.returns-clause-booked
returns-clause-booked g c =
    let old = c.args.self.now in
    c.pages.invariant.booked ∙ kept-all old.map.entries old.bookings c.args.id c.end_of-end.result c.pages.index (omega (arith, c.pages-test.false)) old.booked c.end_of-end.ensures
