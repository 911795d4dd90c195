use Rattle.std.proofs.Common.{◌∙◌, ap}
use Rattle.shm_number.specs.Served.{served_of}
use Rattle.shm_model.specs.Book.{Book, orders_to, awaited}
use Rattle.shm_manager.specs.Book.{book_of, run_of}
use Rattle.shm_place.specs.SiteSet.{has}
use Rattle.shm_manager.proofs.Starts.{taken-fresh, started_by}
use Rattle.shm_manager.proofs.book.Book.start.Goals as goal

pub returns-clause-book : goal.returns-clause-book
returns-clause-book g c =
    started_by c.args.from c.args.request c.args.kind (book_of c.args.self.now) (has c.empty-self.result) (served_of c.take.new.self) c.empty-self.ensures (c.take.ensures ∙ taken-fresh (served_of c.args.self.now.served) c.args.from c.args.request c.requires.fresh)

pub returns-clause-orders : goal.returns-clause-orders
returns-clause-orders g c =
    c.orders_for.ensures
    ∙ ap (λ (b : Book). orders_to b (run_of c.args.kind c.args.from) (awaited b (run_of c.args.kind c.args.from))) (returns-clause-book g c)
