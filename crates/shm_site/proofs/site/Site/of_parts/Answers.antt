use Rattle.std.proofs.Common.{[], None}
use Rattle.shm_attach.specs.Home.{kept_of}
use Rattle.shm_model.specs.Book.{untouched_book}
use Rattle.shm_model.specs.Site.{new_site}
use Rattle.shm_parts.specs.Books.{booked_of, books_of}
use Rattle.shm_parts.specs.Holdings.{with_holdings}
use Rattle.shm_parts.specs.Pendings.{pendings_of}
use Rattle.shm_site.proofs.SiteParts.{Parts, same_parts}
use Rattle.shm_site.proofs.site.Site.of_parts.Goals as goal

pub returns-clause-site : goal.returns-clause-site
returns-clause-site g c =
    let me = c.args.me in
    let made : Parts = record { books = books_of me c.new.result; booked = booked_of c.new.result; requests = c.new-2.result; pending = pendings_of c.new-3.result; calls = c.new-4.result; table = c.new-5.result.table; kept = kept_of c.new-5.result.kept } in
    let fresh : Parts = record { books = λ _. untouched_book me; booked = []; requests = 0; pending = []; calls = record { begun = 0; outstanding = None }; table = c.args.table; kept = λ _. None } in
    same_parts made fresh (with_holdings c.args.sites me c.args.holdings (new_site c.args.sites me)) (c.new.ensures.books me) c.new.ensures.booked c.new-2.ensures c.new-3.ensures c.new-4.ensures c.new-5.ensures.table c.new-5.ensures.kept
