use Rattle.std.proofs.Common.{[], ap, refl, sym}
use Rattle.shm_attach.specs.Home.{kept_of}
use Rattle.shm_model.specs.declared.answer.Answer.TheVariants.{Took}
use Rattle.shm_model.specs.Site.{still}
use Rattle.shm_model.specs.Book.{without_volatile}
use Rattle.shm_parts.specs.Books.{booked_of, books_of}
use Rattle.shm_parts.specs.Pendings.{pendings_of}
use Rattle.shm_site.specs.Site.{site_of}
use Rattle.shm_site.proofs.SiteParts.{Parts, same_parts}
use Rattle.shm_site.proofs.site.Site.restart.Goals as goal

pub returns-clause-step : goal.returns-clause-step
returns-clause-step g c =
    let self = c.args.self.now in
    let kept : Parts = record { books = λ page. without_volatile (books_of self.me self.books page); booked = booked_of self.books; requests = self.requests; pending = []; calls = self.calls; table = self.home.table; kept = kept_of self.home.kept } in
    let after : Parts = record { books = books_of self.me c.forget_volatile.new.self; booked = booked_of c.forget_volatile.new.self; requests = self.requests; pending = pendings_of c.clear.new.self; calls = self.calls; table = self.home.table; kept = kept_of self.home.kept } in
    ap (still Took) (same_parts kept after (site_of self) (sym (c.forget_volatile.ensures.books self.me)) (sym c.forget_volatile.ensures.booked) refl (sym c.clear.ensures) refl refl refl)
