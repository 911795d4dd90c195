use Rattle.std.proofs.Common.{◌∙◌, ap}
use Rattle.shm_attach.specs.Home.{Home, kept_of}
use Rattle.shm_model.specs.Site.{Site}
use Rattle.shm_parts.specs.Books.{booked_of, books_of}
use Rattle.shm_parts.specs.Pendings.{pendings_of}
use Rattle.shm_site.specs.Site.{site_of}
use Rattle.shm_site.proofs.SiteParts.{Parts, same_parts, with_parts}
use Rattle.shm_site.proofs.site.Site.copy.Goals as goal

pub returns-clause-site : goal.returns-clause-site
returns-clause-site g c =
    let self = c.args.self.now in
    let copied : Parts = record { books = books_of self.me c.in_ok-books.books; booked = booked_of c.in_ok-books.books; requests = c.copy-5.result; pending = pendings_of c.in_ok-pending.pending; calls = c.copy-6.result; table = c.in_ok-home.home.table; kept = kept_of c.in_ok-home.home.kept } in
    let own : Parts = record { books = books_of self.me self.books; booked = booked_of self.books; requests = self.requests; pending = pendings_of self.pending; calls = self.calls; table = self.home.table; kept = kept_of self.home.kept } in
    ap (λ (site : Site). with_parts copied site) (c.in_ok-holdings.ensures.held self.sites self.me (site_of self))
    ∙ same_parts copied own (site_of self) (c.in_ok-books.ensures.books self.me) c.in_ok-books.ensures.booked c.copy-5.ensures c.in_ok-pending.ensures c.copy-6.ensures (ap (λ (h : Home). h.table) c.in_ok-home.ensures) (ap (λ (h : Home). kept_of h.kept) c.in_ok-home.ensures)

pub invariant_of-result : goal.invariant_of-result
invariant_of-result g c =
    let self = c.args.self.now in
    record {
      below = self.below;
      held_sites = c.in_ok-holdings.ensures.seat.0 ∙ self.held_sites;
      held_me = c.in_ok-holdings.ensures.seat.1 ∙ self.held_me;
      own_home = ap (λ (h : Home). h.table.home) c.in_ok-home.ensures ∙ self.own_home;
      all_sites = ap (λ (h : Home). h.table.sites) c.in_ok-home.ensures ∙ self.all_sites;
    }
