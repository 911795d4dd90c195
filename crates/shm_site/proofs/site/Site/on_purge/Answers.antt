use Rattle.std.proofs.Common.{◌≡◌, true, false, not, sym, refl, ◌∙◌}
use Rattle.shm_model.specs.Site.{is_attached}
use Rattle.shm_parts.specs.Books.{booked_of, books_of}
use Rattle.shm_parts.specs.Holdings.{with_holdings}
use Rattle.shm_parts.specs.Pendings.{pendings_of}
use Rattle.shm_site.specs.Site.{site_of}
use Rattle.shm_site.proofs.CallSteps.{not_purged, purged_done}
use Rattle.shm_site.proofs.Steps.{on_err, one_sent}
use Rattle.shm_site.proofs.site.Site.on_purge.Goals as goal

pub returns-in_err-purge-clause-refused : goal.returns-in_err-purge-clause-refused
returns-in_err-purge-clause-refused g c =
    on_err c.from_residual.result (record { site = c.in_err-purge.ensures.refused c.args.self.now.sites c.args.self.now.me (site_of c.args.self.now); behind = c.purge.ensures.same; seat = (refl, refl) })

pub returns-then-not-branch-clause-step : goal.returns-then-not-branch-clause-step
returns-then-not-branch-clause-step g c =
    let site = c.args.self.now in
    let old = site_of site in
    let undone : c.in_ok-purge.field-0 ≡ false = c.if-not-branch.true in
    let named : c.in_ok-purge.field-0 ≡ not (is_attached old c.args.id) = c.in_ok-purge.ensures.unnamed old in
    let held = rw undone at (c.in_ok-purge.ensures.after site.sites site.me old) in
    record {
      makes = record { sent = _; behind = c.purge.ensures.same; made = not_purged site.sites site.me c.args.id old (with_holdings site.sites site.me c.purge.new.self old) (sym undone ∙ named) held };
      seat = (refl, refl);
    }

pub returns-clause-step : goal.returns-clause-step
returns-clause-step g c =
    let site = c.args.self.now in
    let old = site_of site in
    let done : c.in_ok-purge.field-0 ≡ true = c.if-not-branch.false in
    let named : c.in_ok-purge.field-0 ≡ not (is_attached old c.args.id) = c.in_ok-purge.ensures.unnamed old in
    let held = rw done at (c.in_ok-purge.ensures.after site.sites site.me old) in
    record {
      makes = one_sent _ c.purge.new.outbox g.O.Outbox.joined c.purge.ensures.same c.push.ensures.posted
          (purged_done site.sites site.me c.args.id c.home_of_id.result old (with_holdings site.sites site.me c.purge.new.self old)
          (books_of site.me c.remove_segment.new.self) (booked_of c.remove_segment.new.self) (pendings_of c.remove_segment-2.new.self)
          (sym done ∙ named) held
          (c.remove_segment.ensures.books site.me) c.remove_segment.ensures.booked c.remove_segment-2.ensures
          c.home_of_id.ensures.home);
      seat = (refl, refl);
    }
