use Rattle.std.proofs.Common.{◌≡◌, ◌∙◌, ap, sym, arith}
use Rattle.shm_place.specs.SiteSet.{has}
use Rattle.shm_manager.specs.Book.{book_of, run_of}
use Rattle.shm_manager.proofs.Members.{gathered_none, gathered_here, gathered_not_here, gathered_all, gathered_any}
use Rattle.shm_manager.proofs.book.Book.awaited.Goals as goal
use Rattle.shm_manager.proofs.book.Book.awaited.Goals.{then-awaits, else-awaits}

pub sites-init : goal.sites-init
sites-init g c =
    gathered_none (book_of c.args.self.now) (run_of c.args.kind c.args.requester) c.empty-missing.result c.empty-missing.ensures

pub sites-preserved : goal.sites-preserved
sites-preserved g c =
    elim c.if-awaits.branch [
      | then-awaits w ↦ gathered_here (book_of c.args.self.now) (run_of c.args.kind c.args.requester) c.sites.site c.sites.missing c.if-awaits.missing c.sites.invariant (sym c.awaits.ensures ∙ w.if-awaits.true) (ap has w.missing-is ∙ w.insert.ensures)
      | else-awaits w ↦ gathered_not_here (book_of c.args.self.now) (run_of c.args.kind c.args.requester) c.sites.site c.sites.missing c.if-awaits.missing c.sites.invariant (sym c.awaits.ensures ∙ w.if-awaits.false) w.missing-is
    ]

pub returns-clause-sites : goal.returns-clause-sites
returns-clause-sites g c =
    let whole : c.sites.site ≡ 16 = omega arith in
    gathered_all (book_of c.args.self.now) (run_of c.args.kind c.args.requester) c.sites.site c.sites.missing whole c.sites.invariant

pub returns-clause-none : goal.returns-clause-none
returns-clause-none g c =
    let whole : c.sites.site ≡ 16 = omega arith in
    gathered_any (book_of c.args.self.now) (run_of c.args.kind c.args.requester) c.sites.site c.sites.missing whole c.sites.invariant
