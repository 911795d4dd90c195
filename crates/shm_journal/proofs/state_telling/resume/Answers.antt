use Rattle.std.proofs.Common.{sym}
use Rattle.shm_site.specs.Site.{site_of}
use Rattle.shm_journal.proofs.TellingLemmas.{end_refused, end_told}
use Rattle.shm_journal.specs.StateOf.{ending_in}
use Rattle.shm_journal.proofs.state_telling.resume.Goals as goal

pub returns-in_default : goal.returns-in_default
returns-in_default g c = λ t h.
    end_refused c.args.telling t (ending_in c.args.ending) h (sym c.in_default.ensures.whole)

pub returns : goal.returns
returns g c = λ t h.
    let site = c.in-Ok.site in
    end_told c.args.telling c.restored-node.result t (ending_in c.args.ending) site.sites site.me (site_of site) h (sym c.in-Ok.ensures.whole) c.in-Ok.ensures.seat
    (c.in-Ok.ensures.site t.told h.tells) c.restored-node.ensures
