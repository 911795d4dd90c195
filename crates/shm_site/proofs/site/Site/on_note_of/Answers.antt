use Rattle.std.proofs.Common.{◌∙◌, Bool, ap, if◌then◌else◌, refl, sym}
use Rattle.shm_model.specs.Site.{dropped}
use Rattle.shm_model.specs.Transfer.{on_note}
use Rattle.shm_parts.specs.Message.{note_of}
use Rattle.shm_site.specs.Site.{site_of}
use Rattle.shm_site.proofs.Steps.{quietly}
use Rattle.shm_site.proofs.site.Site.on_note_of.Goals as goal

pub returns-then-is_purged-clause-step : goal.returns-then-is_purged-clause-step
returns-then-is_purged-clause-step g c =
    let site = c.args.self.now in
    quietly (g.O.Outbox.nothing c.args.outbox.now) (refl, refl)
    (ap (λ (purged : Bool). if purged then dropped (site_of site) else on_note site.sites site.me c.args.from c.args.page.now (note_of c.args.note) (site_of site)) (sym c.is_purged.ensures ∙ c.if-is_purged.true))
