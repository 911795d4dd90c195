use Rattle.std.proofs.Common.{◌∙◌, refl, sym}
use Rattle.std.proofs.lemmas.Bool.{cond-true}
use Rattle.shm_model.specs.Refusal.{foreign_message}
use Rattle.shm_model.specs.Site.{still}
use Rattle.shm_model.specs.Step.{foreign, on_message}
use Rattle.shm_model.specs.declared.answer.Answer.TheVariants.{Refused}
use Rattle.shm_parts.specs.Message.{envelope_of}
use Rattle.shm_site.specs.Site.{site_of}
use Rattle.shm_site.proofs.Steps.{quietly}
use Rattle.shm_site.proofs.site.Site.deliver_addressed.Goals as goal

pub returns-then-is_improper-clause-step : goal.returns-then-is_improper-clause-step
returns-then-is_improper-clause-step g c =
    let site = c.args.self.now in
    let e = envelope_of c.args.envelope in
    quietly (g.O.Outbox.nothing c.args.outbox.now) (refl, refl)
    (cond-true (foreign site.sites site.me e) (still (Refused foreign_message) (site_of site)) (on_message site.sites site.me e.from e.message (site_of site))
    (sym c.is_improper.ensures ∙ c.if-is_improper.true))
