use Rattle.std.proofs.Common.{◌∙◌, ap}
use Rattle.shm_model.specs.Site.{least_free}
use Rattle.shm_attach.specs.Attachments.{attachments_of}
use Rattle.shm_attach.proofs.Slots.{least_of}
use Rattle.shm_attach.proofs.attachments.Attachments.least_free.Goals as goal

pub returns-clause-number : goal.returns-clause-number
returns-clause-number c =
    c.first_free.ensures.first
    ∙ least_of c.self.inside.slots c.self.invariant
    ∙ ap (λ slots. least_free (attachments_of slots)) c.self.view_is
