use Rattle.std.proofs.Common.{◌∙◌, sym, ap}
use Rattle.shm_model.specs.Site.{is_attached, is_attachment_of}
use Rattle.shm_attach.specs.Attachments.{attachments_of, with_attachments}
use Rattle.shm_attach.proofs.Slots.{named_by_some, none_named}
use Rattle.shm_attach.proofs.attachments.Attachments.names.Goals as goal

pub returns-clause-named : goal.returns-clause-named
returns-clause-named c = λ site.
    c.is_among.ensures
    ∙ named_by_some c.self.inside.slots c.args.id site c.self.invariant
    ∙ ap (λ slots. is_attached (with_attachments (attachments_of slots) site) c.args.id) c.self.view_is

pub returns-clause-each : goal.returns-clause-each
returns-clause-each c = λ no number.
    ap (λ slots. is_attachment_of c.args.id (attachments_of slots number)) (sym c.self.view_is)
    ∙ none_named c.self.inside.slots c.args.id number (sym c.is_among.ensures ∙ no)
