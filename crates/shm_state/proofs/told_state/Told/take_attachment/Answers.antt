use Rattle.std.proofs.Common.{◌≡◌, ◌∙◌, ◌&&◌, true, false, not, nat_lt, Some, is_some, rules, ap, sym, refl}
use Rattle.shm_model.specs.Basics.{at}
use Rattle.shm_model.specs.Calls.{is_size, Attachment as AttachmentOf}
use Rattle.shm_model.specs.Site.{Site, max_attachments}
use Rattle.shm_attach.specs.Attachments.{attachments_of, with_attachments}
use Rattle.shm_parts.specs.Holdings.{with_holdings}
use Rattle.shm_parts.specs.Listed.{purged_in}
use Rattle.shm_parts.proofs.Held.{seated}
use Rattle.shm_state.proofs.Taken.{fit-once, no_memory, taken, twice, unfit}
use Rattle.shm_state.proofs.ToldSteps.{attachment-alike, attachment-told, holdings-same, purged-alike, says, seen, tells}
use Rattle.shm_state.specs.Part.{Attachment}
use Rattle.shm_state.specs.Told.{once}
use Rattle.shm_state.proofs.told_state.Told.take_attachment.Goals as goal

pub returns-then-not-fits_attachment-clause-told : goal.returns-then-not-fits_attachment-clause-told
returns-then-not-fits_attachment-clause-told g c = λ said h.
    let old = c.args.self.now in
    let a : AttachmentOf = record { id = c.args.id; size = c.args.size; ro = c.args.ro } in
    let fits = nat_lt c.args.number max_attachments && is_size a.size && not (purged_in said.state.purged a.id) in
    let no : fits ≡ false =
    ap (λ b. nat_lt c.args.number max_attachments && is_size a.size && not b) (purged-alike old said h a.id) ∙ sym c.fits_attachment.ensures ∙ (search rules) in
    unfit (Attachment c.args.number a) said old fits (is_some (attachments_of said.state.attachments c.args.number)) no h

pub returns-then-has_attachment-clause-told : goal.returns-then-has_attachment-clause-told
returns-then-has_attachment-clause-told g c = λ said h.
    let old = c.args.self.now in
    let a : AttachmentOf = record { id = c.args.id; size = c.args.size; ro = c.args.ro } in
    let fits = nat_lt c.args.number max_attachments && is_size a.size && not (purged_in said.state.purged a.id) in
    let fit : fits ≡ true =
    ap (λ b. nat_lt c.args.number max_attachments && is_size a.size && not b) (purged-alike old said h a.id) ∙ sym c.fits_attachment.ensures ∙ (search rules) in
    let again : is_some (attachments_of said.state.attachments c.args.number) ≡ true =
    ap is_some (attachment-alike old said h c.args.number) ∙ sym c.has_attachment.ensures ∙ c.if-has_attachment.true in
    twice (Attachment c.args.number a) said old fits (is_some (attachments_of said.state.attachments c.args.number)) fit again h

pub returns-in_default-clause-told : goal.returns-in_default-clause-told
returns-in_default-clause-told g c = λ said h.
    let old = c.args.self.now in
    let held = c.restore_attachment.new.self in
    let same : (site : Site) → with_holdings old.sites old.me held site ≡ with_holdings old.sites old.me old.holdings site =
    seated (λ sites me. (site : Site) → with_holdings sites me held site ≡ with_holdings sites me old.holdings site)
    old.sites old.me old.holdings.sites old.holdings.me old.held_sites old.held_me c.in_default.ensures.refused in
    no_memory (Attachment c.args.number (record { id = c.args.id; size = c.args.size; ro = c.args.ro })) said _ _ refl
    (tells _ _ (holdings-same (seen old) said (says old said h) held same))

pub returns-clause-told : goal.returns-clause-told
returns-clause-told g c = λ said h.
    let old = c.args.self.now in
    let number = c.args.number in
    let a : AttachmentOf = record { id = c.args.id; size = c.args.size; ro = c.args.ro } in
    let held = c.restore_attachment.new.self in
    let fits = nat_lt number max_attachments && is_size a.size && not (purged_in said.state.purged a.id) in
    let fit : fits ≡ true =
    ap (λ b. nat_lt number max_attachments && is_size a.size && not b) (purged-alike old said h a.id) ∙ sym c.fits_attachment.ensures ∙ (search rules) in
    let new : is_some (attachments_of said.state.attachments number) ≡ false =
    ap is_some (attachment-alike old said h number) ∙ sym c.has_attachment.ensures ∙ c.if-has_attachment.false in
    let after : (site : Site) → with_holdings old.sites old.me held site
    ≡ with_attachments (at (attachments_of old.holdings.attachments) number (Some a)) (with_holdings old.sites old.me old.holdings site) =
    seated (λ sites me. (site : Site) → with_holdings sites me held site
    ≡ with_attachments (at (attachments_of old.holdings.attachments) number (Some a)) (with_holdings sites me old.holdings site))
    old.sites old.me old.holdings.sites old.holdings.me old.held_sites old.held_me c.in-Ok.ensures.after in
    taken (Attachment number a) said _ (once fits (is_some (attachments_of said.state.attachments number))) _
    (fit-once fits (is_some (attachments_of said.state.attachments number)) fit new)
    (tells _ _ (attachment-told (seen old) said (says old said h) number a held after))
