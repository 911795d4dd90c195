use Rattle.std.proofs.Common.{◌≡◌, ◌∙◌, ℕ, Bool, ap}
use Rattle.shm_model.specs.World.{preset_attachment}
use Rattle.shm_attach.specs.Attachments.{attachments_of, put_at, with_attachments}
use Rattle.shm_parts.specs.Holdings.{with_holdings}
use Rattle.shm_parts.proofs.Held.{seated}
use Rattle.shm_parts.proofs.Reaches.{opened_number}
use Rattle.shm_parts.proofs.holdings.Holdings.preset.Goals as goal

pub attach-requires : goal.attach-requires
attach-requires g c = ap (λ (t : ℕ → Bool). t 0) c.empty-held.ensures.purged

pub returns-clause-held : goal.returns-clause-held
returns-clause-held g c = λ site.
    let empty = c.empty-held.result in
    let none = c.empty-held.ensures.attachments in
    let number = opened_number c.in_ok-attach.field-0 (attachments_of empty.attachments) none c.in_ok-attach.ensures.number in
    seated
    (λ sites me. with_holdings sites me c.attach.new.self site ≡ with_attachments (put_at c.in_ok-attach.field-0 (preset_attachment c.args.pages) (attachments_of empty.attachments)) (with_holdings sites me empty site))
    c.args.sites c.args.me empty.sites empty.me c.empty-held.ensures.seat.0 c.empty-held.ensures.seat.1 (c.in_ok-attach.ensures.after site)
    ∙ (λ i. with_attachments (put_at (number i) (preset_attachment c.args.pages) (none i)) (c.empty-held.ensures.held site i))
