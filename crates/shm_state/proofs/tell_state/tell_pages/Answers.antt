use Rattle.std.proofs.Common.{◌∙◌, ap}
use Rattle.shm_site.specs.State.{State}
use Rattle.shm_state.proofs.tell_state.tell_pages.Goals as goal

pub tell_attachments-requires-clause-fresh : goal.tell_attachments-requires-clause-fresh
tell_attachments-requires-clause-fresh g c =
    ap (λ (s : State). s.attachments) c.in_ok-tell_entries.ensures.said ∙ ap (λ (s : State). s.attachments) c.in_ok-tell_purged.ensures.said ∙ c.requires.fresh
