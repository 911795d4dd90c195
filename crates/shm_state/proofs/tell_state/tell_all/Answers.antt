use Rattle.std.proofs.Common.{◌∙◌, ap}
use Rattle.shm_site.specs.State.{State}
use Rattle.shm_state.proofs.tell_state.tell_all.Goals as goal

pub tell_home-requires-clause-fresh : goal.tell_home-requires-clause-fresh
tell_home-requires-clause-fresh g c = ap (λ (s : State). s.kept) c.in_ok-tell_calls.ensures.said

pub tell_pages-requires-clause-fresh : goal.tell_pages-requires-clause-fresh
tell_pages-requires-clause-fresh g c =
    ap (λ (s : State). s.attachments) c.in_ok-tell_home.ensures.said ∙ ap (λ (s : State). s.attachments) c.in_ok-tell_calls.ensures.said
