use Rattle.std.proofs.Common.{◌∙◌, ap}
use Rattle.shm_site.specs.State.{State}
use Rattle.shm_state.proofs.tell_state.tell_home.Goals as goal

pub tell_kept-requires-clause-fresh : goal.tell_kept-requires-clause-fresh
tell_kept-requires-clause-fresh g c =
    ap (λ (s : State). s.kept) c.in_ok-tell_missing.ensures.said ∙ ap (λ (s : State). s.kept) c.in_ok-tell_segments.ensures.said ∙ c.requires.fresh
