use Rattle.std.proofs.Common.{List, ap, sym, ◌∙◌}
use Rattle.std.specs.Map.{keys_of}
use Rattle.shm_place.specs.declared.page_id.PageId.{PageId}
use Rattle.shm_model.specs.Site as model
use Rattle.shm_parts.specs.Frames.{copies_in, counted}
use Rattle.shm_parts.proofs.FrameSteps.{keys-without}
use Rattle.shm_parts.proofs.frame_order.Frames.let_go.Goals as goal

pub returns-clause-same : goal.returns-clause-same
unfolding copies_in
returns-clause-same g c =
    let with_copies : List PageId → model.Frames = λ copies. record { limit = c.args.self.now.limit; copies = copies } in
    ap with_copies (ap keys_of c.remove.ensures.all ∙ keys-without c.in-Some.page c.args.self.now.pages ∙ ap (λ o. counted o (keys_of c.args.self.now.pages)) (sym c.in-Some.is))
