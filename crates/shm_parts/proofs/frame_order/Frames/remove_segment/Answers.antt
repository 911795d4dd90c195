use Rattle.std.proofs.Common.{List, ap, sym, ◌∙◌}
use Rattle.std.specs.Map.{keys_of}
use Rattle.shm_place.specs.declared.page_id.PageId.{PageId}
use Rattle.shm_model.specs.Site as model
use Rattle.shm_model.specs.SegmentCalls.{without_segment}
use Rattle.shm_parts.specs.Frames.{copies_in, counted}
use Rattle.shm_parts.proofs.FrameSteps.{keys-without_segment}
use Rattle.shm_parts.proofs.frame_order.Frames.remove_segment.Goals as goal

pub returns : goal.returns
unfolding copies_in
returns g c =
    let frames = c.let_go.new.self in
    let id = c.args.id in
    let with_copies : List PageId → model.Frames = λ copies. record { limit = frames.limit; copies = copies } in
    ap with_copies (ap (λ o. counted o (keys_of c.remove_segment.new.self)) c.let_go.ensures.none ∙ ap keys_of c.remove_segment.ensures ∙ keys-without_segment id frames.pages
    ∙ ap (λ o. without_segment id (counted o (keys_of frames.pages))) (sym c.let_go.ensures.none))
    ∙ ap (λ (f : model.Frames). record f { copies = without_segment id f.copies }) c.let_go.ensures.same
