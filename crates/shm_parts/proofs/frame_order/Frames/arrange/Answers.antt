use Rattle.std.proofs.Common.{List, ap, sym}
use Rattle.std.specs.Map.{lookup}
use Rattle.shm_place.specs.Page.{same_page}
use Rattle.shm_place.specs.declared.page_id.PageId.{PageId}
use Rattle.shm_model.specs.Site as model
use Rattle.shm_parts.specs.Frames.{copies_in, frames_of}
use Rattle.shm_parts.proofs.FrameSteps.{arranged-kept, arranged-left, copies-joined, first_and, unit_from}
use Rattle.shm_parts.proofs.frame_order.Frames.arrange.Goals as goal

pub returns-then-installs-clause-arranged : goal.returns-then-installs-clause-arranged
unfolding copies_in
returns-then-installs-clause-arranged g c =
    let with_copies : List PageId → model.Frames = λ copies. record { limit = c.args.self.now.limit; copies = copies } in
    let came = first_and c.args.change.copy c.args.change.newer (sym c.if-installs.ensures) in
    let room = c.requires (sym c.if-installs.ensures) in
    ap with_copies (copies-joined c.args.page tt c.args.change c.args.self.now.awaited c.args.self.now.pages c.move_last.new.self room.0 came.0 came.1
    (c.move_last.ensures.moved tt (unit_from (lookup (same_page c.args.page) c.args.self.now.pages) room.1)))

pub returns-then-not-change-clause-arranged : goal.returns-then-not-change-clause-arranged
unfolding copies_in
returns-then-not-change-clause-arranged g c =
    let held = c.let_go.new.self in
    arranged-left c.args.page c.args.change (frames_of c.args.self.now) held.limit held.awaited held.pages c.remove.new.self c.let_go.ensures.none c.if-not-change.true
    c.remove.ensures.all c.let_go.ensures.same

pub returns-else-not-change-clause-arranged : goal.returns-else-not-change-clause-arranged
returns-else-not-change-clause-arranged g c =
    arranged-kept c.args.page c.args.change (frames_of c.args.self.now) (frames_of c.let_go.new.self) c.if-not-change.false (sym c.if-installs.ensures) c.let_go.ensures.same
