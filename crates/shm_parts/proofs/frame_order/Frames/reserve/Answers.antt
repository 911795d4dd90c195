use Rattle.std.proofs.Common.{List, is_some, refl, ap, sym, subst, ◌∙◌}
use Rattle.std.specs.Map.{keys_of, lookup}
use Rattle.shm_place.specs.Page.{same_page}
use Rattle.shm_place.specs.declared.page_id.PageId.{PageId}
use Rattle.shm_model.specs.Site as model
use Rattle.shm_parts.specs.Frames.{IsFor, copies_in, counted}
use Rattle.shm_parts.proofs.FrameSteps.{awaited-there, awaited-unseen, unit_from, was_new, was_there}
use Rattle.shm_parts.proofs.OrderedPagesLemmas.{insert-kept}
use Rattle.shm_parts.proofs.frame_order.Frames.reserve.Goals as goal

pub returns-then-branch-clause-same : goal.returns-then-branch-clause-same
unfolding copies_in
returns-then-branch-clause-same g c =
    let page = c.args.page.now in
    let frames = c.let_go.new.self in
    let pages = c.reserve.new.self in
    let with_copies : List PageId → model.Frames = λ copies. record { limit = frames.limit; copies = copies } in
    let new = was_new (is_some (lookup (same_page page) pages)) c.in_ok-put.field-0 c.in_ok-put.ensures.joins c.if-branch.true in
    ap with_copies (awaited-unseen page tt pages c.put.new.self new c.in_ok-put.ensures.put ∙ ap keys_of c.reserve.ensures
    ∙ ap (λ o. counted o (keys_of frames.pages)) (sym c.let_go.ensures.none))
    ∙ c.let_go.ensures.same

pub returns-then-branch-clause-room : goal.returns-then-branch-clause-room
returns-then-branch-clause-room g c =
    let page = c.args.page.now in
    let pages = c.reserve.new.self in
    let new = was_new (is_some (lookup (same_page page) pages)) c.in_ok-put.field-0 c.in_ok-put.ensures.joins c.if-branch.true in
    (refl, awaited-there page tt pages c.put.new.self new c.in_ok-put.ensures.put)

pub returns-else-branch-clause-same : goal.returns-else-branch-clause-same
unfolding copies_in
returns-else-branch-clause-same g c =
    let page = c.args.page.now in
    let frames = c.let_go.new.self in
    let pages = c.reserve.new.self in
    let with_copies : List PageId → model.Frames = λ copies. record { limit = frames.limit; copies = copies } in
    let there = was_there (is_some (lookup (same_page page) pages)) c.in_ok-put.field-0 c.in_ok-put.ensures.joins c.if-branch.false in
    let kept = insert-kept page tt pages (unit_from (lookup (same_page page) pages) there) in
    ap with_copies (ap (λ l. counted frames.awaited (keys_of l)) (c.in_ok-put.ensures.put ∙ kept ∙ c.reserve.ensures))
    ∙ c.let_go.ensures.same

pub returns-else-branch-clause-room : goal.returns-else-branch-clause-room
returns-else-branch-clause-room g c =
    let page = c.args.page.now in
    let pages = c.reserve.new.self in
    let there = was_there (is_some (lookup (same_page page) pages)) c.in_ok-put.field-0 c.in_ok-put.ensures.joins c.if-branch.false in
    let kept = insert-kept page tt pages (unit_from (lookup (same_page page) pages) there) in
    (subst (IsFor page) (sym c.let_go.ensures.none) tt, ap (λ l. is_some (lookup (same_page page) l)) (c.in_ok-put.ensures.put ∙ kept) ∙ there)
