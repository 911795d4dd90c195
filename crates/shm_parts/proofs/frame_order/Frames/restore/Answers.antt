use Rattle.std.proofs.Common.{◌≡◌, ◌∙◌, List, ap, not, sym}
use Rattle.std.specs.List.{list_any}
use Rattle.std.specs.Map.{keys_of}
use Rattle.shm_place.specs.declared.page_id.PageId.{PageId}
use Rattle.shm_place.specs.Page.{same_page}
use Rattle.shm_model.specs.Site as model
use Rattle.shm_parts.specs.Frames.{copies_in, counted, frames_of}
use Rattle.shm_parts.proofs.BookSteps.{list_any-keys}
use Rattle.shm_parts.proofs.EntryLemmas.{if_ok, on_err}
use Rattle.shm_parts.proofs.FrameRestoring.{frames_joined}
use Rattle.shm_parts.proofs.frame_order.Frames.restore.Goals as goal

pub returns-clause-joins : goal.returns-clause-joins
unfolding copies_in
returns-clause-joins g c =
    let page = c.args.page.now in
    let frames = c.let_go.new.self in
    let copies : keys_of frames.pages ≡ (frames_of c.args.self.now).copies = ap (λ o. counted o (keys_of frames.pages)) (sym c.let_go.ensures.none) ∙ ap (λ (f : model.Frames). f.copies) c.let_go.ensures.same in
    if_ok c.put.result (λ joins is. is ∙ ap not (sym (list_any-keys (same_page page) frames.pages) ∙ ap (list_any (same_page page)) copies)) c.put.ensures.joins

pub returns-clause-after : goal.returns-clause-after
unfolding copies_in
returns-clause-after g c =
    let frames = c.let_go.new.self in
    frames_joined c.put.result c.args.page.now frames.limit frames.awaited frames.pages c.put.new.self (frames_of c.args.self.now)
    c.let_go.ensures.none c.let_go.ensures.same c.put.ensures.joins c.put.ensures.put

pub returns-clause-refused : goal.returns-clause-refused
unfolding copies_in
returns-clause-refused g c =
    let frames = c.let_go.new.self in
    let with_copies : List PageId → model.Frames = λ copies. record { limit = frames.limit; copies = copies } in
    on_err c.put.result (λ same. ap (λ l. with_copies (counted frames.awaited (keys_of l))) same ∙ c.let_go.ensures.same) c.put.ensures.refused
