use Rattle.std.proofs.Common.{◌∙◌, ◌++◌, ◌∷◌, [], List, Bool, cond, append_assoc, ap, sym}
use Rattle.std.specs.Map.{keys_of}
use Rattle.shm_place.specs.declared.page_id.PageId.{PageId}
use Rattle.shm_parts.specs.Frames.{counted}
use Rattle.shm_parts.proofs.FrameRestoring.{counted-first}
use Rattle.shm_parts.proofs.frame_order.Frames.copies.Goals as goal

pub pages-preserved-then-awaits : goal.pages-preserved-then-awaits
pages-preserved-then-awaits g c =
    let awaited = c.args.self.now.awaited in
    let page = c.in-Some.page.now in
    let rest = counted awaited (keys_of c.next.new.self) in
    let so_far = c.pages.copies.items in
    ap (λ (l : List PageId). so_far ++ l)
    (sym (ap (λ (b : Bool). cond b rest (page ∷ rest)) (sym c.awaits.ensures ∙ c.if-awaits.true)) ∙ sym (counted-first awaited page (keys_of c.next.new.self)) ∙ ap (λ l. counted awaited (keys_of l)) (sym c.in-Some.ensures.steps))
    ∙ c.pages.invariant

pub pages-preserved : goal.pages-preserved
pages-preserved g c =
    let awaited = c.args.self.now.awaited in
    let page = c.in-Some.page.now in
    let rest = counted awaited (keys_of c.next.new.self) in
    let so_far = c.pages.copies.items in
    ap (λ (l : List PageId). l ++ rest) c.in_ok-push.ensures.items ∙ append_assoc so_far (page ∷ []) rest
    ∙ ap (λ (l : List PageId). so_far ++ l)
    (sym (ap (λ (b : Bool). cond b rest (page ∷ rest)) (sym c.awaits.ensures ∙ c.if-awaits.false)) ∙ sym (counted-first awaited page (keys_of c.next.new.self)) ∙ ap (λ l. counted awaited (keys_of l)) (sym c.in-Some.ensures.steps))
    ∙ c.pages.invariant
