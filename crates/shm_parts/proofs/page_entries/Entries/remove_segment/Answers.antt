use Rattle.std.proofs.Common.{◌≡◌, ◌∙◌, ◌==◌, ◌&&◌, ℕ, true, cond, nat_lt, None, ap, arith}
use Rattle.std.proofs.lemmas.Bool.Decides.{nat_tests}
use Rattle.shm_place.specs.declared.page_id.PageId.{PageId}
use Rattle.shm_parts.specs.Entries.{stored_at}
use Rattle.shm_parts.proofs.GoneLemmas.{gone_all, gone_start, gone_step}
use Rattle.shm_parts.proofs.page_entries.Entries.remove_segment.Goals as goal

same_number : (n : ℕ) → (n == n) ≡ true
same_number n = grind (arith, nat_tests)

pub loop-index-init : goal.loop-index-init
loop-index-init g c = λ page. gone_start (stored_at c.args.self.now page) c.args.id page

pub loop-index-preserved : goal.loop-index-preserved
loop-index-preserved g c = λ page.
    gone_step (stored_at c.args.self.now page) (stored_at c.loop-index.self page) (stored_at (record { map = c.swap_remove.new.self }) page) c.args.id c.loop-index.index page (c.loop-index.invariant page) (c.swap_remove.ensures.updates.0 page)

pub returns-clause-gone : goal.returns-clause-gone
returns-clause-gone g c = λ index below.
    let page : PageId = record { seg = c.args.id; index = index } in
    gone_all (stored_at c.args.self.now page) (stored_at c.loop-index.self page) c.args.id c.end_of-end.result c.loop-index.index page (omega (arith, c.loop-index-test.false)) (c.loop-index.invariant page) (c.end_of-end.ensures page) (same_number c.args.id) below

pub returns-clause-others : goal.returns-clause-others
returns-clause-others g c = λ page apart.
    c.loop-index.invariant page
    ∙ ap (λ b. cond (b && nat_lt page.index c.loop-index.index) None (stored_at c.args.self.now page)) apart
