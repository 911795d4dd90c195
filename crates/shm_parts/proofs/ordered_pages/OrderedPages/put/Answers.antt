use Rattle.std.proofs.Common.{◌≤◌, arith, sym, subst}
use Rattle.shm_parts.specs.OrderedPages.{IsWithin, standing}
use Rattle.shm_parts.proofs.OrderedPagesLemmas.{within-more, within-put}
use Rattle.shm_parts.proofs.ordered_pages.OrderedPages.put.Goals as goal

pub invariant_of-self : goal.invariant_of-self
invariant_of-self g c =
    let last = c.self.inside.last in
    let more = c.max-self-inside.result in
    let raised : last ≤ more = omega (arith, c.max-self-inside.ensures) in (
      c.make_room_for.ensures.indexed,
      subst (IsWithin more) (sym c.make_room_for.ensures.same) (within-more last more (standing c.self.inside.rows.items) raised c.self.invariant.1),
    )

pub invariant_of-self-2 : goal.invariant_of-self-2
invariant_of-self-2 g c =
    let last = c.self.inside.last in
    let more = c.max-self-inside.result in
    let es = standing c.make_room_for.new.rows.items in
    let raised : last ≤ more = omega (arith, c.max-self-inside.ensures) in
    let here : c.args.page.index ≤ more = omega (arith, c.max-self-inside.ensures) in
    let is : IsWithin more es = subst (IsWithin more) (sym c.make_room_for.ensures.same) (within-more last more (standing c.self.inside.rows.items) raised c.self.invariant.1) in (
      c.put_row.ensures.indexed,
      within-put c.put_row.result more es (standing c.put_row.new.rows.items) c.args.page c.args.value is here c.put_row.ensures.put c.put_row.ensures.refused,
    )
