use Rattle.std.proofs.Common.{◌≡◌, ◌/◌, ◌%◌, ◌<◌, ◌≤◌, length, sym, ap, ◌∙◌, arith}
use Rattle.std.proofs.lemmas.Bool.{eqb-true, eqb-false, not-true, not-false}
use Rattle.std.proofs.lemmas.Grind.{common_steps}
use Rattle.shm_model.specs.Kernel.{is_destroyed}
use Rattle.shm_keys.proofs.Segments.{read_by_id, with_id_missing}
use Rattle.shm_keys.proofs.Restored.{not_made_here}
use Rattle.shm_keys.proofs.segment_table.SegTable.is_purged.Goals as goal

pub returns-then-ne : goal.returns-then-ne
returns-then-ne g c =
    let other = eqb-false _ _ (not-true _ (sym c.ne.ensures ∙ c.if-ne.true)) in
    rw (← c.self.view_is) (sym (ap is_destroyed (not_made_here c.self.inside.home c.self.inside.sites c.self.inside.segments.items c.args.id c.self.invariant.numbered
    (λ e. other (c.home_of_id.ensures.home ∙ e)))))

pub returns-then-place-len : goal.returns-then-place-len
returns-then-place-len g c =
    let at_home : c.args.id % c.self.inside.sites ≡ c.self.inside.home = sym c.home_of_id.ensures.home ∙ eqb-true _ _ (not-false _ (sym c.ne.ensures ∙ c.if-ne.false)) in
    let past : length c.self.inside.segments.items ≤ c.args.id / c.self.inside.sites = grind (arith, common_steps) in
    rw (← c.self.view_is) (sym (ap is_destroyed (with_id_missing c.self.inside.home c.self.inside.sites c.self.inside.segments.items c.args.id c.self.invariant.numbered at_home past)))

pub returns : goal.returns
returns g c =
    let at_home : c.args.id % c.self.inside.sites ≡ c.self.inside.home = sym c.home_of_id.ensures.home ∙ eqb-true _ _ (not-false _ (sym c.ne.ensures ∙ c.if-ne.false)) in
    let within : c.args.id / c.self.inside.sites < length c.self.inside.segments.items = grind (arith, common_steps) in
    let read = rw c.place_of-place.ensures at c.index.ensures in
    let found = read_by_id c.self.inside.home c.self.inside.sites c.self.inside.segments.items c.args.id c.index.result.now c.self.invariant.numbered at_home within read in
    rw (← c.self.view_is) (c.is_destroyed.ensures ∙ sym (ap is_destroyed found.0))
