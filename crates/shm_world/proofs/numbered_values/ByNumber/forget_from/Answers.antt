use Rattle.std.proofs.Common.{None, if◌then◌else◌, nat_le, ap, sym, ◌∙◌}
use Rattle.shm_world.specs.ByNumber.{place_for, value_of}
use Rattle.shm_world.proofs.Numbers.{cut_rises, cut_values}
use Rattle.shm_world.proofs.numbered_values.ByNumber.forget_from.Goals as goal

pub invariant_of-self : goal.invariant_of-self
invariant_of-self g c =
    cut_rises c.self.inside.next c.args.first c.place_for-left.result c.self.inside.places.items c.truncate.new.self.items c.self.invariant
    (c.place_for-left.ensures ∙ sym (ap (λ b. place_for c.args.first b.places) c.self.view_is)) c.truncate.ensures.items

pub returns-clause-value : goal.returns-clause-value
returns-clause-value g c = λ k.
    cut_values c.self.inside.next c.args.first c.place_for-left.result k c.self.inside.places.items c.truncate.new.self.items c.self.invariant
    (c.place_for-left.ensures ∙ sym (ap (λ b. place_for c.args.first b.places) c.self.view_is)) c.truncate.ensures.items
    ∙ ap (λ b. if nat_le c.args.first k then None else value_of k b.places) c.self.view_is
