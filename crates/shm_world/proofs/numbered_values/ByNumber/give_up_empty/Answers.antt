use Rattle.std.proofs.Common.{rules, ◌≡◌, ap, filter, ◌∙◌}
use Rattle.std.proofs.lemmas.Fn.{filter_same}
use Rattle.shm_world.specs.ByNumber.{rises, value_of}
use Rattle.shm_world.proofs.Joining.{is_full, swept-rises, swept-values}
use Rattle.shm_world.proofs.numbered_values.ByNumber.give_up_empty.Goals as goal

pub invariant_of-self : goal.invariant_of-self
invariant_of-self g c =
    let left : c.retain.new.self.items ≡ filter is_full c.self.inside.places.items = filter_same _ is_full _ (λ x b f' k. search rules) _ _ c.retain.ensures.filtered in
    ap (λ ps. rises 0 ps c.self.inside.next) left ∙ swept-rises 0 c.self.inside.next c.self.inside.places.items c.self.invariant

pub returns-clause-value : goal.returns-clause-value
returns-clause-value g c k =
    let left : c.retain.new.self.items ≡ filter is_full c.self.inside.places.items = filter_same _ is_full _ (λ x b f' k. search rules) _ _ c.retain.ensures.filtered in
    rw (← c.self.view_is) (ap (value_of k) left ∙ swept-values 0 c.self.inside.next k c.self.inside.places.items c.self.invariant)
