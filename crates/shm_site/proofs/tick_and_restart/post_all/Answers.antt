use Rattle.std.proofs.Common.{◌≡◌, ◌++◌, ◌∙◌, [], ◌∷◌, length, append_assoc, ap, subst, sym, rules, arith}
use Rattle.std.proofs.lemmas.Grind.{common_steps}
use Rattle.std.specs.Vec.Iter.{into_iter_items}
use Rattle.shm_site.proofs.tick_and_restart.post_all.Goals as goal

pub envelopes-init : goal.envelopes-init
envelopes-init g c =
    let all = c.into_iter-envelope-iterator.ensures.into_iter_gives.0 in
    record { sent = g.O.Outbox.nothing c.args.outbox.now; all = sym all; room = omega (arith, c.requires, ap length all) }

pub envelopes-preserved : goal.envelopes-preserved
envelopes-preserved g c =
    let x = c.in-Some.envelope in
    let steps : into_iter_items c.envelopes.envelope-iterator ≡ x ∷ into_iter_items c.next.new.self = c.in-Some.ensures.steps.0 in
    record {
      sent = g.O.Outbox.joined c.args.outbox.now c.envelopes.outbox c.push.new.self c.envelopes.yielded (x ∷ []) c.envelopes.invariant.sent c.push.ensures.posted;
      all = c.envelopes.invariant.all ∙ ap (λ l. c.envelopes.yielded ++ l) steps ∙ sym (append_assoc c.envelopes.yielded (x ∷ []) (into_iter_items c.next.new.self));
      room = omega (arith, c.envelopes.invariant.room, c.push.ensures.room, ap length steps);
    }

pub returns : goal.returns
returns g c =
    let whole : c.args.list.items ≡ c.envelopes.yielded = first_of (search rules, grind (arith, common_steps)) in
    subst (λ l. g.O.Outbox.posted c.args.outbox.now c.envelopes.outbox l) (sym whole) c.envelopes.invariant.sent
