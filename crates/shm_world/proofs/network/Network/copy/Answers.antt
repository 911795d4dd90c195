use Rattle.std.proofs.Common.{◌≡◌, ◌≤◌, ◌+◌, ◌∷◌, ap, drop, length, subst, suc, sym, true, ◌∙◌, arith}
use Rattle.shm_world.specs.ByNumber.{rises, value_of}
use Rattle.shm_world.specs.Network.{envelope_at}
use Rattle.shm_world.proofs.NetworkLemmas.{Copied, all-copied, carries-same, copied-none, none-copied, none-left, one-copied, read-next}
use Rattle.shm_world.proofs.Numbers.{below, first_of, rest_of, sooner}
use Rattle.shm_world.proofs.network.Network.copy.Goals as goal
use Rattle.shm_world.proofs.network.Network.copy.Goals.{in-Some+in_ok-copy, in_default}

pub places-init : goal.places-init
places-init g c =
    let all = c.args.self.now.envelopes.places in
    let first : c.reserve.new.self.next ≡ 0 = c.reserve.ensures.next ∙ c.new-envelopes.ensures.next in
    record {
      room = subst (λ l. length l ≤ c.reserve.new.self.spare) c.as_slice.ensures.places c.in_ok-reserve.ensures.room;
      order = ap (λ n. rises n all c.args.self.now.envelopes.next) first ∙ c.as_slice.ensures.rising;
      copied = copied-none all c.reserve.new.self.places c.reserve.new.self.next first (λ k. ap (value_of k) c.reserve.ensures.items ∙ c.new-envelopes.ensures.none k);
    }

pub push_at-requires-clause-free : goal.push_at-requires-clause-free
push_at-requires-clause-free g c =
    let all = c.args.self.now.envelopes.places in
    let item = c.place-item.result in
    let here = read-next c.as_slice-place-items.result.now all c.places.place-index item c.as_slice-place-items.ensures.places c.places-test.true c.place-item.is in
    let order = ap (λ l. rises c.places.envelopes.next l c.args.self.now.envelopes.next) (sym here) ∙ c.places.invariant.order in
    first_of c.places.envelopes.next c.args.self.now.envelopes.next item (drop (c.places.place-index + 1) all) order

pub push_at-requires-clause-numbers : goal.push_at-requires-clause-numbers
push_at-requires-clause-numbers g c =
    let all = c.args.self.now.envelopes.places in
    let item = c.place-item.result in
    let last = c.args.self.now.envelopes.next in
    let rest = drop (c.places.place-index + 1) all in
    let here = read-next c.as_slice-place-items.result.now all c.places.place-index item c.as_slice-place-items.ensures.places c.places-test.true c.place-item.is in
    let order = ap (λ l. rises c.places.envelopes.next l last) (sym here) ∙ c.places.invariant.order in
    let high : item.number + 1 ≤ last = below (item.number + 1) last rest (rest_of c.places.envelopes.next last item rest order) in
    let sent : c.sent-sent.result ≡ last = c.sent-sent.ensures.same in
    omega (arith, high, sent)

pub places-preserved : goal.places-preserved
places-preserved g c =
    let all = c.args.self.now.envelopes.places in
    let item = c.place-item.result in
    let next = c.places.envelopes.next in
    let last = c.args.self.now.envelopes.next in
    let rest = drop (c.places.place-index + 1) all in
    let copies = c.places.envelopes.places in
    let here = read-next c.as_slice-place-items.result.now all c.places.place-index item c.as_slice-place-items.ensures.places c.places-test.true c.place-item.is in
    let order : rises next (item ∷ rest) last ≡ true = ap (λ l. rises next l last) (sym here) ∙ c.places.invariant.order in
    let had : Copied all (item ∷ rest) copies next = subst (λ l. Copied all l copies next) here c.places.invariant.copied in
    let long : length (drop c.places.place-index all) ≡ suc (length rest) = ap length here in
    let first : next ≤ item.number = first_of next last item rest order in
    let behind = rest_of next last item rest order in
    elim c.match-place.branch [
      | in-Some+in_ok-copy w ↦
          let then : c.match-place.envelopes.next ≡ item.number + 1 = ap (λ es. es.next) w.envelopes-is ∙ w.push_at.ensures.next in
          let fits : c.match-place.envelopes.spare ≡ w.push_at.new.self.spare = ap (λ es. es.spare) w.envelopes-is in
          record {
            room = omega (arith, c.places.invariant.room, long, fits, w.push_at.ensures.room);
            order = ap (λ n. rises n rest last) then ∙ behind;
            copied = subst (λ n. Copied all rest c.match-place.envelopes.places n) (sym then)
                (one-copied all rest copies c.match-place.envelopes.places item w.in-Some.envelope w.in_ok-copy.field-0 next last w.in-Some.is w.in_ok-copy.ensures.envelope order
                (λ k. ap (λ es. value_of k es.places) w.envelopes-is ∙ w.push_at.ensures.value k) had);
          }
      | in_default w ↦
          let fits : c.match-place.envelopes.spare ≡ c.places.envelopes.spare = ap (λ es. es.spare) w.envelopes-is in
          record {
            room = omega (arith, c.places.invariant.room, long, fits);
            order = ap (λ es. rises es.next rest last) w.envelopes-is ∙ sooner (item.number + 1) next last rest (omega (arith, first)) behind;
            copied = subst (λ es. Copied all rest es.places es.next) (sym w.envelopes-is) (none-copied all rest copies item next last w.in_default.is order had);
          }
    ]

pub pass_to-requires : goal.pass_to-requires
pass_to-requires g c =
    let low = below c.places.envelopes.next c.args.self.now.envelopes.next (drop c.places.place-index c.args.self.now.envelopes.places) c.places.invariant.order in
    omega (arith, low, c.sent-sent.ensures.same)

pub returns : goal.returns
returns g c = λ sent gone had.
    let all = c.args.self.now.envelopes.places in
    let copies = c.places.envelopes.places in
    let done = none-left c.as_slice-place-items.result.now all c.places.place-index c.as_slice-place-items.ensures.places (omega arith) in
    let copied = subst (λ l. Copied all l copies c.places.envelopes.next) done c.places.invariant.copied in
    carries-same c.args.self.now _ sent gone (c.pass_to.ensures.next ∙ c.sent-sent.ensures.same)
    (λ k. ap (λ ps. envelope_at (value_of k ps)) c.pass_to.ensures.items ∙ all-copied all copies c.places.envelopes.next copied k) had
