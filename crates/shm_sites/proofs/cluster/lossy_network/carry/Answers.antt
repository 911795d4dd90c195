-- One envelope more: its number is the next of the generator, and by it its fate. In the end there is none more.
use Rattle.std.proofs.Common.{◌≡◌, ◌∙◌, ℕ, List, [], ◌∷◌, ◌++◌, IfOk, ap, length, rules, subst, sym, vec_len}
use Rattle.std.proofs.lemmas.Iterator.Adapters.{YieldsList-from_vec}
use Rattle.std.proofs.lemmas.Iterator.Consumers.{YieldsList-end}
use Rattle.std.proofs.lemmas.List.{map-id, map_push}
use Rattle.rand_pcg.specs.Lcg.{Lcg}
use Rattle.rand_pcg.specs.Pcg.{pcg32}
use Rattle.shm_sites.specs.Cluster.Carried.{by_fate, carried, drawn_for}
use Rattle.shm_sites.specs.Cluster.Fate.{fate_of}
use Rattle.shm_sites.specs.Cluster.Posted.{all_sent, sent_of}
use Rattle.shm_sites.specs.Cluster.Sent.{Sent}
use Rattle.shm_sites.proofs.Carried.{carried-push, drawn_for-push}
use Rattle.shm_sites.proofs.cluster.lossy_network.carry.Goals as goal

pub envelopes-preserved : goal.envelopes-preserved
envelopes-preserved g c =
    let start : Lcg = c.args.draws.now in
    let sent : List Sent = all_sent c.envelopes.yielded in
    let one : Sent = sent_of c.in-Some.one in
    let more : all_sent (c.envelopes.yielded ++ c.in-Some.one ∷ []) ≡ sent ++ one ∷ [] = map_push sent_of c.envelopes.yielded c.in-Some.one in
    let before : c.envelopes.draws ≡ drawn_for sent start = c.envelopes.invariant.drawn in
    let drawn : ℕ × Lcg = (c.next_word.result, c.next_word.new.self) in
    let next : drawn ≡ pcg32 c.envelopes.draws = c.next_word.ensures in
    let draws : c.next_word.new.self ≡ drawn_for (all_sent (c.envelopes.yielded ++ c.in-Some.one ∷ [])) start =
    ap (λ (p : ℕ × Lcg). p.1) next ∙ ap (λ draws. (pcg32 draws).1) before ∙ sym (drawn_for-push sent one start) ∙ ap (λ es. drawn_for es start) (sym more) in
    let fate : c.of-fate.result ≡ fate_of (pcg32 (drawn_for sent start)).0 =
    c.of-fate.ensures ∙ ap (λ (p : ℕ × Lcg). fate_of p.0) next ∙ ap (λ draws. fate_of (pcg32 draws).0) before in
    let goes : carried sent start ++ by_fate c.of-fate.result one ≡ carried (all_sent (c.envelopes.yielded ++ c.in-Some.one ∷ [])) start =
    ap (λ fate. carried sent start ++ by_fate fate one) fate ∙ sym (carried-push sent one start) ∙ ap (λ es. carried es start) (sym more) in
    record {
      drawn = draws;
      carried = subst (λ all. IfOk c.with-on.result (λ on. all_sent on.items ≡ all)) goes (c.with-on.ensures (carried sent start) c.envelopes.invariant.carried);
    }

pub returns : goal.returns
returns g c =
    let given = c.into_iter-one-iterator.ensures.into_iter_gives in
    let counted : vec_len c.args.posted ≡ length c.args.posted.items = search rules in
    let end =
    YieldsList-end (YieldsList-from_vec c.args.posted.items given.0 (given.1 ∙ counted)) c.envelopes.yielded c.envelopes.one-iterator c.envelopes.yielded_by
    c.next.result c.next.new.self c.in-None.is c.next.ensures.steps in
    let all : c.envelopes.yielded ≡ c.args.posted.items = sym (map-id c.envelopes.yielded) ∙ end.0 in
    record {
      drawn = c.envelopes.invariant.drawn ∙ ap (λ posted. drawn_for (all_sent posted) c.args.draws.now) all;
      carried = subst (λ posted. IfOk c.envelopes.on (λ on. all_sent on.items ≡ carried (all_sent posted) c.args.draws.now)) all c.envelopes.invariant.carried;
    }
