-- What goes on of envelopes, one envelope more at a time.
use Rattle.std.proofs.Common.{◌≡◌, ◌∙◌, List, [], ◌∷◌, ◌++◌, ap, refl, sym, append_assoc}
use Rattle.std.proofs.lemmas.List.{append-nil}
use Rattle.rand_pcg.specs.Lcg.{Lcg}
use Rattle.rand_pcg.specs.Pcg.{pcg32}
use Rattle.shm_sites.specs.Cluster.Carried.{by_fate, carried, drawn_for}
use Rattle.shm_sites.specs.Cluster.Fate.{fate_of}
use Rattle.shm_sites.specs.Cluster.Sent.{Sent}

pub drawn_for-push : (es : List Sent) (e : Sent) (draws : Lcg) → drawn_for (es ++ e ∷ []) draws ≡ (pcg32 (drawn_for es draws)).1
drawn_for-push [] e draws = refl
drawn_for-push (x ∷ es) e draws = drawn_for-push es e (pcg32 draws).1

pub carried-push : (es : List Sent) (e : Sent) (draws : Lcg) → carried (es ++ e ∷ []) draws ≡ carried es draws ++ by_fate (fate_of (pcg32 (drawn_for es draws)).0) e
carried-push [] e draws = append-nil (by_fate (fate_of (pcg32 draws).0) e)
carried-push (x ∷ es) e draws =
    let first : List Sent = by_fate (fate_of (pcg32 draws).0) x in
    let last : List Sent = by_fate (fate_of (pcg32 (drawn_for es (pcg32 draws).1)).0) e in
    ap (λ sent. first ++ sent) (carried-push es e (pcg32 draws).1) ∙ sym (append_assoc first (carried es (pcg32 draws).1) last)
