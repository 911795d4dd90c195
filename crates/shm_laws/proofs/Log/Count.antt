-- The merged order has each step of each log once: it sends as many envelopes as they do, and there is but one such order.
use Rattle.std.proofs.Common.{◌≡◌, ◌≢◌, ℕ, suc, ◌+◌, ◌<◌, Bool, true, false, List, [], ◌∷◌, length, refl, sym, ap, ◌∙◌, subst, arith, slice_set, if◌then◌else◌, ◌==◌}
use Rattle.std.specs.Prelude.{sum_by}
use Rattle.std.proofs.lemmas.Bool.Decides.{nat_tests}
use Rattle.std.proofs.lemmas.List.{get_or-set_other, get_or-set_same, length-append}
use Rattle.std.proofs.lemmas.List.Sums.{sum_by-cons, sum_by-set}
use Rattle.shm_model.specs.Log.{Logged, log_of, sent_by}
use Rattle.shm_model.specs.Merge.{SiteStep, part}
use Rattle.shm_laws.proofs.Log.Lists.{part-seam, sent_in}
use Rattle.shm_laws.proofs.Log.Run.{has-log}

none-sent : (logs : List (List Logged)) → ((s : ℕ) → [] ≡ log_of logs s) → sum_by sent_by logs ≡ 0
none-sent [] h = refl
none-sent (log ∷ logs) h = sum_by-cons sent_by log logs ∙ ap (λ l. sent_by l + sum_by sent_by logs) (sym (h 0)) ∙ ap (λ n. 0 + n) (none-sent logs (λ s. h (suc s)))

rest-parts : (logs : List (List Logged)) (p : SiteStep) (ps : List SiteStep) (s : ℕ) (same : Bool) → (p.site == s) ≡ same → p.site < length logs
    → (part s (p ∷ ps) ≡ log_of logs s) → part s ps ≡ log_of (slice_set logs p.site (part p.site ps)) s
rest-parts logs p ps s true same below h =
    let e : p.site ≡ s = grind (arith, nat_tests) in
    subst (λ t. part t ps ≡ log_of (slice_set logs p.site (part p.site ps)) t) e (sym (get_or-set_same logs p.site (part p.site ps) [] below))
rest-parts logs p ps s false same below h =
    let other : s ≢ p.site = λ e. grind (arith, nat_tests) in
    ap (λ b. if b then p.logged ∷ part s ps else part s ps) (sym same) ∙ h ∙ sym (get_or-set_other logs p.site s (part p.site ps) [] other)

pub as-many-sent : (order : List SiteStep) (logs : List (List Logged)) → ((s : ℕ) → part s order ≡ log_of logs s) → length (sent_in order) ≡ sum_by sent_by logs
as-many-sent [] logs h = sym (none-sent logs h)
as-many-sent (p ∷ ps) logs h =
    let own : p.logged ∷ part p.site ps ≡ log_of logs p.site = sym (part-seam [] p ps) ∙ h p.site in
    let below : p.site < length logs = has-log logs p.site (omega (arith, ap length own)) in
    let rest : length (sent_in ps) ≡ sum_by sent_by (slice_set logs p.site (part p.site ps)) =
    as-many-sent ps (slice_set logs p.site (part p.site ps)) (λ s. rest-parts logs p ps s (p.site == s) refl below (h s)) in
    let all : length (sent_in (p ∷ ps)) ≡ length p.logged.sent + length (sent_in ps) = length-append p.logged.sent (sent_in ps) in
    let log : length p.logged.sent + sent_by (part p.site ps) ≡ sent_by (log_of logs p.site) = sym (sum_by-cons (λ l. length l.sent) p.logged (part p.site ps)) ∙ ap sent_by own in
    let set : sum_by sent_by (slice_set logs p.site (part p.site ps)) + sent_by (log_of logs p.site) ≡ sum_by sent_by logs + sent_by (part p.site ps) =
    sum_by-set sent_by logs p.site (part p.site ps) [] below in
    omega arith
