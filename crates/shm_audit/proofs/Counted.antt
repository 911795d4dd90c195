-- What is counted, from one element to the next.
use Rattle.std.proofs.Common.{◌≡◌, ◌∙◌, ℕ, ◌+◌, ◌<◌, cond, List, [], ◌∷◌, length, get_or, map, take, ap, arith, length-append}
use Rattle.std.specs.List.{sum_by}
use Rattle.std.proofs.lemmas.List.{length-map}
use Rattle.shm_model.specs.Log.{Logged, sent_by}
use Rattle.shm_logs.proofs.Audits.Prefixes.{sum-more, take-push}
use Rattle.shm_logs.specs.Auditing.Complete.{completes}
use Rattle.shm_logs.specs.Auditing.Logs.{logs_of}
use Rattle.shm_logs.specs.Boxes.Logged.{logged_of}
use Rattle.shm_logs.specs.Boxes.SiteLog.{steps_of}
use Rattle.shm_logs.specs.declared.site_boxes.site_log.SiteLog.{SiteLog}
use Rattle.shm_logs.specs.declared.site_boxes.logged_step.Step.{Step}
use Rattle.shm_audit.specs.Totals.{accesses_of, totals_of, with_log}
use Rattle.shm_audit.specs.declared.totals.Totals.{Totals}

abbrev counts : ℕ → ℕ → ℕ → Totals
counts steps accesses envelopes = record { steps = steps; accesses = accesses; envelopes = envelopes }

same_counts : (a b : Totals) → a.steps ≡ b.steps → a.accesses ≡ b.accesses → a.envelopes ≡ b.envelopes → a ≡ b
same_counts a b p q r =
    ap (λ n. counts n a.accesses a.envelopes) p ∙ ap (λ n. counts b.steps n a.envelopes) q ∙ ap (λ n. counts b.steps b.accesses n) r

-- one more step of a log
pub step_counted : {A : Type 0} → (before old new : Totals) (steps : List (Step A)) (i : ℕ) (step : Step A) → i < length steps → step ≡ get_or steps i step
    → old ≡ with_log before (take i (map logged_of steps))
    → new ≡ counts (old.steps + 1) (old.accesses + cond (completes step.answer) 1 0) (old.envelopes + length step.sent.items)
    → new ≡ with_log before (take (i + 1) (map logged_of steps))
step_counted before old new steps i step below read so_far more =
    let s0 : old.steps ≡ before.steps + length (take i (map logged_of steps)) = ap (λ (c : Totals). c.steps) so_far in
    let a0 : old.accesses ≡ before.accesses + accesses_of (take i (map logged_of steps)) = ap (λ (c : Totals). c.accesses) so_far in
    let e0 : old.envelopes ≡ before.envelopes + sent_by (take i (map logged_of steps)) = ap (λ (c : Totals). c.envelopes) so_far in
    let s1 : new.steps ≡ old.steps + 1 = ap (λ (c : Totals). c.steps) more in
    let a1 : new.accesses ≡ old.accesses + cond (completes step.answer) 1 0 = ap (λ (c : Totals). c.accesses) more in
    let e1 : new.envelopes ≡ old.envelopes + length step.sent.items = ap (λ (c : Totals). c.envelopes) more in
    let s2 : length (take (i + 1) (map logged_of steps)) ≡ length (take i (map logged_of steps)) + 1 =
    ap length (take-push logged_of steps i step below read) ∙ length-append (take i (map logged_of steps)) (logged_of step ∷ []) in
    let a2 : accesses_of (take (i + 1) (map logged_of steps)) ≡ accesses_of (take i (map logged_of steps)) + cond (completes step.answer) 1 0 =
    sum-more (λ (l : Logged). cond (completes l.answer) 1 0) logged_of steps i step below read in
    let e2 : sent_by (take (i + 1) (map logged_of steps)) ≡ sent_by (take i (map logged_of steps)) + length (logged_of step).sent =
    sum-more (λ (l : Logged). length l.sent) logged_of steps i step below read in
    let size : length (logged_of step).sent ≡ length step.sent.items = length-map step.sent.items _ in
    same_counts new (with_log before (take (i + 1) (map logged_of steps))) (omega (arith, s0, s1, s2)) (omega (arith, a0, a1, a2)) (omega (arith, e0, e1, e2, size))

-- one more log
pub log_counted : {A : Type 0} → (old new : Totals) (logs : List (SiteLog A)) (i : ℕ) (log : SiteLog A) (steps : List Logged) → i < length logs → log ≡ get_or logs i log
    → old ≡ totals_of (take i (logs_of logs)) → steps ≡ steps_of log → new ≡ with_log old steps → new ≡ totals_of (take (i + 1) (logs_of logs))
log_counted old new logs i log steps below read so_far same more =
    let s0 : old.steps ≡ sum_by length (take i (logs_of logs)) = ap (λ (c : Totals). c.steps) so_far in
    let a0 : old.accesses ≡ sum_by accesses_of (take i (logs_of logs)) = ap (λ (c : Totals). c.accesses) so_far in
    let e0 : old.envelopes ≡ sum_by sent_by (take i (logs_of logs)) = ap (λ (c : Totals). c.envelopes) so_far in
    let all : new ≡ with_log old (steps_of log) = more ∙ ap (with_log old) same in
    let s1 : new.steps ≡ old.steps + length (steps_of log) = ap (λ (c : Totals). c.steps) all in
    let a1 : new.accesses ≡ old.accesses + accesses_of (steps_of log) = ap (λ (c : Totals). c.accesses) all in
    let e1 : new.envelopes ≡ old.envelopes + sent_by (steps_of log) = ap (λ (c : Totals). c.envelopes) all in
    let s2 : sum_by length (take (i + 1) (logs_of logs)) ≡ sum_by length (take i (logs_of logs)) + length (steps_of log) =
    sum-more length steps_of logs i log below read in
    let a2 : sum_by accesses_of (take (i + 1) (logs_of logs)) ≡ sum_by accesses_of (take i (logs_of logs)) + accesses_of (steps_of log) =
    sum-more accesses_of steps_of logs i log below read in
    let e2 : sum_by sent_by (take (i + 1) (logs_of logs)) ≡ sum_by sent_by (take i (logs_of logs)) + sent_by (steps_of log) =
    sum-more sent_by steps_of logs i log below read in
    same_counts new (totals_of (take (i + 1) (logs_of logs))) (omega (arith, s0, s1, s2)) (omega (arith, a0, a1, a2)) (omega (arith, e0, e1, e2))
