-- One more step of a log, and one more envelope of a step.
use Rattle.std.proofs.Common.{◌≡◌, ◌∙◌, ℕ, ◌+◌, ◌<◌, List, [], ◌∷◌, ◌++◌, length, map, get_or, take, ap, sym, arith, append_assoc, append-nil}
use Rattle.std.proofs.lemmas.List.{get_or-map, length-map, length-take, take_more}
use Rattle.shm_logs.specs.Boxes.Logged.{logged_of}
use Rattle.shm_logs.specs.declared.site_boxes.logged_step.Step.{Step}
use Rattle.shm_report.specs.LogText.{log_text, one_sent, sent_text, step_text}
use Rattle.shm_model.specs.Log.{Logged}
use Rattle.shm_model.specs.Message.{Envelope}
use Rattle.shm_parts.specs.Message.{envelope_of}
use Rattle.shm_parts.specs.declared.message.Envelope as code

step_push : (site index last : ℕ) (log : List Logged) (l : Logged) → last ≡ index + length log
    → log_text site index (log ++ l ∷ []) ≡ log_text site index log ++ step_text site last l
step_push site index last [] l is = append-nil (step_text site index l) ∙ ap (λ n. step_text site n l) (omega arith)
step_push site index last (first ∷ log) l is =
    ap (λ text. step_text site index first ++ text) (step_push site (index + 1) last log l (omega arith))
    ∙ sym (append_assoc (step_text site index first) (log_text site (index + 1) log) (step_text site last l))

envelope_push : (at index place last : ℕ) (sent : List Envelope) (e : Envelope) → last ≡ place + length sent
    → sent_text at index place (sent ++ e ∷ []) ≡ sent_text at index place sent ++ one_sent at index last e
envelope_push at index place last [] e is = append-nil (one_sent at index place e) ∙ ap (λ n. one_sent at index n e) (omega arith)
envelope_push at index place last (first ∷ sent) e is =
    ap (λ text. one_sent at index place first ++ text) (envelope_push at index (place + 1) last sent e (omega arith))
    ∙ sym (append_assoc (one_sent at index place first) (sent_text at index (place + 1) sent) (one_sent at index last e))

one_taken : {X Y : Type 0} (g : X → Y) (xs : List X) (i : ℕ) (x : X) → i < length xs → x ≡ get_or xs i x
    → take (i + 1) (map g xs) ≡ take i (map g xs) ++ g x ∷ []
one_taken g xs i x below read =
    take_more (map g xs) i (g x) (omega (arith, length-map xs g))
    ∙ ap (λ y. take i (map g xs) ++ y ∷ []) (get_or-map g xs i x (g x) below ∙ ap g (sym read))

so_many : {X Y : Type 0} (g : X → Y) (xs : List X) (i : ℕ) → i < length xs → i ≡ 0 + length (take i (map g xs))
so_many g xs i below = omega (arith, length-take i (map g xs), length-map xs g)

-- the text of one more step
pub step_told : {A : Type 0} (site i : ℕ) (steps : List (Step A)) (step : Step A) (old new : List ℕ) → i < length steps → step ≡ get_or steps i step
    → old ≡ log_text site 0 (take i (map logged_of steps)) → new ≡ old ++ step_text site i (logged_of step)
    → new ≡ log_text site 0 (take (i + 1) (map logged_of steps))
step_told site i steps step old new below read so_far more =
    more
    ∙ ap (λ text. text ++ step_text site i (logged_of step)) so_far
    ∙ sym (step_push site 0 i (take i (map logged_of steps)) (logged_of step) (so_many logged_of steps i below))
    ∙ ap (log_text site 0) (sym (one_taken logged_of steps i step below read))

-- the text of one more envelope
pub envelope_told : {A : Type 0} (at index i : ℕ) (sent : List (code.Envelope A)) (e : code.Envelope A) (begun old new : List ℕ) → i < length sent
    → e ≡ get_or sent i e → old ≡ begun ++ sent_text at index 0 (take i (map envelope_of sent)) → new ≡ old ++ one_sent at index i (envelope_of e)
    → new ≡ begun ++ sent_text at index 0 (take (i + 1) (map envelope_of sent))
envelope_told at index i sent e begun old new below read so_far more =
    let before = sent_text at index 0 (take i (map envelope_of sent)) in
    more
    ∙ ap (λ text. text ++ one_sent at index i (envelope_of e)) so_far
    ∙ append_assoc begun before (one_sent at index i (envelope_of e))
    ∙ ap (λ text. begun ++ text) (sym (envelope_push at index 0 i (take i (map envelope_of sent)) (envelope_of e) (so_many envelope_of sent i below)))
    ∙ ap (λ es. begun ++ sent_text at index 0 es) (sym (one_taken envelope_of sent i e below read))
