-- Marks: made, looked up and set.
use Rattle.std.proofs.Common.{◌≡◌, ℕ, suc, zero, ◌+◌, ◌<◌, Bool, true, false, List, [], ◌∷◌, ◌++◌, Some, Vec, length, map, refl, sym, ap, ◌∙◌, subst, arith, option_map, slice_get, slice_index_or, slice_set, take, replicate}
use Rattle.std.proofs.lemmas.List.{length-map, map-append, map-set, take_more}
use Rattle.std.proofs.lemmas.Option.{get_or_from_slice_get, slice_get-map, slice_get_read}
use Rattle.std.proofs.lemmas.Simd.{splat_is_map}
use Rattle.shm_logs.specs.Boxes.SiteLog.{steps_of}
use Rattle.shm_logs.specs.declared.site_boxes.site_log.SiteLog.{SiteLog}
use Rattle.shm_model.specs.Log.{Logged, log_of}
use Rattle.shm_logs.proofs.Audits.Lookups.{log-here}
use Rattle.shm_logs.specs.Auditing.Logs.{logs_of}
use Rattle.shm_logs.specs.Auditing.Marks.{mark_at, marked, unmarked, MarksName}

abbrev bits : {A : Type 0} → List (Vec Bool A) → List (List Bool)
bits rows = map (λ row. row.items) rows

pub set-mark : {A : Type 0} (rows : List (Vec Bool A)) (s t i : ℕ) (row new : Vec Bool A) → s ≡ t → s < length rows → row ≡ slice_index_or rows s row
    → new.items ≡ slice_set row.items i true → map (λ r. r.items) (slice_set rows s new) ≡ marked (map (λ r. r.items) rows) t i
set-mark rows s t i row new same below read set =
    let found : slice_get rows s ≡ Some row = slice_get_read rows (length rows) s row refl below read in
    let here : slice_index_or (bits rows) s [] ≡ row.items = get_or_from_slice_get (bits rows) s row.items [] (slice_get-map (λ r. r.items) rows s ∙ ap (option_map (λ r. r.items)) found) in
    subst (λ u. map (λ r. r.items) (slice_set rows s new) ≡ marked (map (λ r. r.items) rows) u i) same
    (map-set (λ r. r.items) rows s new ∙ ap (slice_set (bits rows) s) (set ∙ ap (λ b. slice_set b i true) (sym here)))

unmarked-is : (log : List Logged) → replicate (length log) false ≡ unmarked log
unmarked-is log = splat_is_map log (length log) false refl

-- one more log's row
pub push-unmarked : {A : Type 0} (rows more : List (Vec Bool A)) (row : Vec Bool A) (logs : List (SiteLog A)) (i n : ℕ) (log : SiteLog A)
    → bits rows ≡ map unmarked (take i (logs_of logs)) → more ≡ rows ++ row ∷ [] → i < length logs → log ≡ slice_index_or logs i log
    → row.items ≡ replicate n false → n ≡ length (steps_of log) → map (λ r. r.items) more ≡ map unmarked (take (i + 1) (logs_of logs))
push-unmarked rows more row logs i n log so pushed below read zeros len =
    let here : log_of (logs_of logs) i ≡ steps_of log = log-here logs i log below read in
    let own : row.items ≡ unmarked (log_of (logs_of logs) i) = zeros ∙ ap (λ k. replicate k false) len ∙ unmarked-is (steps_of log) ∙ ap unmarked (sym here) in
    ap (map (λ r. r.items)) pushed
    ∙ map-append (λ r. r.items) rows (row ∷ [])
    ∙ ap (λ xs. xs ++ row.items ∷ []) so
    ∙ ap (λ b. map unmarked (take i (logs_of logs)) ++ b ∷ []) own
    ∙ sym (map-append unmarked (take i (logs_of logs)) (log_of (logs_of logs) i ∷ []))
    ∙ ap (map unmarked) (sym (take_more (logs_of logs) i [] (omega (arith, length-map logs steps_of))))

blank-row : (log : List Logged) (i : ℕ) → slice_index_or (unmarked log) i false ≡ false
blank-row [] i = refl
blank-row (l ∷ log) zero = refl
blank-row (l ∷ log) (suc i) = blank-row log i

blank-rows : (logs : List (List Logged)) (s : ℕ) → length (slice_index_or (map unmarked logs) s []) ≡ length (log_of logs s)
blank-rows [] s = refl
blank-rows (log ∷ logs) zero = length-map log (λ _. false)
blank-rows (log ∷ logs) (suc s) = blank-rows logs s

blank-marks : (logs : List (List Logged)) (s i : ℕ) → mark_at (map unmarked logs) s i ≡ false
blank-marks [] s i = refl
blank-marks (log ∷ logs) zero i = blank-row log i
blank-marks (log ∷ logs) (suc s) i = blank-marks logs s i

pub none-marked : (logs : List (List Logged)) → MarksName logs (map unmarked logs) []
none-marked logs = record { rows = blank-rows logs; named = blank-marks logs }
