-- How much the sites did, whose logs these are.
use Rattle.std.specs.Prelude.{ℕ, ◌+◌, List, [], ◌∷◌, ◌++◌, codes, count_by, length}
use Rattle.std.specs.Fmt.{decimal}
use Rattle.std.specs.List.{sum_by}
use Rattle.shm_model.specs.Log.{Logged, sent_by}
use Rattle.shm_logs.specs.Auditing.Complete.{completes}
use Rattle.shm_audit.specs.declared.totals.Totals.{Totals}

abbrev pub accesses_of : List Logged → ℕ
accesses_of log = count_by (λ step. completes step.answer) log

abbrev pub totals_of : List (List Logged) → Totals
totals_of logs = record { steps = sum_by length logs; accesses = sum_by accesses_of logs; envelopes = sum_by sent_by logs }

-- so much, and what this log has
abbrev pub with_log : Totals → List Logged → Totals
with_log counts log = record {
  steps = counts.steps + length log;
  accesses = counts.accesses + accesses_of log;
  envelopes = counts.envelopes + sent_by log;
}

-- a line for each
abbrev pub totals_text : Totals → List ℕ
totals_text counts =
    codes "steps " ++ (decimal counts.steps ++ (codes "\naccesses " ++ (decimal counts.accesses
    ++ (codes "\nenvelopes " ++ (decimal counts.envelopes ++ 10 ∷ [])))))
