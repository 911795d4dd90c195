-- What callers were told, one caller after another.
use Rattle.std.proofs.Common.{ℕ, ◌+◌, ◌<◌, List, [], ◌∷◌, ◌++◌, below_more, length, length-append, slice_index_or, subst, sym, arith, IfErr, IfOk}
use Rattle.std.proofs.Math.ListN.{get_or-append}
use Rattle.std.proofs.Math.Seq.{get_or-append_seam}
use Rattle.std.specs.Prelude.{Result, Vec}
use Rattle.shm_logs.specs.declared.site_boxes.receipt.Receipt.{Receipt}
use Rattle.shm_lines.specs.declared.workload_access.WorkloadAccess.{WorkloadAccess}
use Rattle.shm_report.specs.Callers.{IsToldOf, ServedUnlessEnded, ServesAll}
use Rattle.shm_report.specs.declared.call_and_run_error.CallFault.{CallFault}

-- what holds of each of these, and of one more at its place, holds of each of them all
each_and_last : {X : Type 0} (P : ℕ → X → Type 0) (xs : List X) (x : X) → ((k : ℕ) (d : X) → k < length xs → P k (slice_index_or xs k d)) → P (length xs) x
    → (k : ℕ) (d : X) → k < length xs + 1 → P k (slice_index_or (xs ++ x ∷ []) k d)
each_and_last {X} P xs x each last k d below =
    let Q : ℕ → Type 0 = λ j. P j (slice_index_or (xs ++ x ∷ []) j d) in
    let before : (j : ℕ) → j < length xs → Q j = λ j low. subst (P j) (sym (get_or-append xs (x ∷ []) d j low)) (each j d low) in
    let here : Q (length xs) = subst (P (length xs)) (sym (get_or-append_seam xs x [] d)) last in
    below_more Q (length xs) before here k below

one_told_more : {A : Type 0} (accesses : List WorkloadAccess) (told : List (Result (Vec Receipt A) CallFault)) (caller : Result (Vec Receipt A) CallFault)
    → ServedUnlessEnded (length told) accesses told → IsToldOf (length told) accesses caller → ServedUnlessEnded (length told + 1) accesses (told ++ caller ∷ [])
one_told_more accesses told caller is tells = record {
  count = omega (arith, length-append told (caller ∷ []));
  each = each_and_last (λ site one. IfOk one (λ receipts. ServesAll site accesses receipts.items)) told caller is.each tells.served;
  place = each_and_last (λ site one. IfErr one (λ fault. fault.place < length accesses)) told caller is.place tells.place;
}

-- one more caller was told all receipts, or ended
pub one_told : {A : Type 0} (accesses : List WorkloadAccess) (told : List (Result (Vec Receipt A) CallFault)) (caller : Result (Vec Receipt A) CallFault)
    (count : ℕ) → ServedUnlessEnded count accesses told → IsToldOf count accesses caller → ServedUnlessEnded (count + 1) accesses (told ++ caller ∷ [])
one_told accesses told caller count is tells =
    let P : ℕ → Type 0 = λ n. ServedUnlessEnded n accesses told → IsToldOf n accesses caller → ServedUnlessEnded (n + 1) accesses (told ++ caller ∷ []) in
    subst P is.count (one_told_more accesses told caller) is tells
