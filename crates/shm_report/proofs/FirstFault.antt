-- The first fault of callers, one caller after another.
use Rattle.std.proofs.Common.{◌≡◌, ◌∙◌, ℕ, zero, suc, ◌+◌, ◌<◌, ◌≤◌, ◌⊎◌, inl, inr, Bool, true, false, List, [], ◌∷◌, ◌++◌, length, take, get_or, nat_lt, slice_get, ap, refl, sym, subst, arith}
use Rattle.std.specs.Prelude.{Option, None, Some, Result, Ok, Err, if◌then◌else◌}
use Rattle.std.proofs.lemmas.Bool.Decides.{nat_tests}
use Rattle.std.proofs.lemmas.List.{take_more}
use Rattle.std.proofs.lemmas.Option.{none-some}
use Rattle.shm_report.specs.RunFaults.{earlier, fault_of, FirstIfAny, IsFirstFault, NoneFailed}
use Rattle.shm_report.specs.declared.call_and_run_error.CallFault.{CallFault}

same_some : {X : Type 0} (x y : X) → Some x ≡ Some y → x ≡ y
same_some x y e = cc

at_end : {X : Type 0} (xs : List X) (y : X) (k : ℕ) (x : X) → slice_get (xs ++ y ∷ []) k ≡ Some x
    → (slice_get xs k ≡ Some x) ⊎ ((k ≡ length xs) × (y ≡ x))
at_end [] y zero x at = inr (refl, same_some y x at)
at_end [] y (suc k) x at = absurd (none-some x at)
at_end (z ∷ xs) y zero x at = inl at
at_end (z ∷ xs) y (suc k) x at = elim (at_end xs y k x at) [ inl h ↦ inl h | inr h ↦ inr (ap suc h.0, h.1) ]

still_there : {X : Type 0} (xs : List X) (y : X) (k : ℕ) (x : X) → slice_get xs k ≡ Some x → slice_get (xs ++ y ∷ []) k ≡ Some x
still_there [] y k x at = absurd (none-some x at)
still_there (z ∷ xs) y zero x at = at
still_there (z ∷ xs) y (suc k) x at = still_there xs y k x at

last_there : {X : Type 0} (xs : List X) (y : X) → slice_get (xs ++ y ∷ []) (length xs) ≡ Some y
last_there [] y = refl
last_there (z ∷ xs) y = last_there xs y

ok_err : {X : Type 0} (x : X) (fault : CallFault) → Ok x ≡ Err fault → ⊥
ok_err x fault is = absurd (cc)

abbrev failed : {X : Type 0} → CallFault → Result X CallFault
failed fault = Err fault

same_err : {X : Type 0} (one other : CallFault) → failed {X = X} one ≡ failed {X = X} other → one ≡ other
same_err one other is = cc

-- one more caller came to its end
after_end : {X : Type 0} (told : List (Result X CallFault)) (x : X) (first : Option CallFault) → FirstIfAny told first → FirstIfAny (told ++ Ok x ∷ []) first
after_end told x None none = λ site fault at.
    elim (at_end told (Ok x) site (Err fault) at) [ inl h ↦ none site fault h | inr h ↦ ok_err x fault h.1 ]
after_end told x (Some fault) is = record {
  site = is.site;
  own = still_there told (Ok x) is.site (Err fault) is.own;
  first = λ other later at.
      elim (at_end told (Ok x) other (Err later) at) [ inl h ↦ is.first other later h | inr h ↦ absurd (ok_err x later h.1) ];
}

-- one more caller ended by a fault, the only one so far
only_fault : {X : Type 0} (told : List (Result X CallFault)) (fault : CallFault) → NoneFailed told → IsFirstFault (told ++ Err fault ∷ []) fault
only_fault {X} told fault none = record {
  site = length told;
  own = last_there told (Err fault);
  first = λ other later at.
      elim (at_end told (Err fault) other (Err later) at) [
        | inl h ↦ absurd (none other later h)
        | inr h ↦ let same : fault ≡ later = same_err {X = X} fault later h.1 in let at : fault.place ≡ later.place = ap (λ f. f.place) same in omega arith
      ];
}

-- or by one at an earlier line than the others
new_first : {X : Type 0} (told : List (Result X CallFault)) (fault old : CallFault) → fault.place ≤ old.place → IsFirstFault told old
    → IsFirstFault (told ++ Err fault ∷ []) fault
new_first {X} told fault old before is = record {
  site = length told;
  own = last_there told (Err fault);
  first = λ other later at.
      elim (at_end told (Err fault) other (Err later) at) [
        | inl h ↦ let after : old.place ≤ later.place = is.first other later h in omega arith
        | inr h ↦ let same : fault ≡ later = same_err {X = X} fault later h.1 in let at : fault.place ≡ later.place = ap (λ f. f.place) same in omega arith
      ];
}

-- or by one that is not
old_first : {X : Type 0} (told : List (Result X CallFault)) (fault old : CallFault) → old.place ≤ fault.place → IsFirstFault told old
    → IsFirstFault (told ++ Err fault ∷ []) old
old_first {X} told fault old before is = record {
  site = is.site;
  own = still_there told (Err fault) is.site (Err old) is.own;
  first = λ other later at.
      elim (at_end told (Err fault) other (Err later) at) [
        | inl h ↦ is.first other later h
        | inr h ↦ let same : fault ≡ later = same_err {X = X} fault later h.1 in let at : fault.place ≡ later.place = ap (λ f. f.place) same in omega arith
      ];
}

which_first : {X : Type 0} (told : List (Result X CallFault)) (fault old : CallFault) (earlier : Bool) → nat_lt fault.place old.place ≡ earlier
    → IsFirstFault told old → FirstIfAny (told ++ Err fault ∷ []) (if earlier then Some fault else Some old)
which_first told fault old true is first = let before : fault.place ≤ old.place = grind (arith, nat_tests) in new_first told fault old before first
which_first told fault old false is first = let before : old.place ≤ fault.place = grind (arith, nat_tests) in old_first told fault old before first

one_caller : {X : Type 0} (told : List (Result X CallFault)) (caller : Result X CallFault) (first : Option CallFault) → FirstIfAny told first
    → FirstIfAny (told ++ caller ∷ []) (earlier first (fault_of caller))
one_caller told (Ok x) None is = after_end told x None is
one_caller told (Ok x) (Some fault) is = after_end told x (Some fault) is
one_caller told (Err fault) None is = only_fault told fault is
one_caller told (Err fault) (Some old) is = which_first told fault old (nat_lt fault.place old.place) refl is

pub next_caller : {X : Type 0} (told : List (Result X CallFault)) (place : ℕ) (caller : Result X CallFault) (first : Option CallFault) → place < length told
    → caller ≡ get_or told place caller → FirstIfAny (take place told) first → FirstIfAny (take (place + 1) told) (earlier first (fault_of caller))
next_caller told place caller first in' read is =
    let more : take (place + 1) told ≡ take place told ++ caller ∷ [] =
    take_more told place caller in' ∙ ap (λ c. take place told ++ c ∷ []) (sym read) in
    subst (λ callers. FirstIfAny callers (earlier first (fault_of caller))) (sym more) (one_caller (take place told) caller first is)
