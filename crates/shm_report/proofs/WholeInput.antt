-- A workload that is read is shorter than what is read at most.
use Rattle.std.proofs.Common.{◌≡◌, ◌∙◌, ℕ, ◌+◌, ◌*◌, ◌-◌, ◌<◌, ◌≤◌, ◌==◌, Bool, true, false, List, [], ◌∷◌, Option, None, Some, Result, Ok, Err, IfSome, append-nil, length, length-append, nat_lt, take, ap, refl, sym, subst, arith}
use Rattle.std.specs.Prelude.{if◌then◌else◌}
use Rattle.std.specs.Io.KnownBytes.{Consumes, IsAtEnd}
use Rattle.std.proofs.KnownBytes.{Consumes-trans, Consumes-whole}
use Rattle.std.proofs.Math.Seq.{take-append_seam}
use Rattle.std.proofs.lemmas.List.{length-take, take_all}
use Rattle.std.proofs.lemmas.List.Splits.{join_with_byte-slice_split}
use Rattle.std.proofs.lemmas.Bool.Decides.{nat_tests}
use Rattle.std.specs.List.{join_with_byte}
use Rattle.shm_lines.specs.Limits.{max_bytes}
use Rattle.shm_lines.specs.Workload.{Whole, access_of, accesses_on, after_first, open_line, or_bad, parts_of, preset_of, read_all, read_line, then_rest, unless_broken, with_size, workload_of}
use Rattle.shm_lines.specs.declared.workload_access.WorkloadAccess.{WorkloadAccess}
use Rattle.shm_lines.specs.declared.workload_error.WorkloadFault.{WorkloadFault}
use Rattle.shm_lines.specs.declared.workload_error.WorkloadFault.TheVariants.{LineTooLong, TooManyLines}

no_limit : {A : Type 0} (many long : Bool) (number : ℕ) (said : Result A WorkloadFault) (x : A)
    → unless_broken (if many then Some TooManyLines else if long then Some (LineTooLong number) else None) said ≡ Ok x → (many ≡ false) × (long ≡ false)
no_limit true long number said x is = absurd (cc)
no_limit false true number said x is = absurd (cc)
no_limit false false number said x is = (refl, refl)

-- a line that is read breaks no limit
pub in_limits : {A : Type 0} (read : List ℕ → Option A) (number : ℕ) (bytes : List ℕ) (x : A) → read_line read number bytes ≡ Ok x
    → (number ≤ 10000) × (length bytes ≤ 200)
in_limits read number bytes x is =
    let h = no_limit (nat_lt 10000 number) (nat_lt 200 (length bytes)) number (or_bad number (read bytes)) x is in
    let h0 : nat_lt 10000 number ≡ false = h.0 in
    let h1 : nat_lt 200 (length bytes) ≡ false = h.1 in (grind (arith, nat_tests), grind (arith, nat_tests))

both_read : (line : Result WorkloadAccess WorkloadFault) (rest : Result (List WorkloadAccess) WorkloadFault) (all : List WorkloadAccess) → then_rest line rest ≡ Ok all
    → ((access : WorkloadAccess) × (line ≡ Ok access)) × ((others : List WorkloadAccess) × (rest ≡ Ok others))
both_read (Err fault) rest all is = absurd (cc)
both_read (Ok access) (Err fault) all is = absurd (cc)
both_read (Ok access) (Ok others) all is = ((access, refl), (others, refl))

ends_here : (empty : Bool) (number : ℕ) (rest : List ℕ) (all : List WorkloadAccess)
    → (if empty then Ok [] else Err (open_line number rest)) ≡ Ok all → empty ≡ true
ends_here true number rest all is = refl
ends_here false number rest all is = absurd (cc)

-- so many bytes at most have the lines from this number on
on_length : (sites size number : ℕ) (parts : List (List ℕ)) (all : List WorkloadAccess) → accesses_on sites size number parts ≡ Ok all
    → length (join_with_byte 10 parts) ≤ (10001 - number) * 201
on_length sites size number [] all is = omega arith
on_length sites size number (rest ∷ []) all is =
    let empty : (length rest == 0) ≡ true = ends_here (length rest == 0) number rest all is in
    let none : length rest ≡ 0 = grind (arith, nat_tests) in omega arith
on_length sites size number (bytes ∷ next ∷ others) all is =
    let both = both_read (read_line (access_of sites size) number bytes) (accesses_on sites size (number + 1) (next ∷ others)) all is in
    let line = in_limits (access_of sites size) number bytes both.0.0 both.0.1 in
    let rest = on_length sites size (number + 1) (next ∷ others) both.1.0 both.1.1 in
    omega (arith, line.0, line.1, rest, length-append bytes (10 ∷ join_with_byte 10 (next ∷ others)))

all_read : (size : ℕ) (rest : Result (List WorkloadAccess) WorkloadFault) (whole : Whole) → with_size size rest ≡ Ok whole → (all : List WorkloadAccess) × (rest ≡ Ok all)
all_read size (Err fault) whole is = absurd (cc)
all_read size (Ok all) whole is = (all, refl)

first_read : (sites : ℕ) (first : Result ℕ WorkloadFault) (others : List (List ℕ)) (whole : Whole) → after_first sites first others ≡ Ok whole
    → (size : ℕ) × (first ≡ Ok size) × ((all : List WorkloadAccess) × (accesses_on sites size 2 others ≡ Ok all))
first_read sites (Err fault) others whole is = absurd (cc)
first_read sites (Ok size) others whole is = (size, refl, all_read size (accesses_on sites size 2 others) whole is)

parts_length : (sites : ℕ) (parts : List (List ℕ)) (whole : Whole) → read_all sites parts ≡ Ok whole → length (join_with_byte 10 parts) ≤ 10000 * 201
parts_length sites [] whole is = absurd (cc)
parts_length sites (rest ∷ []) whole is = absurd (cc)
parts_length sites (first ∷ next ∷ others) whole is =
    let read = first_read sites (read_line preset_of 1 first) (next ∷ others) whole is in
    let line = in_limits preset_of 1 first read.0 read.1 in
    let rest = on_length sites read.0 2 (next ∷ others) read.2.0 read.2.1 in
    omega (arith, line.1, rest, length-append first (10 ∷ join_with_byte 10 (next ∷ others)))

short : (sites : ℕ) (bytes : List ℕ) (whole : Whole) → workload_of sites bytes ≡ Ok whole → length bytes < max_bytes
short sites bytes whole is = omega (arith, parts_length sites (parts_of bytes) whole is, ap length (join_with_byte-slice_split 10 bytes))

not_cut : (sites : ℕ) (all : List ℕ) (whole : Whole) → workload_of sites (take max_bytes all) ≡ Ok whole → workload_of sites all ≡ Ok whole
not_cut sites all whole is =
    let few : length (take max_bytes all) < max_bytes = short sites (take max_bytes all) whole is in
    let whole_input : take max_bytes all ≡ all = take_all max_bytes all (omega (arith, few, length-take max_bytes all)) in
    ap (workload_of sites) (sym whole_input) ∙ is

-- a workload that is read from a front of the reader's bytes is that of all of them
pub whole_input : (sites : ℕ) (known : Option (List ℕ)) (bytes : List ℕ) (whole : Whole) → IfSome known (λ all. bytes ≡ take max_bytes all)
    → workload_of sites bytes ≡ Ok whole → IfSome known (λ all. workload_of sites all ≡ Ok whole)
whole_input sites None bytes whole front is = tt
whole_input sites (Some all) bytes whole front is = not_cut sites all whole (ap (workload_of sites) (sym front) ∙ is)

-- what was read up to the reader's end is a front
pub read_to_end : (first last : Option (List ℕ)) (bytes : List ℕ) (most : ℕ) → length bytes ≤ most → Consumes first last bytes → IsAtEnd last
    → IfSome first (λ all. bytes ≡ take most all)
read_to_end first last bytes most few read end = Consumes-whole first last bytes (λ all. bytes ≡ take most all) read end (sym (take_all most bytes few))

-- what was read up to the limit is a front
pub read_to_limit : (first last : Option (List ℕ)) (bytes : List ℕ) (most : ℕ) → length bytes ≡ most → Consumes first last bytes
    → IfSome first (λ all. bytes ≡ take most all)
read_to_limit None last bytes most full read = tt
read_to_limit (Some all) None bytes most full read = absurd read
read_to_limit (Some all) (Some rest) bytes most full read =
    sym (take-append_seam bytes rest) ∙ ap (take (length bytes)) (sym read) ∙ ap (λ n. take n all) full

-- what was read before, and then nothing
pub nothing_more : (first old new : Option (List ℕ)) (bytes : List ℕ) → Consumes first old bytes → Consumes old new [] → Consumes first new bytes
nothing_more first old new bytes read none = subst (Consumes first new) (append-nil bytes) (Consumes-trans first old new bytes [] read none)
