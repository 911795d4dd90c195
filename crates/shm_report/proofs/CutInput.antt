-- A workload with a fault that is longer than what is read has the same fault in the part that is read.
use Rattle.std.proofs.Common.{◌≡◌, ◌∙◌, ℕ, ◌+◌, ◌*◌, ◌-◌, ◌<◌, ◌≤◌, ◌==◌, Bool, true, false, cond, List, [], ◌∷◌, ◌++◌, Option, None, Some, Result, Ok, Err, IfSome, length, length-append, nat_lt, take, drop, unwrap_or, ap, refl, sym, arith}
use Rattle.std.specs.Prelude.{if◌then◌else◌}
use Rattle.std.specs.List.{join_with_byte, onto_first}
use Rattle.std.proofs.lemmas.Bool.Decides.{nat_tests}
use Rattle.std.proofs.lemmas.List.{append-nil, length-drop, length-take, take-append-drop}
use Rattle.std.proofs.lemmas.List.Splits.{join_with_byte-slice_split, length-slice_split}
use Rattle.shm_lines.specs.Limits.{max_bytes}
use Rattle.shm_lines.specs.Workload.{Whole, access_of, accesses_on, after_first, broken_limit, open_line, or_bad, parts_of, preset_of, read_all, read_line, then_rest, unless_broken, with_size, workload_of}
use Rattle.shm_lines.specs.declared.workload_access.WorkloadAccess.{WorkloadAccess}
use Rattle.shm_lines.specs.declared.workload_error.WorkloadFault.{WorkloadFault}
use Rattle.shm_lines.specs.declared.workload_error.WorkloadFault.TheVariants.{BadLine, LineTooLong, TooManyLines}
use Rattle.shm_report.proofs.WholeInput.{in_limits}

-- the parts of two texts, one behind the other: the last part of one and the first part of the other are one part
abbrev glued : List (List ℕ) → List (List ℕ) → List (List ℕ)
glued [] others = others
glued (last ∷ []) [] = last ∷ []
glued (last ∷ []) (first ∷ others) = (last ++ first) ∷ others
glued (part ∷ next ∷ parts) others = part ∷ glued (next ∷ parts) others

glued-empty : (parts : List (List ℕ)) → 1 ≤ length parts → glued ([] ∷ []) parts ≡ parts
glued-empty [] some = absurd (omega arith)
glued-empty (part ∷ parts) some = refl

glued-cons : (part : List ℕ) (parts others : List (List ℕ)) → 1 ≤ length parts → glued (part ∷ parts) others ≡ part ∷ glued parts others
glued-cons part [] others some = absurd (omega arith)
glued-cons part (next ∷ parts) others some = refl

glued-onto : (x : ℕ) (parts others : List (List ℕ)) → 1 ≤ length parts → glued (onto_first x parts) others ≡ onto_first x (glued parts others)
glued-onto x [] others some = absurd (omega arith)
glued-onto x (last ∷ []) [] some = refl
glued-onto x (last ∷ []) (first ∷ others) some = refl
glued-onto x (part ∷ next ∷ parts) others some = refl

glued-some : (part : List ℕ) (parts others : List (List ℕ)) → 1 ≤ length (glued (part ∷ parts) others)
glued-some part [] [] = omega arith
glued-some part [] (first ∷ others) = omega arith
glued-some part (next ∷ parts) others = omega arith

some_part : (bytes : List ℕ) → 1 ≤ length (parts_of bytes)
some_part bytes = omega (arith, length-slice_split (λ byte. byte == 10) bytes)

glued-cond : (x : ℕ) (ends : Bool) (parts others : List (List ℕ)) → 1 ≤ length parts
    → cond ends ([] ∷ glued parts others) (onto_first x (glued parts others)) ≡ glued (cond ends ([] ∷ parts) (onto_first x parts)) others
glued-cond x true parts others some = sym (glued-cons [] parts others some)
glued-cond x false parts others some = sym (glued-onto x parts others some)

parts_glued : (front back : List ℕ) → parts_of (front ++ back) ≡ glued (parts_of front) (parts_of back)
parts_glued [] back = sym (glued-empty (parts_of back) (some_part back))
parts_glued (x ∷ front) back =
    ap (λ parts. cond (x == 10) ([] ∷ parts) (onto_first x parts)) (parts_glued front back)
    ∙ glued-cond x (x == 10) (parts_of front) (parts_of back) (some_part front)

broken_by : (many long longer : Bool) (number : ℕ) → (many ≡ false → (long ≡ true) × (longer ≡ true)) → (fault : WorkloadFault)
    × ((if many then Some TooManyLines else if long then Some (LineTooLong number) else None) ≡ Some fault)
    × ((if many then Some TooManyLines else if longer then Some (LineTooLong number) else None) ≡ Some fault)
broken_by true long longer number limits = (TooManyLines, refl, refl)
broken_by false true true number limits = (LineTooLong number, refl, refl)
broken_by false true false number limits = let no : false ≡ true = (limits refl).1 in absurd (cc)
broken_by false false longer number limits = let no : false ≡ true = (limits refl).0 in absurd (cc)

beyond : (number count : ℕ) → (10001 - number) * 201 < count → nat_lt 10000 number ≡ false → nat_lt 200 count ≡ true
beyond number count long few = grind (arith, nat_tests)

-- an open line with more bytes than all further lines can have breaks a limit, and the same one where it goes on
still_broken : (number : ℕ) (rest more : List ℕ) → (10001 - number) * 201 < length rest
    → (fault : WorkloadFault) × (broken_limit number rest ≡ Some fault) × (broken_limit number (rest ++ more) ≡ Some fault)
still_broken number rest more long =
    broken_by (nat_lt 10000 number) (nat_lt 200 (length rest)) (nat_lt 200 (length (rest ++ more))) number
    (λ few. (beyond number (length rest) long few, beyond number (length (rest ++ more)) (omega (arith, long, length-append rest more)) few))

abbrev refused : WorkloadFault → Result (List WorkloadAccess) WorkloadFault
refused fault = Err fault

abbrev no_whole : WorkloadFault → Result Whole WorkloadFault
no_whole fault = Err fault

unwrapped : (broken : Option WorkloadFault) (bad fault found : WorkloadFault) → unwrap_or broken bad ≡ fault → broken ≡ Some found → broken ≡ Some fault
unwrapped None bad fault found is limit = absurd (cc)
unwrapped (Some one) bad fault found is limit = ap (λ (f : WorkloadFault). Some f) is

its_fault : (empty : Bool) (broken : Option WorkloadFault) (bad fault found : WorkloadFault)
    → (if empty then Ok [] else refused (unwrap_or broken bad)) ≡ refused fault → broken ≡ Some found → broken ≡ Some fault
its_fault true broken bad fault found is limit = absurd (cc)
its_fault false broken bad fault found is limit = unwrapped broken bad fault found (cc) limit

ends_broken : (empty : Bool) (broken : Option WorkloadFault) (bad fault : WorkloadFault) → empty ≡ false → broken ≡ Some fault
    → (if empty then Ok [] else refused (unwrap_or broken bad)) ≡ refused fault
ends_broken true broken bad fault some limit = absurd (cc)
ends_broken false None bad fault some limit = absurd (cc)
ends_broken false (Some one) bad fault some limit = cc

line_broken : {A : Type 0} (broken : Option WorkloadFault) (line : Result A WorkloadFault) (fault : WorkloadFault) → broken ≡ Some fault
    → unless_broken broken line ≡ Err fault
line_broken None line fault limit = absurd (cc)
line_broken (Some one) line fault limit = cc

not_empty : (count : ℕ) → 0 < count → (count == 0) ≡ false
not_empty count some = grind (arith, nat_tests)

-- the open line goes on, and then there may be further lines
on_open : (sites size number : ℕ) (rest first : List ℕ) (others : List (List ℕ)) (fault : WorkloadFault) → (10001 - number) * 201 < length rest
    → broken_limit number (rest ++ first) ≡ Some fault → accesses_on sites size number ((rest ++ first) ∷ others) ≡ Err fault
on_open sites size number rest first [] fault long limit =
    ends_broken (length (rest ++ first) == 0) (broken_limit number (rest ++ first)) (BadLine number) fault
    (not_empty (length (rest ++ first)) (omega (arith, long, length-append rest first))) limit
on_open sites size number rest first (next ∷ others) fault long limit =
    ap (λ line. then_rest line (accesses_on sites size (number + 1) (next ∷ others)))
    (line_broken (broken_limit number (rest ++ first)) (or_bad number (access_of sites size (rest ++ first))) fault limit)

on_more : (sites size number : ℕ) (bytes : List ℕ) (parts : List (List ℕ)) → 1 ≤ length parts
    → accesses_on sites size number (bytes ∷ parts) ≡ then_rest (read_line (access_of sites size) number bytes) (accesses_on sites size (number + 1) parts)
on_more sites size number bytes [] some = absurd (omega arith)
on_more sites size number bytes (next ∷ parts) some = refl

then_fault : (line : Result WorkloadAccess WorkloadFault) (rest longer : Result (List WorkloadAccess) WorkloadFault) (fault : WorkloadFault) → then_rest line rest ≡ Err fault
    → ((access : WorkloadAccess) → line ≡ Ok access → rest ≡ Err fault → longer ≡ Err fault) → then_rest line longer ≡ Err fault
then_fault (Err one) rest longer fault is on = is
then_fault (Ok access) (Err one) longer fault is on = ap (then_rest (Ok access)) (on access refl is)
then_fault (Ok access) (Ok all) longer fault is on = absurd (cc)

on_cut : (sites size number : ℕ) (parts : List (List ℕ)) (first : List ℕ) (others : List (List ℕ)) (fault : WorkloadFault)
    → (10001 - number) * 201 < length (join_with_byte 10 parts) → accesses_on sites size number parts ≡ Err fault
    → accesses_on sites size number (glued parts (first ∷ others)) ≡ Err fault
on_cut sites size number [] first others fault long is = absurd (cc)
on_cut sites size number (rest ∷ []) first others fault long is =
    let broken = still_broken number rest first long in
    let same : Some broken.0 ≡ Some fault = sym broken.1 ∙ its_fault (length rest == 0) (broken_limit number rest) (BadLine number) fault broken.0 is broken.1 in
    on_open sites size number rest first others fault long (broken.2 ∙ same)
on_cut sites size number (bytes ∷ next ∷ parts) first others fault long is =
    on_more sites size number bytes (glued (next ∷ parts) (first ∷ others)) (glued-some next parts (first ∷ others))
    ∙ then_fault (read_line (access_of sites size) number bytes) (accesses_on sites size (number + 1) (next ∷ parts))
    (accesses_on sites size (number + 1) (glued (next ∷ parts) (first ∷ others))) fault is
    (λ access read later.
    let line = in_limits (access_of sites size) number bytes access read in
    on_cut sites size (number + 1) (next ∷ parts) first others fault
    (omega (arith, line.0, line.1, long, length-append bytes (10 ∷ join_with_byte 10 (next ∷ parts)))) later)

after_more : (sites : ℕ) (first : List ℕ) (parts : List (List ℕ)) → 1 ≤ length parts
    → read_all sites (first ∷ parts) ≡ after_first sites (read_line preset_of 1 first) parts
after_more sites first [] some = absurd (omega arith)
after_more sites first (next ∷ parts) some = refl

sized_fault : (size : ℕ) (rest longer : Result (List WorkloadAccess) WorkloadFault) (fault : WorkloadFault) → with_size size rest ≡ Err fault
    → (rest ≡ Err fault → longer ≡ Err fault) → with_size size longer ≡ Err fault
sized_fault size (Err one) longer fault is on = ap (with_size size) (on (cc))
sized_fault size (Ok all) longer fault is on = absurd (cc)

after_fault : (sites : ℕ) (first : Result ℕ WorkloadFault) (parts longer : List (List ℕ)) (fault : WorkloadFault) → after_first sites first parts ≡ Err fault
    → ((size : ℕ) → first ≡ Ok size → accesses_on sites size 2 parts ≡ Err fault → accesses_on sites size 2 longer ≡ Err fault)
    → after_first sites first longer ≡ Err fault
after_fault sites (Err one) parts longer fault is on = cc
after_fault sites (Ok size) parts longer fault is on =
    sized_fault size (accesses_on sites size 2 parts) (accesses_on sites size 2 longer) fault is (on size refl)

first_open : (sites : ℕ) (rest : List ℕ) (others : List (List ℕ)) (fault : WorkloadFault) → broken_limit 1 rest ≡ Some fault
    → read_all sites (rest ∷ others) ≡ Err fault
first_open sites rest [] fault limit = ap (λ broken. no_whole (unwrap_or broken (BadLine 1))) limit
first_open sites rest (next ∷ others) fault limit =
    ap (λ line. after_first sites line (next ∷ others)) (line_broken (broken_limit 1 rest) (or_bad 1 (preset_of rest)) fault limit)

all_cut : (sites : ℕ) (parts : List (List ℕ)) (first : List ℕ) (others : List (List ℕ)) (fault : WorkloadFault)
    → 10000 * 201 < length (join_with_byte 10 parts) → read_all sites parts ≡ Err fault → read_all sites (glued parts (first ∷ others)) ≡ Err fault
all_cut sites [] first others fault long is = absurd (omega arith)
all_cut sites (rest ∷ []) first others fault long is =
    let broken = still_broken 1 rest first (omega arith) in
    let told : open_line 1 rest ≡ fault = cc in
    let same : broken_limit 1 rest ≡ Some fault = unwrapped (broken_limit 1 rest) (BadLine 1) fault broken.0 told broken.1 in
    first_open sites (rest ++ first) others fault (broken.2 ∙ sym broken.1 ∙ same)
all_cut sites (line ∷ next ∷ parts) first others fault long is =
    after_more sites line (glued (next ∷ parts) (first ∷ others)) (glued-some next parts (first ∷ others))
    ∙ after_fault sites (read_line preset_of 1 line) (next ∷ parts) (glued (next ∷ parts) (first ∷ others)) fault is
    (λ size read later.
    let limits = in_limits preset_of 1 line size read in
    on_cut sites size 2 (next ∷ parts) first others fault
    (omega (arith, limits.1, long, length-append line (10 ∷ join_with_byte 10 (next ∷ parts)))) later)

goes_on : (sites : ℕ) (front back : List ℕ) (parts : List (List ℕ)) (fault : WorkloadFault) → parts ≡ parts_of back → 1 ≤ length parts
    → 10000 * 201 < length front → workload_of sites front ≡ Err fault → workload_of sites (front ++ back) ≡ Err fault
goes_on sites front back [] fault same some long is = absurd (omega arith)
goes_on sites front back (first ∷ others) fault same some long is =
    ap (read_all sites) (parts_glued front back ∙ ap (glued (parts_of front)) (sym same))
    ∙ all_cut sites (parts_of front) first others fault (omega (arith, long, ap length (join_with_byte-slice_split 10 front))) is

front_fault : (sites : ℕ) (front back : List ℕ) (fault : WorkloadFault) → (1 ≤ length back → 10000 * 201 < length front)
    → workload_of sites front ≡ Err fault → workload_of sites (front ++ back) ≡ Err fault
front_fault sites front [] fault cut is = ap (workload_of sites) (append-nil front) ∙ is
front_fault sites front (x ∷ back) fault cut is =
    goes_on sites front (x ∷ back) (parts_of (x ∷ back)) fault refl (some_part (x ∷ back)) (cut (omega arith)) is

cut_fault : (sites : ℕ) (all : List ℕ) (fault : WorkloadFault) → workload_of sites (take max_bytes all) ≡ Err fault → workload_of sites all ≡ Err fault
cut_fault sites all fault is =
    ap (workload_of sites) (sym (take-append-drop max_bytes all))
    ∙ front_fault sites (take max_bytes all) (drop max_bytes all) fault (λ some. omega (arith, some, length-take max_bytes all, length-drop max_bytes all)) is

-- the fault of a front of the reader's bytes is that of all of them
pub whole_fault : (sites : ℕ) (known : Option (List ℕ)) (bytes : List ℕ) (fault : WorkloadFault) → IfSome known (λ all. bytes ≡ take max_bytes all)
    → workload_of sites bytes ≡ Err fault → IfSome known (λ all. workload_of sites all ≡ Err fault)
whole_fault sites None bytes fault front is = tt
whole_fault sites (Some all) bytes fault front is = cut_fault sites all fault (ap (workload_of sites) (sym front) ∙ is)
