-- Whole that are read line by line.
use Rattle.std.proofs.Common.{◌≡◌, ℕ, ◌+◌, ◌==◌, false, List, [], ◌∷◌, ◌++◌, refl, sym, ap, ◌∙◌, append_assoc}
use Rattle.std.specs.Prelude.{Result, Ok, Err}
use Rattle.shm_lines.specs.Words.{is_end}
use Rattle.shm_lines.proofs.WordLemmas.{is_end-parts}
use Rattle.shm_lines.specs.Workload.{Whole, parts_of, prefixed, read_line, then_rest, with_size, access_of, accesses_on, read_all, after_first, preset_of}
use Rattle.shm_lines.specs.declared.workload_error.WorkloadFault.{WorkloadFault}
use Rattle.shm_lines.specs.declared.workload_access.WorkloadAccess.{WorkloadAccess}

prefixed-then : (before : List WorkloadAccess) (access : WorkloadAccess) (rest : Result (List WorkloadAccess) WorkloadFault)
    → prefixed before (then_rest (Ok access) rest) ≡ prefixed (before ++ access ∷ []) rest
prefixed-then before access (Err fault) = refl
prefixed-then before access (Ok accesses) = ap Ok (sym (append_assoc before (access ∷ []) accesses))

-- a line feed ends this line
accesses_on-line : (sites size n : ℕ) (line : List ℕ) (parts : List (List ℕ)) → is_end parts ≡ false
    → accesses_on sites size n (line ∷ parts) ≡ then_rest (read_line (access_of sites size) n line) (accesses_on sites size (n + 1) parts)
accesses_on-line sites size n line [] e = absurd (cc)
accesses_on-line sites size n line (part ∷ parts) e = refl

read_all-first : (sites : ℕ) (line : List ℕ) (parts : List (List ℕ)) → is_end parts ≡ false
    → read_all sites (line ∷ parts) ≡ after_first sites (read_line preset_of 1 line) parts
read_all-first sites line [] e = absurd (cc)
read_all-first sites line (part ∷ parts) e = refl

-- this line, and what is read after it
step : (sites size n : ℕ) (before : List WorkloadAccess) (bytes line others : List ℕ) → parts_of bytes ≡ line ∷ parts_of others
    → prefixed before (accesses_on sites size n (parts_of bytes))
    ≡ prefixed before (then_rest (read_line (access_of sites size) n line) (accesses_on sites size (n + 1) (parts_of others)))
step sites size n before bytes line others cut =
    ap (λ parts. prefixed before (accesses_on sites size n parts)) cut
    ∙ ap (prefixed before) (accesses_on-line sites size n line (parts_of others) (is_end-parts (λ byte. byte == 10) others))

pub line_fails : (sites size n : ℕ) (before : List WorkloadAccess) (bytes line others : List ℕ) (fault : WorkloadFault)
    → parts_of bytes ≡ line ∷ parts_of others → Err fault ≡ read_line (access_of sites size) n line
    → prefixed before (accesses_on sites size n (parts_of bytes)) ≡ Err fault
line_fails sites size n before bytes line others fault cut read =
    step sites size n before bytes line others cut
    ∙ ap (λ r. prefixed before (then_rest r (accesses_on sites size (n + 1) (parts_of others)))) (sym read)

pub line_passes : (sites size n : ℕ) (before : List WorkloadAccess) (bytes line others : List ℕ) (access : WorkloadAccess)
    → parts_of bytes ≡ line ∷ parts_of others → Ok access ≡ read_line (access_of sites size) n line
    → prefixed before (accesses_on sites size n (parts_of bytes)) ≡ prefixed (before ++ access ∷ []) (accesses_on sites size (n + 1) (parts_of others))
line_passes sites size n before bytes line others access cut read =
    step sites size n before bytes line others cut
    ∙ ap (λ r. prefixed before (then_rest r (accesses_on sites size (n + 1) (parts_of others)))) (sym read)
    ∙ prefixed-then before access (accesses_on sites size (n + 1) (parts_of others))

-- the first line, and what is read after it
pub first_passes : (sites size : ℕ) (bytes line others : List ℕ) (whole : Whole)
    → parts_of bytes ≡ line ∷ parts_of others → Ok size ≡ read_line preset_of 1 line → with_size size (accesses_on sites size 2 (parts_of others)) ≡ Ok whole
    → read_all sites (parts_of bytes) ≡ Ok whole
first_passes sites size bytes line others whole cut read rest =
    ap (read_all sites) cut
    ∙ read_all-first sites line (parts_of others) (is_end-parts (λ byte. byte == 10) others)
    ∙ ap (λ r. after_first sites r (parts_of others)) (sym read)
    ∙ rest
