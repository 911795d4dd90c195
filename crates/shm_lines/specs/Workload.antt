-- Workloads: from bytes to what callers do. The first line is `preset P`, and segment 0 has so many pages; each further line is one
-- caller's load or store through attachment 0. A line ends with a line feed; what stands after the last line feed is no line.
use Rattle.std.specs.Prelude.{ℕ, ◌+◌, ◌*◌, ◌==◌, ◌&&◌, Bool, if◌then◌else◌, List, [], ◌∷◌, ◌++◌, codes, length, nat_lt, unwrap_or, Option, None, Some, Result, Ok, Err}
use Rattle.std.specs.List.{slice_split}
use Rattle.std.specs.Str.{bytes_eq}
use Rattle.shm_place.specs.Limits.{page_bytes, pages}
use Rattle.shm_model.specs.declared.asked_access.Asked.TheVariants.{Load, Store}
use Rattle.shm_lines.specs.Words.{◌>>=◌, words_of, byte_of, next_word, next_of, next_number, next_named, is_end}
use Rattle.shm_lines.specs.Limits.{max_line_bytes, max_lines}
use Rattle.shm_lines.specs.declared.workload_error.WorkloadFault.{WorkloadFault}
use Rattle.shm_lines.specs.declared.workload_error.WorkloadFault.TheVariants.{BadLine, LineTooLong, TooManyLines}
use Rattle.shm_lines.specs.declared.workload_access.WorkloadAccess.{WorkloadAccess}

-- there is such a site, and segment 0 has a byte there
abbrev pub is_inside : ℕ → ℕ → ℕ → ℕ → Bool
is_inside sites size site offset = nat_lt site sites && nat_lt offset (size * page_bytes)

-- `load site offset`
abbrev pub load_of : ℕ → ℕ → List (List ℕ) → Option WorkloadAccess
load_of sites size words = do
  (site, words) ← next_number words
  (offset, words) ← next_number words
  if is_end words && is_inside sites size site offset then Some (record { site = site; asked = Load 0 offset }) else None

-- `store site offset byte`
abbrev pub store_of : ℕ → ℕ → List (List ℕ) → Option WorkloadAccess
store_of sites size words = do
  (site, words) ← next_number words
  (offset, words) ← next_number words
  (byte, words) ← next_of byte_of words
  if is_end words && is_inside sites size site offset then Some (record { site = site; asked = Store 0 offset byte }) else None

abbrev pub access_of : ℕ → ℕ → List ℕ → Option WorkloadAccess
access_of sites size line = do
  (verb, words) ← next_word (words_of line)
  if bytes_eq verb (codes "load") then load_of sites size words
      else if bytes_eq verb (codes "store") then store_of sites size words
      else None

-- `preset P`: so many pages
abbrev pub preset_of : List ℕ → Option ℕ
preset_of line = do
  (size, words) ← next_named (codes "preset") pages (words_of line)
  if is_end words then Some size else None

-- the limit that the line of this number breaks
abbrev pub broken_limit : ℕ → List ℕ → Option WorkloadFault
broken_limit number bytes =
    if nat_lt max_lines number then Some TooManyLines
    else if nat_lt max_line_bytes (length bytes) then Some (LineTooLong number)
    else None

abbrev pub or_bad : {A : Type 0} → ℕ → Option A → Result A WorkloadFault
or_bad number None = Err (BadLine number)
or_bad number (Some x) = Ok x

abbrev pub unless_broken : {A : Type 0} → Option WorkloadFault → Result A WorkloadFault → Result A WorkloadFault
unless_broken (Some fault) line = Err fault
unless_broken None line = line

-- what the line of this number says, where a line is read so
abbrev pub read_line : {A : Type 0} → (List ℕ → Option A) → ℕ → List ℕ → Result A WorkloadFault
read_line read number bytes = unless_broken (broken_limit number bytes) (or_bad number (read bytes))

-- what stands after the last line feed is a bad line, unless it breaks a limit
abbrev pub open_line : ℕ → List ℕ → WorkloadFault
open_line number bytes = unwrap_or (broken_limit number bytes) (BadLine number)

-- this access, and then the rest
abbrev pub then_rest : Result WorkloadAccess WorkloadFault → Result (List WorkloadAccess) WorkloadFault → Result (List WorkloadAccess) WorkloadFault
then_rest (Err fault) rest = Err fault
then_rest (Ok access) (Err fault) = Err fault
then_rest (Ok access) (Ok accesses) = Ok (access ∷ accesses)

-- from the line of this number on, in the parts that the line feeds leave
abbrev pub accesses_on : ℕ → ℕ → ℕ → List (List ℕ) → Result (List WorkloadAccess) WorkloadFault
accesses_on sites size number [] = Ok []
accesses_on sites size number (rest ∷ []) = if length rest == 0 then Ok [] else Err (open_line number rest)
accesses_on sites size number (bytes ∷ next ∷ others) =
    then_rest (read_line (access_of sites size) number bytes) (accesses_on sites size (number + 1) (next ∷ others))

-- these accesses, and then the rest
abbrev pub prefixed : List WorkloadAccess → Result (List WorkloadAccess) WorkloadFault → Result (List WorkloadAccess) WorkloadFault
prefixed before (Err fault) = Err fault
prefixed before (Ok accesses) = Ok (before ++ accesses)

abbrev pub parts_of : List ℕ → List (List ℕ)
parts_of bytes = slice_split (λ byte. byte == 10) bytes

-- how many pages there are, and what is done, in the order of the lines
pub record Whole : Type 0 where
  pub size : ℕ
  pub accesses : List WorkloadAccess

abbrev pub with_size : ℕ → Result (List WorkloadAccess) WorkloadFault → Result Whole WorkloadFault
with_size size (Err fault) = Err fault
with_size size (Ok accesses) = Ok (record { size = size; accesses = accesses })

-- what follows a first line that was read so
abbrev pub after_first : ℕ → Result ℕ WorkloadFault → List (List ℕ) → Result Whole WorkloadFault
after_first sites (Err fault) others = Err fault
after_first sites (Ok size) others = with_size size (accesses_on sites size 2 others)

abbrev pub read_all : ℕ → List (List ℕ) → Result Whole WorkloadFault
read_all sites [] = Err (BadLine 1)
read_all sites (rest ∷ []) = Err (open_line 1 rest)
read_all sites (first ∷ next ∷ others) = after_first sites (read_line preset_of 1 first) (next ∷ others)

abbrev pub workload_of : ℕ → List ℕ → Result Whole WorkloadFault
workload_of sites bytes = read_all sites (parts_of bytes)
