-- Each access of a workload that was read is of one of its sites.
use Rattle.std.proofs.Common.{◌≡◌, ◌∙◌, ◌<◌, ◌&&◌, ℕ, zero, suc, ◌+◌, ◌*◌, ◌==◌, Bool, true, false, List, [], ◌∷◌, Option, None, Some, Result, Ok, Err, cond, length, nat_lt, ap, refl, subst, sym, slice_get}
use Rattle.std.specs.Prelude.{codes}
use Rattle.std.specs.Str.{bytes_eq}
use Rattle.std.proofs.lemmas.Option.{none-some}
use Rattle.shm_place.specs.Limits.{page_bytes}
use Rattle.shm_lines.proofs.StepLemmas.{and-parts, cond-some, lt-true, some-is, step}
use Rattle.shm_lines.specs.Words.{byte_of, is_end, next_number, next_of, next_word, words_of}
use Rattle.shm_lines.specs.Workload.{Whole, access_of, accesses_on, after_first, broken_limit, is_inside, load_of, or_bad, parts_of, preset_of, read_all, read_line, store_of, then_rest, unless_broken, with_size, workload_of}
use Rattle.shm_lines.specs.declared.workload_access.WorkloadAccess.{WorkloadAccess}
use Rattle.shm_lines.specs.declared.workload_error.WorkloadFault.{WorkloadFault}
use Rattle.shm_model.specs.declared.asked_access.Asked.TheVariants.{Load, Store}
use Rattle.shm_report.specs.Callers.{AreOf}

-- ---- a line

inside : (end : Bool) (sites size site offset : ℕ) (read access : WorkloadAccess) → read.site ≡ site
    → cond (end && is_inside sites size site offset) (Some read) None ≡ Some access → access.site < sites
inside end sites size site offset read access own is =
    let made = cond-some (end && is_inside sites size site offset) read access is in
    let within = and-parts end (is_inside sites size site offset) made.0 in
    let below : site < sites = lt-true site sites (and-parts (nat_lt site sites) (nat_lt offset (size * page_bytes)) within.1).0 in
    subst (λ n. n < sites) (sym own ∙ ap (λ (a : WorkloadAccess). a.site) made.1) below

load_inside : (sites size : ℕ) (words : List (List ℕ)) (access : WorkloadAccess) → load_of sites size words ≡ Some access → access.site < sites
load_inside sites size words access is =
    let site = step (next_number words) _ access is in
    let offset = step (next_number site.value.1) _ access site.gives in
    inside (is_end offset.value.1) sites size site.value.0 offset.value.0 (record { site = site.value.0; asked = Load 0 offset.value.0 }) access refl offset.gives

store_inside : (sites size : ℕ) (words : List (List ℕ)) (access : WorkloadAccess) → store_of sites size words ≡ Some access → access.site < sites
store_inside sites size words access is =
    let site = step (next_number words) _ access is in
    let offset = step (next_number site.value.1) _ access site.gives in
    let byte = step (next_of byte_of offset.value.1) _ access offset.gives in
    inside (is_end byte.value.1) sites size site.value.0 offset.value.0 (record { site = site.value.0; asked = Store 0 offset.value.0 byte.value.0 }) access refl byte.gives

by_verb : (load store : Bool) (sites size : ℕ) (words : List (List ℕ)) (access : WorkloadAccess)
    → cond load (load_of sites size words) (cond store (store_of sites size words) None) ≡ Some access → access.site < sites
by_verb true store sites size words access is = load_inside sites size words access is
by_verb false true sites size words access is = store_inside sites size words access is
by_verb false false sites size words access is = absurd (none-some access is)

access_inside : (sites size : ℕ) (line : List ℕ) (access : WorkloadAccess) → access_of sites size line ≡ Some access → access.site < sites
access_inside sites size line access is =
    let verb = step (next_word (words_of line)) _ access is in
    by_verb (bytes_eq verb.value.0 (codes "load")) (bytes_eq verb.value.0 (codes "store")) sites size verb.value.1 access verb.gives

-- ---- all lines

or_bad_is : {A : Type 0} (number : ℕ) (said : Option A) (x : A) → or_bad number said ≡ Ok x → said ≡ Some x
or_bad_is number None x is = absurd (cc)
or_bad_is number (Some y) x is = cc

unbroken : {A : Type 0} (limit : Option WorkloadFault) (number : ℕ) (said : Option A) (x : A) → unless_broken limit (or_bad number said) ≡ Ok x → said ≡ Some x
unbroken (Some fault) number said x is = absurd (cc)
unbroken None number said x is = or_bad_is number said x is

-- the first access, and the others
record AreRead (line : Result WorkloadAccess WorkloadFault) (rest : Result (List WorkloadAccess) WorkloadFault) (all : List WorkloadAccess) : Type 0 where
  pub access : WorkloadAccess
  pub others : List WorkloadAccess
  pub first : line ≡ Ok access
  pub last : rest ≡ Ok others
  pub are : all ≡ access ∷ others

are_read : (line : Result WorkloadAccess WorkloadFault) (rest : Result (List WorkloadAccess) WorkloadFault) (all : List WorkloadAccess) → then_rest line rest ≡ Ok all
    → AreRead line rest all
are_read (Err fault) rest all is = absurd (cc)
are_read (Ok access) (Err fault) all is = absurd (cc)
are_read (Ok access) (Ok others) all is = record { access = access; others = others; first = refl; last = refl; are = cc }

none_of : (sites place : ℕ) (access : WorkloadAccess) → slice_get [] place ≡ Some access → access.site < sites
none_of sites place access at = absurd (none-some access at)

one_of : (sites : ℕ) (first : WorkloadAccess) (others : List WorkloadAccess) → first.site < sites → AreOf sites others
    → (place : ℕ) (access : WorkloadAccess) → slice_get (first ∷ others) place ≡ Some access → access.site < sites
one_of sites first others own rest zero access at = subst (λ (a : WorkloadAccess). a.site < sites) (some-is first access at) own
one_of sites first others own rest (suc place) access at = rest place access at

nothing : (empty : Bool) (fault : WorkloadFault) (all : List WorkloadAccess) → cond empty (Ok []) (Err fault) ≡ Ok all → all ≡ []
nothing true fault all is = cc
nothing false fault all is = absurd (cc)

on_inside : (sites size number : ℕ) (parts : List (List ℕ)) (all : List WorkloadAccess) → accesses_on sites size number parts ≡ Ok all → AreOf sites all
on_inside sites size number [] all is = let none : all ≡ [] = cc in subst (AreOf sites) (sym none) (none_of sites)
on_inside sites size number (rest ∷ []) all is = subst (AreOf sites) (sym (nothing (length rest == 0) _ all is)) (none_of sites)
on_inside sites size number (bytes ∷ next ∷ others) all is =
    let read = are_read (read_line (access_of sites size) number bytes) (accesses_on sites size (number + 1) (next ∷ others)) all is in
    let own = access_inside sites size bytes read.access (unbroken (broken_limit number bytes) number (access_of sites size bytes) read.access read.first) in
    subst (AreOf sites) (sym read.are) (one_of sites read.access read.others own (on_inside sites size (number + 1) (next ∷ others) read.others read.last))

ok_is : {A : Type 0} (said : Result A WorkloadFault) (x y : A) → said ≡ Ok x → said ≡ Ok y → x ≡ y
ok_is said x y one other = cc

abbrev accesses_in : Whole → Result (List WorkloadAccess) WorkloadFault
accesses_in whole = Ok whole.accesses

sized : (size : ℕ) (rest : Result (List WorkloadAccess) WorkloadFault) (whole : Whole) → with_size size rest ≡ Ok whole → rest ≡ Ok whole.accesses
sized size (Err fault) whole is = absurd (cc)
sized size (Ok all) whole is =
    ap accesses_in (ok_is (with_size size (Ok all)) (record { size = size; accesses = all }) whole refl is)

after : (sites : ℕ) (first : Result ℕ WorkloadFault) (others : List (List ℕ)) (whole : Whole) → after_first sites first others ≡ Ok whole → AreOf sites whole.accesses
after sites (Err fault) others whole is = absurd (cc)
after sites (Ok size) others whole is = on_inside sites size 2 others whole.accesses (sized size (accesses_on sites size 2 others) whole is)

parts_inside : (sites : ℕ) (parts : List (List ℕ)) (whole : Whole) → read_all sites parts ≡ Ok whole → AreOf sites whole.accesses
parts_inside sites [] whole is = absurd (cc)
parts_inside sites (rest ∷ []) whole is = absurd (cc)
parts_inside sites (first ∷ next ∷ others) whole is = after sites (read_line preset_of 1 first) (next ∷ others) whole is

pub all_inside : (sites : ℕ) (bytes : List ℕ) (whole : Whole) → workload_of sites bytes ≡ Ok whole → AreOf sites whole.accesses
all_inside sites bytes whole is = parts_inside sites (parts_of bytes) whole is
