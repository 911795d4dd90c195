-- A list of what stands at each number, read as a function of the number.
use Rattle.std.proofs.Common.{◌≡◌, ◌∙◌, ℕ, zero, suc, ◌+◌, ◌<◌, Bool, false, List, [], ◌∷◌, Option, None, is_none, length, get_or, replicate, ap, refl, arith}
use Rattle.std.proofs.lemmas.Bool.Decides.{nat_tests}
use Rattle.std.proofs.Math.Path.{fun_ext}
use Rattle.std.proofs.lemmas.List.{get_or_default}
use Rattle.std.specs.List.{find, list_any, position_from, range_with_len}
use Rattle.shm_model.specs.Calls.{Attachment}
use Rattle.shm_model.specs.Site.{Site, is_attached, is_attachment_of, least_free}
use Rattle.shm_attach.specs.Attachments.{attachments_of, with_attachments}

-- reads of the numbers from a on give the list
pub record Reads {X : Type 0} (f : ℕ → X) (a : ℕ) (xs : List X) : Type 0 where
  pub each : (i : ℕ) (d : X) → i < length xs → f (a + i) ≡ get_or xs i d

pub first_read : {X : Type 0} (f : ℕ → X) (a : ℕ) (x : X) (xs : List X) → Reads f a (x ∷ xs) → f a ≡ x
first_read f a x xs reads =
    let start : ◌≡◌ {A = ℕ} a (a + 0) = omega arith in
    ap f start ∙ reads.each 0 x (omega arith)

pub rest_reads : {X : Type 0} (f : ℕ → X) (a : ℕ) (x : X) (xs : List X) → Reads f a (x ∷ xs) → Reads f (a + 1) xs
rest_reads f a x xs reads = record {
  each = λ i d lt.
      let place : ◌≡◌ {A = ℕ} (a + 1 + i) (a + suc i) = omega arith in
      ap f place ∙ reads.each (suc i) d (omega (arith, lt));
}

pub find_number : {X : Type 0} (p : X → Bool) (f : ℕ → X) (a : ℕ) (xs : List X) → Reads f a xs → position_from p a xs ≡ find (λ n. p (f n)) (range_with_len a (length xs))
find_number p f a [] reads = refl
find_number p f a (x ∷ xs) reads =
    rw (first_read f a x xs reads, find_number p f (a + 1) xs (rest_reads f a x xs reads)) refl

pub any_number : {X : Type 0} (p : X → Bool) (f : ℕ → X) (a : ℕ) (xs : List X) → Reads f a xs → list_any p xs ≡ list_any (λ n. p (f n)) (range_with_len a (length xs))
any_number p f a [] reads = refl
any_number p f a (x ∷ xs) reads =
    rw (first_read f a x xs reads, any_number p f (a + 1) xs (rest_reads f a x xs reads)) refl

pub reads_itself : {X : Type 0} (xs : List X) (e : X) → Reads (λ n. get_or xs n e) 0 xs
reads_itself xs e = record {
  each = λ i d lt.
      let place : ◌≡◌ {A = ℕ} (0 + i) i = omega arith in
      ap (λ n. get_or xs n e) place ∙ get_or_default xs i e d lt;
}

pub least_of : (slots : List (Option Attachment)) → length slots ≡ 64 → position_from is_none 0 slots ≡ least_free (attachments_of slots)
unfolding least_free
least_of slots long =
    find_number is_none (attachments_of slots) 0 slots (reads_itself slots None)
    ∙ ap (λ n. find (λ a. is_none (attachments_of slots a)) (range_with_len 0 n)) long

pub named_by_some : (slots : List (Option Attachment)) (id : ℕ) (site : Site) → length slots ≡ 64 → list_any (is_attachment_of id) slots ≡ is_attached (with_attachments (attachments_of slots) site) id
unfolding is_attached
named_by_some slots id site long =
    any_number (is_attachment_of id) (attachments_of slots) 0 slots (reads_itself slots None)
    ∙ ap (λ n. list_any (λ a. is_attachment_of id (attachments_of slots a)) (range_with_len 0 n)) long

pub read_of_all_one : {X : Type 0} (n : ℕ) (v : X) (j : ℕ) → get_or (replicate n v) j v ≡ v
read_of_all_one zero v j = refl
read_of_all_one (suc n) v zero = refl
read_of_all_one (suc n) v (suc j) = read_of_all_one n v j

pub all_one : {X : Type 0} (n : ℕ) (v : X) → ◌≡◌ {A = ℕ → X} (λ j. get_or (replicate n v) j v) (λ _. v)
all_one n v = fun_ext (read_of_all_one n v)

-- where no attachment in the list names the segment, none at any number does
pub none_named : (slots : List (Option Attachment)) (id number : ℕ) → list_any (is_attachment_of id) slots ≡ false → is_attachment_of id (attachments_of slots number) ≡ false
none_named [] id number h = refl
none_named (slot ∷ slots) id zero h = grind (arith, nat_tests)
none_named (slot ∷ slots) id (suc number) h =
    let rest : list_any (is_attachment_of id) slots ≡ false = grind (arith, nat_tests) in
    none_named slots id number rest
