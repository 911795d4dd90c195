-- Numbers one after another: what is read is spelled so, what is spelled so is read, and how a loop takes them.
use Rattle.std.proofs.Common.{◌≡◌, ℕ, zero, suc, ◌+◌, ◌-◌, ◌<◌, ◌≤◌, List, [], ◌∷◌, ◌++◌, All, length, map, take, set, Option, None, Some, refl, sym, ap, subst, ◌∙◌, append_assoc, append-nil, length-set, take_all, arith}
use Rattle.std.specs.Prelude.{option_map}
use Rattle.std.specs.Fmt.{decimal}
use Rattle.std.proofs.lemmas.List.{take_more_set}
use Rattle.std.proofs.lemmas.List.Elements.{All-nil, All-cons, All-head, All-tail}
use Rattle.shm_lines.proofs.NumberWords.{wide}
use Rattle.shm_lines.proofs.ReadLemmas.{onto}
use Rattle.shm_lines.proofs.StepLemmas.{NoBlanks, some-is, step}
use Rattle.shm_lines.specs.Words.{◌>>=◌, IsWide, next_of, wide_of}
use Rattle.shm_wire.proofs.Reading.{prints, took}
use Rattle.shm_state.specs.BookWords.{IsServed, next_numbers, next_served}

abbrev Next : Type 0
Next = List ℕ × List (List ℕ)

-- so many numbers, as they were read
pub record TookNumbers (n : ℕ) (words : List (List ℕ)) (numbers : List ℕ) (others : List (List ℕ)) : Type 0 where
  pub many : length numbers ≡ n
  pub each : All IsWide numbers
  pub are : words ≡ map decimal numbers ++ others

pub numbers-are : (n : ℕ) (words : List (List ℕ)) (numbers : List ℕ) (others : List (List ℕ)) → next_numbers n words ≡ Some (numbers, others) → TookNumbers n words numbers others
unfolding next_numbers
numbers-are zero words numbers others h =
    let none : Next = ([], words) in
    subst (λ (q : Next). TookNumbers zero words q.0 q.1) (some-is none (numbers, others) h) (record { many = refl; each = All-nil IsWide; are = refl })
numbers-are (suc n) words numbers others h =
    let a = took wide words _ (numbers, others) h in
    let s = step (next_numbers n a.others) _ (numbers, others) a.gives in
    let more = numbers-are n a.others s.value.0 s.value.1 s.gave in
    let made : Next = (a.value ∷ s.value.0, s.value.1) in
    subst (λ (q : Next). TookNumbers (suc n) words q.0 q.1) (some-is made (numbers, others) s.gives)
    (record { many = ap (λ k. suc k) more.many; each = All-cons IsWide a.value s.value.0 a.is more.each; are = onto a.are more.are })

-- ---- what is spelled

numbers-read : (numbers : List ℕ) → All IsWide numbers → next_numbers (length numbers) (map decimal numbers) ≡ Some (numbers, [])
unfolding next_numbers
numbers-read [] h = refl
numbers-read (x ∷ xs) h = rw (prints wide x (map decimal xs) (All-head IsWide x xs h), numbers-read xs (All-tail IsWide x xs h)) refl

pub served-read : (served : List ℕ) → IsServed served → next_served (map decimal served) ≡ Some (served, [])
served-read served h = subst (λ n. next_numbers n (map decimal served) ≡ Some (served, [])) h.0 (numbers-read served h.1)

pub numbers-unparted : (numbers : List ℕ) → All IsWide numbers → NoBlanks (map decimal numbers)
numbers-unparted [] h = tt
numbers-unparted (x ∷ xs) h = (wide.unparted x (All-head IsWide x xs h), numbers-unparted xs (All-tail IsWide x xs h))

-- ---- numbers that are read one after another

-- these numbers, before those that are read
abbrev pub behind : List ℕ → Option (List ℕ × List (List ℕ)) → Option (List ℕ × List (List ℕ))
behind numbers next = option_map (λ (q : List ℕ × List (List ℕ)). (numbers ++ q.0, q.1)) next

then : (number : ℕ) (o : Option (List ℕ × List (List ℕ))) → (o >>= λ q. Some (number ∷ q.0, q.1)) ≡ behind (number ∷ []) o
then number None = refl
then number (Some q) = refl

one_more : (n : ℕ) (words others : List (List ℕ)) (number : ℕ) → next_of wide_of words ≡ Some (number, others)
    → next_numbers (suc n) words ≡ behind (number ∷ []) (next_numbers n others)
unfolding next_numbers
one_more n words others number h = rw h (then number (next_numbers n others))

behind-behind : (xs ys : List ℕ) (o : Option (List ℕ × List (List ℕ))) → behind xs (behind ys o) ≡ behind (xs ++ ys) o
behind-behind xs ys None = refl
behind-behind xs ys (Some q) = ap (λ (l : List ℕ). Some (l, q.1)) (sym (append_assoc xs ys q.0))

-- a number more was taken
pub numbers_on : (first words others : List (List ℕ)) (numbers : List ℕ) (site number : ℕ) → site < 16 → length numbers ≡ 16
    → next_numbers 16 first ≡ behind (take site numbers) (next_numbers (16 - site) words) → next_of wide_of words ≡ Some (number, others)
    → (length (set numbers site number) ≡ 16)
    × (next_numbers 16 first ≡ behind (take (site + 1) (set numbers site number)) (next_numbers (16 - (site + 1)) others))
numbers_on first words others numbers site number lt many so_far h =
    let left : 16 - site ≡ suc (16 - (site + 1)) = omega arith in
    let within : site < length numbers = omega arith in (
      length-set numbers site number ∙ many,
      so_far
          ∙ ap (λ n. behind (take site numbers) (next_numbers n words)) left
          ∙ ap (behind (take site numbers)) (one_more (16 - (site + 1)) words others number h)
          ∙ behind-behind (take site numbers) (number ∷ []) (next_numbers (16 - (site + 1)) others)
          ∙ ap (λ (l : List ℕ). behind l (next_numbers (16 - (site + 1)) others)) (sym (take_more_set numbers site number within)),
    )

none_more : (n : ℕ) (words : List (List ℕ)) → next_of wide_of words ≡ None → next_numbers (suc n) words ≡ None
unfolding next_numbers
none_more n words h = rw h refl

-- the next word is no number
pub numbers_stop : (first words : List (List ℕ)) (numbers : List ℕ) (site : ℕ) (result : Option (List ℕ × List (List ℕ))) → site < 16
    → next_numbers 16 first ≡ behind (take site numbers) (next_numbers (16 - site) words) → next_of wide_of words ≡ None → result ≡ None → result ≡ next_served first
numbers_stop first words numbers site result lt so_far h is =
    let left : 16 - site ≡ suc (16 - (site + 1)) = omega arith in
    is ∙ sym (so_far ∙ ap (λ n. behind (take site numbers) (next_numbers n words)) left ∙ ap (behind (take site numbers)) (none_more (16 - (site + 1)) words h))

none_left : (words : List (List ℕ)) → next_numbers 0 words ≡ Some ([], words)
unfolding next_numbers
none_left words = refl

-- all were taken
pub numbers_end : (first words : List (List ℕ)) (numbers : List ℕ) (site : ℕ) → site ≡ 16 → length numbers ≡ 16
    → next_numbers 16 first ≡ behind (take site numbers) (next_numbers (16 - site) words) → Some (numbers, words) ≡ next_served first
numbers_end first words numbers site all many so_far =
    let few : length numbers ≤ 16 = omega arith in
    let whole : take 16 numbers ≡ numbers = take_all 16 numbers few in
    sym (
    so_far
    ∙ ap (λ n. behind (take n numbers) (next_numbers (16 - n) words)) all
    ∙ ap (behind (take 16 numbers)) (none_left words)
    ∙ ap (λ (l : List ℕ). Some (l, words)) (append-nil (take 16 numbers) ∙ whole)
    )
