-- The parts that line feeds leave, and what is read from them.
use Rattle.std.proofs.Common.{◌≡◌, ℕ, ◌+◌, ◌<◌, ◌==◌, Bool, true, false, List, [], ◌∷◌, ◌++◌, length, All, Ok, Err, ◌⊎◌, inl, inr, refl, ap, ◌∙◌, arith}
use Rattle.std.specs.List.{onto_first}
use Rattle.std.proofs.lemmas.List.Splits.{slice_split-cons_yes, slice_split-cons_no, slice_split_none, slice_split_at}
use Rattle.std.proofs.lemmas.List.Elements.{All-head, All-tail}
use Rattle.std.proofs.lemmas.Bool.Decides.{nat_tests}
use Rattle.shm_debug.specs.Script.{parts_of, read_on, read_line, broken, after, begun, unended}
use Rattle.shm_lines.specs.declared.script_line.Line.{Line}
use Rattle.shm_debug.specs.declared.script_summary_and_error.DebugFault.{DebugFault}

abbrev pub NoFeed : List ℕ → Type 0
NoFeed bytes = All (λ byte. (byte == 10) ≡ false) bytes

true_or_false : (b : Bool) → (b ≡ true) ⊎ (b ≡ false)
true_or_false true = inl refl
true_or_false false = inr refl

-- a first part, and others
pub record Parts (bytes : List ℕ) : Type 0 where
  pub first : List ℕ
  pub others : List (List ℕ)
  pub are : parts_of bytes ≡ first ∷ others

pub parts : (bytes : List ℕ) → Parts bytes
parts [] = record { first = []; others = []; are = refl }
parts (x ∷ xs) = go (true_or_false (x == 10)) (parts xs)
  where
    go : ((x == 10) ≡ true) ⊎ ((x == 10) ≡ false) → Parts xs → Parts (x ∷ xs)
    go (inl e) p = record { first = []; others = parts_of xs; are = slice_split-cons_yes (λ byte. byte == 10) x xs e }
    go (inr e) p = record { first = x ∷ p.first; others = p.others; are = slice_split-cons_no (λ byte. byte == 10) x xs e ∙ ap (onto_first x) p.are }

-- bytes without a line feed go to the front of the first part
pub parts-after : (xs ys : List ℕ) (p : Parts ys) → NoFeed xs → parts_of (xs ++ ys) ≡ (xs ++ p.first) ∷ p.others
parts-after [] ys p h = p.are
parts-after (x ∷ xs) ys p h =
    slice_split-cons_no (λ byte. byte == 10) x (xs ++ ys) (All-head (λ byte. (byte == 10) ≡ false) x xs h)
    ∙ ap (onto_first x) (parts-after xs ys p (All-tail (λ byte. (byte == 10) ≡ false) x xs h))

pub parts-feed : (xs ys : List ℕ) → NoFeed xs → parts_of (xs ++ 10 ∷ ys) ≡ xs ∷ parts_of ys
parts-feed xs ys h = slice_split_at (λ byte. byte == 10) xs 10 ys h refl

pub parts-alone : (xs : List ℕ) → NoFeed xs → parts_of xs ≡ xs ∷ []
parts-alone xs h = slice_split_none (λ byte. byte == 10) xs h

nonempty : (x : ℕ) (xs : List ℕ) → (length (x ∷ xs) == 0) ≡ false
nonempty x xs = grind (arith, nat_tests)

-- a line that can't be read breaks the script, unless nothing stands there at all
pub read_on-fault : (number : ℕ) (first : List ℕ) (others : List (List ℕ)) (fault : DebugFault)
    → read_line number first ≡ Err fault → 0 < length first + length others → read_on number (first ∷ others) ≡ broken fault
read_on-fault number [] [] fault e h = absurd (omega arith)
read_on-fault number (x ∷ xs) [] fault e h = rw (nonempty x xs) (ap (unended number) e)
read_on-fault number first (next ∷ others) fault e h = ap (λ r. begun r (read_on (number + 1) (next ∷ others))) e

pub read_on-line : (number : ℕ) (first next : List ℕ) (others : List (List ℕ)) (line : Line)
    → read_line number first ≡ Ok line → read_on number (first ∷ next ∷ others) ≡ after (line ∷ []) (read_on (number + 1) (next ∷ others))
read_on-line number first next others line e = ap (λ r. begun r (read_on (number + 1) (next ∷ others))) e
