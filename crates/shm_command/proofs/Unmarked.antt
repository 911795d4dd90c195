-- The first lines of a file, as they are taken: whether it is one of an earlier version.
use Rattle.std.proofs.Common.{◌≡◌, ◌≢◌, ◌<◌, ◌≤◌, ℕ, ◌+◌, ◌==◌, ◌&&◌, Bool, true, false, not, List, [], ◌∷◌, ◌++◌, codes, Option, Some, None, IfSome, cond, is_some, length, refl, sym, ap, subst, ◌∙◌, append-nil, append_assoc, arith, nat_lt}
use Rattle.std.specs.Io.KnownBytes.{Consumes, IsAtEnd}
use Rattle.std.specs.List.{starts_with}
use Rattle.std.proofs.lemmas.Bool.Decides.{nat_tests}
use Rattle.std.proofs.lemmas.List.{length-append}
use Rattle.std.proofs.lemmas.List.Elements.{All-head, All-tail}
use Rattle.shm_journal.specs.Found.{Lines, is_long, lines_behind, lines_of, max_journal_line, with_line}
use Rattle.shm_journal.specs.Lines.{read_header}
use Rattle.shm_journal.specs.LinesOf.{Unended}
use Rattle.shm_journal.specs.Taking.{Overruns, Takes}
use Rattle.shm_journal.specs.declared.line_read_outcome.Taken.{Taken}
use Rattle.shm_journal.specs.declared.line_read_outcome.Taken.TheVariants as taken
use Rattle.shm_command.specs.First.{begins_unmarked}

-- ---- lines

abbrev IsNoFeed : ℕ → Type 0
IsNoFeed byte = (byte == 10) ≡ false

-- bytes without a line feed go into the line
grows : (seen front rest : List ℕ) → Unended front → lines_behind seen (front ++ rest) ≡ lines_behind (seen ++ front) rest
unfolding lines_behind
grows seen [] rest h = ap (λ l. lines_behind l rest) (sym (append-nil seen))
grows seen (byte ∷ front) rest h =
    ap (λ b. cond b (with_line seen (lines_behind [] (front ++ rest))) (lines_behind (seen ++ byte ∷ []) (front ++ rest))) (All-head IsNoFeed byte front h)
    ∙ grows (seen ++ byte ∷ []) front rest (All-tail IsNoFeed byte front h)
    ∙ ap (λ l. lines_behind l rest) (append_assoc seen (byte ∷ []) front)

whole_first : (line rest : List ℕ) → Unended line → (lines_of ((line ++ 10 ∷ []) ++ rest)).whole ≡ line ∷ (lines_of rest).whole
unfolding lines_behind
whole_first line rest h = ap (λ bytes. (lines_of bytes).whole) (append_assoc line (10 ∷ []) rest) ∙ ap (λ (l : Lines). l.whole) (grows [] line (10 ∷ rest) h)

none_whole : (line : List ℕ) → Unended line → (lines_of (line ++ [])).whole ≡ []
unfolding lines_behind
none_whole line h = ap (λ (l : Lines). l.whole) (grows [] line [] h)

-- ---- what isn't said of a line that is too long

longer : (line : List ℕ) (byte : ℕ) → max_journal_line < length line → max_journal_line < length (line ++ byte ∷ [])
longer line byte long = omega (arith, length-append line (byte ∷ []), long)

either : (says : List (List ℕ) → Bool) (b : Bool) (x y : Lines) → says x.whole ≡ false → says y.whole ≡ false → says (cond b x y).whole ≡ false
either says true x y p q = p
either says false x y p q = q

long_behind : (says : List (List ℕ) → Bool) → says [] ≡ false → ((line : List ℕ) (lines : List (List ℕ)) → max_journal_line < length line → says (line ∷ lines) ≡ false)
    → (seen rest : List ℕ) → max_journal_line < length seen → says (lines_behind seen rest).whole ≡ false
unfolding lines_behind
long_behind says none one seen [] long = none
long_behind says none one seen (byte ∷ rest) long =
    either says (byte == 10) (with_line seen (lines_behind [] rest)) (lines_behind (seen ++ byte ∷ []) rest) (one seen (lines_behind [] rest).whole long)
    (long_behind says none one (seen ++ byte ∷ []) rest (longer seen byte long))

long_test : (n : ℕ) → 8218 < n → nat_lt 8218 n ≡ true
long_test n h = grind (arith, nat_tests)

short_test : (n : ℕ) → n ≤ 8218 → nat_lt 8218 n ≡ false
short_test n h = grind (arith, nat_tests)

first_long : (line : List ℕ) (lines : List (List ℕ)) → max_journal_line < length line → begins_unmarked (line ∷ lines) ≡ false
first_long line [] h = refl
first_long line (entry ∷ lines) h =
    ap (λ b. not b && is_some (read_header line) && not (is_long entry) && starts_with (λ a b. a == b) entry (codes "step ")) (long_test (length line) h)

third : (a b d : Bool) → (a && b && false && d) ≡ false
third true true d = refl
third true false d = refl
third false b d = refl

second_long : (line entry : List ℕ) (lines : List (List ℕ)) → max_journal_line < length entry → begins_unmarked (line ∷ entry ∷ lines) ≡ false
second_long line entry lines h =
    ap (λ b. not (is_long line) && is_some (read_header line) && not b && starts_with (λ a b. a == b) entry (codes "step ")) (long_test (length entry) h)
    ∙ third (not (is_long line)) (is_some (read_header line)) (starts_with (λ a b. a == b) entry (codes "step "))

long_line : (says : List (List ℕ) → Bool) → says [] ≡ false → ((line : List ℕ) (lines : List (List ℕ)) → max_journal_line < length line → says (line ∷ lines) ≡ false)
    → (front rest : List ℕ) → Unended front → length front ≡ max_journal_line + 1 → says (lines_of (front ++ rest)).whole ≡ false
unfolding lines_behind
long_line says none one front rest h long =
    ap (λ (l : Lines). says l.whole) (grows [] front rest h) ∙ long_behind says none one front rest (omega (arith, long))

-- ---- the first line

second : (a c d : Bool) → (a && false && c && d) ≡ false
second true c d = refl
second false c d = refl

no_header : (line : List ℕ) (lines : List (List ℕ)) → read_header line ≡ None → begins_unmarked (line ∷ lines) ≡ false
no_header line [] h = refl
no_header line (entry ∷ lines) h =
    ap (λ o. not (is_long line) && is_some o && not (is_long entry) && starts_with (λ a b. a == b) entry (codes "step ")) h
    ∙ second (not (is_long line)) (not (is_long entry)) (starts_with (λ a b. a == b) entry (codes "step "))

torn_first_at : (old new : Option (List ℕ)) (line : List ℕ) → Consumes old new line → IsAtEnd new → Unended line
    → IfSome old (λ file. false ≡ begins_unmarked (lines_of file).whole)
torn_first_at None new line taken end h = tt
torn_first_at (Some file) None line taken end h = absurd taken
torn_first_at (Some file) (Some rest) line taken end h =
    sym (ap (λ bytes. begins_unmarked (lines_of bytes).whole) (taken ∙ ap (λ r. line ++ r) end) ∙ ap begins_unmarked (none_whole line h))

long_first_at : (old new : Option (List ℕ)) → Overruns old new → IfSome old (λ file. false ≡ begins_unmarked (lines_of file).whole)
long_first_at None new over = tt
long_first_at (Some file) None over = absurd over.taken
long_first_at (Some file) (Some rest) over =
    sym (ap (λ bytes. begins_unmarked (lines_of bytes).whole) over.taken ∙ long_line begins_unmarked refl first_long over.front rest over.unended over.long)

other_first_at : (old new : Option (List ℕ)) (line : List ℕ) → Consumes old new (line ++ 10 ∷ []) → Unended line → read_header line ≡ None
    → IfSome old (λ file. false ≡ begins_unmarked (lines_of file).whole)
other_first_at None new line taken h none = tt
other_first_at (Some file) None line taken h none = absurd taken
other_first_at (Some file) (Some rest) line taken h none =
    sym (ap (λ bytes. begins_unmarked (lines_of bytes).whole) taken ∙ ap begins_unmarked (whole_first line rest h) ∙ no_header line (lines_of rest).whole none)

-- ---- the second, behind a header

behind_header : (line : List ℕ) (says : Bool) (rest : List ℕ) → Unended line → says ≡ begins_unmarked (line ∷ (lines_of rest).whole)
    → says ≡ begins_unmarked (lines_of ((line ++ 10 ∷ []) ++ rest)).whole
behind_header line says rest h e = e ∙ sym (ap begins_unmarked (whole_first line rest h))

both : (says : Bool) (old new : Option (List ℕ)) (line : List ℕ) → Consumes old new (line ++ 10 ∷ []) → Unended line
    → IfSome new (λ rest. says ≡ begins_unmarked (line ∷ (lines_of rest).whole)) → IfSome old (λ file. says ≡ begins_unmarked (lines_of file).whole)
both says None new line taken h e = tt
both says (Some file) None line taken h e = absurd taken
both says (Some file) (Some rest) line taken h e =
    subst (λ (bytes : List ℕ). says ≡ begins_unmarked (lines_of bytes).whole) (sym taken) (behind_header line says rest h e)

torn_second_at : (header line : List ℕ) (old new : Option (List ℕ)) → Consumes old new line → IsAtEnd new → Unended line
    → IfSome old (λ rest. false ≡ begins_unmarked (header ∷ (lines_of rest).whole))
torn_second_at header line None new taken end h = tt
torn_second_at header line (Some file) None taken end h = absurd taken
torn_second_at header line (Some file) (Some rest) taken end h =
    sym (ap (λ bytes. begins_unmarked (header ∷ (lines_of bytes).whole)) (taken ∙ ap (λ r. line ++ r) end) ∙ ap (λ lines. begins_unmarked (header ∷ lines)) (none_whole line h))

long_second_at : (header : List ℕ) (old new : Option (List ℕ)) → Overruns old new → IfSome old (λ rest. false ≡ begins_unmarked (header ∷ (lines_of rest).whole))
long_second_at header None new over = tt
long_second_at header (Some file) None over = absurd over.taken
long_second_at header (Some file) (Some rest) over =
    sym (ap (λ bytes. begins_unmarked (header ∷ (lines_of bytes).whole)) over.taken
    ∙ long_line (λ lines. begins_unmarked (header ∷ lines)) refl (λ line lines h. second_long header line lines h) over.front rest over.unended over.long)

all_true : (a b c d : Bool) → a ≡ false → b ≡ true → c ≡ false → (not a && b && not c && d) ≡ d
all_true false true false d p q r = refl
all_true true b c d p q r = absurd cc
all_true false false c d p q r = absurd cc
all_true false true true d p q r = absurd cc

whole_second_at : (header line : List ℕ) (old new : Option (List ℕ)) → Consumes old new (line ++ 10 ∷ []) → Unended line → length header ≤ max_journal_line
    → length line ≤ max_journal_line → is_some (read_header header) ≡ true
    → IfSome old (λ rest. starts_with (λ a b. a == b) line (codes "step ") ≡ begins_unmarked (header ∷ (lines_of rest).whole))
whole_second_at header line None new taken h short short' some = tt
whole_second_at header line (Some file) None taken h short short' some = absurd taken
whole_second_at header line (Some file) (Some rest) taken h short short' some =
    sym (ap (λ bytes. begins_unmarked (header ∷ (lines_of bytes).whole)) taken ∙ ap (λ lines. begins_unmarked (header ∷ lines)) (whole_first line rest h)
    ∙ all_true (is_long header) (is_some (read_header header)) (is_long line) (starts_with (λ a b. a == b) line (codes "step ")) (short_test (length header) short) some (short_test (length line) short'))

-- ---- what is taken of a reader

abbrev pub IsSaid : Bool → Option (List ℕ) → Type 0
IsSaid says left = IfSome left (λ file. says ≡ begins_unmarked (lines_of file).whole)

abbrev pub IsSaidBehind : List ℕ → Bool → Option (List ℕ) → Type 0
IsSaidBehind header says left = IfSome left (λ rest. says ≡ begins_unmarked (header ∷ (lines_of rest).whole))

pub torn_first : (r old new remaining : Option (List ℕ)) (t : Taken) (line : List ℕ) → old ≡ r → t ≡ taken.Torn → Takes t old new remaining line → Unended line → IsSaid false r
torn_first r old new remaining taken.Torn line e i h u = subst (IsSaid false) e (torn_first_at old new line h.0 h.2 u)
torn_first r old new remaining taken.Whole line e i h u = absurd cc
torn_first r old new remaining taken.TooLong line e i h u = absurd cc

pub long_first : (r old new remaining : Option (List ℕ)) (t : Taken) (line : List ℕ) → old ≡ r → t ≡ taken.TooLong → Takes t old new remaining line → IsSaid false r
long_first r old new remaining taken.TooLong line e i h = subst (IsSaid false) e (long_first_at old new h)
long_first r old new remaining taken.Whole line e i h = absurd cc
long_first r old new remaining taken.Torn line e i h = absurd cc

pub other_first : (r old new remaining : Option (List ℕ)) (t : Taken) (line : List ℕ) → old ≡ r → t ≡ taken.Whole → Takes t old new remaining line → Unended line
    → read_header line ≡ None → IsSaid false r
other_first r old new remaining taken.Whole line e i h u none = subst (IsSaid false) e (other_first_at old new line h u none)
other_first r old new remaining taken.Torn line e i h u none = absurd cc
other_first r old new remaining taken.TooLong line e i h u none = absurd cc

pub behind_first : (r old new remaining : Option (List ℕ)) (t : Taken) (line : List ℕ) (says : Bool) → old ≡ r → t ≡ taken.Whole → Takes t old new remaining line → Unended line
    → IsSaidBehind line says new → IsSaid says r
behind_first r old new remaining taken.Whole line says e i h u s = subst (IsSaid says) e (both says old new line h u s)
behind_first r old new remaining taken.Torn line says e i h u s = absurd cc
behind_first r old new remaining taken.TooLong line says e i h u s = absurd cc

pub torn_second : (header : List ℕ) (old new remaining : Option (List ℕ)) (t : Taken) (line : List ℕ) → t ≡ taken.Torn → Takes t old new remaining line → Unended line
    → IsSaidBehind header false old
torn_second header old new remaining taken.Torn line i h u = torn_second_at header line old new h.0 h.2 u
torn_second header old new remaining taken.Whole line i h u = absurd cc
torn_second header old new remaining taken.TooLong line i h u = absurd cc

pub long_second : (header : List ℕ) (old new remaining : Option (List ℕ)) (t : Taken) (line : List ℕ) → t ≡ taken.TooLong → Takes t old new remaining line
    → IsSaidBehind header false old
long_second header old new remaining taken.TooLong line i h = long_second_at header old new h
long_second header old new remaining taken.Whole line i h = absurd cc
long_second header old new remaining taken.Torn line i h = absurd cc

pub whole_second : (header : List ℕ) (old new remaining : Option (List ℕ)) (t : Taken) (line : List ℕ) (says : Bool) → t ≡ taken.Whole → Takes t old new remaining line → Unended line
    → length header ≤ max_journal_line → length line ≤ max_journal_line → is_some (read_header header) ≡ true → says ≡ starts_with (λ a b. a == b) line (codes "step ")
    → IsSaidBehind header says old
whole_second header old new remaining taken.Whole line says i h u short short' some e =
    subst (λ (b : Bool). IsSaidBehind header b old) (sym e) (whole_second_at header line old new h u short short' some)
whole_second header old new remaining taken.Torn line says i h u short short' some e = absurd cc
whole_second header old new remaining taken.TooLong line says i h u short short' some e = absurd cc
