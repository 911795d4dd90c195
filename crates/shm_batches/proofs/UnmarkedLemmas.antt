-- Lines that are given without marks.
use Rattle.std.proofs.Common.{◌≡◌, ◌≢◌, ℕ, ◌+◌, ◌-◌, ◌<◌, ◌≤◌, ◌==◌, ◌&&◌, Bool, true, false, List, [], ◌∷◌, ◌++◌, length, take, drop, cond, inl, inr, refl, ap, ap₂, sym, subst, ◌∙◌, append_assoc, append-nil, arith}
use Rattle.std.specs.Prelude.{Option, None, Some, ◌⊎◌}
use Rattle.std.specs.Io.{StartsWith, StopsAt, appended_bytes}
use Rattle.std.specs.Io.KnownBytes.{Consumes, IsAtEnd, Keeps}
use Rattle.std.specs.Str.{bytes_eq}
use Rattle.std.proofs.lemmas.Bool.{cases_lt}
use Rattle.std.proofs.lemmas.Bool.Decides.{nat_tests}
use Rattle.std.proofs.lemmas.List.{drop-drop, length-append, length-drop, length-take-le, take-append-drop, take-append-le, take_all}
use Rattle.std.proofs.Math.Seq.{take-append-add}
use Rattle.std.proofs.lemmas.List.Elements.{All-append, All-cons, All-nil, All-weaker}
use Rattle.std.proofs.lemmas.Slice.Eq.{bytes_eq-Decides}
use Rattle.shm_batches.proofs.JournalLemmas.{IsNoFeed, line-first, none-ends}
use Rattle.shm_journal.specs.Found.{Lines}
use Rattle.shm_journal.specs.LinesOf.{Unended}
use Rattle.shm_batches.specs.UnmarkedLine.{IsOneLine, is_ended, left_of_line}
use Rattle.shm_batches.specs.UnmarkedOf.{left_if}
use Rattle.shm_batches.specs.Chain.{begins_as_mark}
use Rattle.shm_batches.specs.Whole.{unmarked_in, unmarked_text}

eq-true : (xs ys : List ℕ) → bytes_eq xs ys ≡ true → xs ≡ ys
eq-true xs ys h = grind (arith, bytes_eq-Decides)

-- ---- a whole line

abbrev pub front_of : List ℕ → List ℕ
front_of line = take (length line - 1) line

pub ended-line : (line : List ℕ) → is_ended line ≡ true → line ≡ front_of line ++ 10 ∷ []
ended-line line h = sym (take-append-drop (length line - 1) line) ∙ ap (λ e. front_of line ++ e) (sym (eq-true (10 ∷ []) (drop (length line - 1) line) h))

abbrev given_line : Bool → List ℕ → List ℕ → List ℕ
given_line marks line rest = cond marks rest (line ++ rest)

line-given : (line rest : List ℕ) → IsOneLine line → is_ended line ≡ true
    → unmarked_text (line ++ rest) ≡ given_line (begins_as_mark (front_of line)) line (unmarked_text rest)
unfolding unmarked_in
line-given line rest one h =
    let front = front_of line in
    let whole = ended-line line h in
    ap (λ l. unmarked_text (l ++ rest)) whole
    ∙ ap unmarked_text (append_assoc front (10 ∷ []) rest)
    ∙ ap (λ (l : Lines). unmarked_in l.whole) (line-first front rest one)
    ∙ ap (λ l. given_line (begins_as_mark front) l (unmarked_text rest)) (sym whole)

-- a whole line that begins as a mark gives nothing
pub mark-gone : (line rest : List ℕ) → IsOneLine line → is_ended line ≡ true → begins_as_mark (front_of line) ≡ true → unmarked_text (line ++ rest) ≡ unmarked_text rest
mark-gone line rest one h m = line-given line rest one h ∙ ap (λ b. given_line b line (unmarked_text rest)) m

pub line-stays : (line rest : List ℕ) → IsOneLine line → is_ended line ≡ true → begins_as_mark (front_of line) ≡ false → unmarked_text (line ++ rest) ≡ line ++ unmarked_text rest
line-stays line rest one h m = line-given line rest one h ∙ ap (λ b. given_line b line (unmarked_text rest)) m

and-left : (a b : Bool) → (a && b) ≡ true → a ≡ true
and-left true b h = refl
and-left false b h = absurd (cc)

and-right : (a b : Bool) → (a && b) ≡ true → b ≡ true
and-right true b h = h
and-right false b h = absurd (cc)

pub gone : (line : List ℕ) → IsOneLine line → (is_ended line && begins_as_mark (front_of line)) ≡ true → (rest : List ℕ) → left_of_line [] 0 rest ≡ unmarked_text (line ++ rest)
gone line one h rest = sym (mark-gone line rest one (and-left _ _ h) (and-right _ _ h))

stays-by : (ended marks : Bool) (line rest : List ℕ) → IsOneLine line → is_ended line ≡ ended → begins_as_mark (front_of line) ≡ marks → (ended && marks) ≡ false
    → left_of_line line 0 rest ≡ unmarked_text (line ++ rest)
stays-by true true line rest one e m h = absurd (cc)
stays-by true false line rest one e m h =
    ap (λ b. cond b (line ++ unmarked_text rest) (unmarked_text (line ++ rest))) e ∙ sym (line-stays line rest one e m)
stays-by false marks line rest one e m h = ap (λ b. cond b (line ++ unmarked_text rest) (unmarked_text (line ++ rest))) e

pub stays : (line : List ℕ) → IsOneLine line → (is_ended line && begins_as_mark (front_of line)) ≡ false → (rest : List ℕ) → left_of_line line 0 rest ≡ unmarked_text (line ++ rest)
stays line one h rest = stays-by (is_ended line) (begins_as_mark (front_of line)) line rest one refl refl h

-- ---- bytes that are given

cut-there : (line : List ℕ) (at n : ℕ) → drop at line ≡ take n (drop at line) ++ drop (at + n) line
cut-there line at n =
    sym (take-append-drop n (drop at line))
    ∙ ap (λ d. take n (drop at line) ++ d) (drop-drop n at line)

-- so many bytes of the line, and then the rest of it
pub given : (r : Option (List ℕ)) (line : List ℕ) (at n : ℕ) (part after : List ℕ) → is_ended line ≡ true → at + n ≤ length line → part ≡ take n (drop at line)
    → Consumes (left_if false line at r) (left_if false line (at + n) r) (take n (part ++ after))
given None line at n part after e h same = tt
given (Some rest) line at n part after e h same =
    let left : ℕ → Bool → List ℕ = λ k b. cond b (drop k line ++ unmarked_text rest) (unmarked_text (line ++ rest)) in
    let long : length part ≡ n = ap length same ∙ length-take-le n (drop at line) (let d = length-drop at line in omega (arith, d, h)) in
    let few : take n (part ++ after) ≡ part =
    take-append-le n part after (omega (arith, long)) ∙ take_all n part (omega (arith, long)) in
    ap (left at) e
    ∙ ap (λ d. d ++ unmarked_text rest) (cut-there line at n)
    ∙ append_assoc (take n (drop at line)) (drop (at + n) line) (unmarked_text rest)
    ∙ ap₂ (λ p l. p ++ l) (sym same ∙ sym few) (sym (ap (left (at + n)) e))

-- ---- a line that is read on

-- what was read before, and behind it what the reader gave
pub read-on : (r s : Option (List ℕ)) (was now old new : List ℕ) (a b : ℕ) → is_ended was ≡ false → StartsWith now was → Consumes r s (appended_bytes was now)
    → ((rest : List ℕ) → left_of_line was b rest ≡ left_of_line old a rest) → (c : ℕ) → ((rest : List ℕ) → left_of_line new c rest ≡ unmarked_text (now ++ rest))
    → Keeps (left_if false old a r) (left_if false new c s)
read-on None s was now old new a b unended grown taken before c after = tt
read-on (Some xs) None was now old new a b unended grown taken before c after = absurd taken
read-on (Some xs) (Some ys) was now old new a b unended grown taken before c after =
    let whole : was ++ appended_bytes was now ≡ now = ap (λ f. f ++ drop (length was) now) (sym grown) ∙ take-append-drop (length was) now in
    after ys
    ∙ ap (λ l. unmarked_text (l ++ ys)) (sym whole)
    ∙ ap unmarked_text (append_assoc was (appended_bytes was now) ys ∙ ap (λ l. was ++ l) (sym taken))
    ∙ sym (ap (λ t. cond t (drop b was ++ unmarked_text xs) (unmarked_text (was ++ xs))) unended)
    ∙ before xs

-- ---- a line may go on

few-or-last : (n : ℕ) (line : List ℕ) → (n ≡ length line - 1) → 0 < length line → length (drop n line) ≡ 1
few-or-last n line h some = let d = length-drop n line in omega (arith, d, h, some)

last-byte : (end : List ℕ) → length end ≡ 1 → bytes_eq (10 ∷ []) end ≡ false → Unended end
last-byte [] l h = absurd (omega (arith, l))
last-byte (x ∷ []) l h = All-cons IsNoFeed x [] (other x h) (All-nil IsNoFeed)
  where
    other : (x : ℕ) → bytes_eq (10 ∷ []) (x ∷ []) ≡ false → (x == 10) ≡ false
    other x h = grind (arith, nat_tests)
last-byte (x ∷ y ∷ end) l h = absurd (omega (arith, l))

nothing-in : (line : List ℕ) → length line ≡ 0 → Unended line
nothing-in [] h = All-nil IsNoFeed
nothing-in (x ∷ line) h = absurd (omega (arith, h))

-- a line that may be one, and isn't ended, has no line feed
pub unended-line : (line : List ℕ) → IsOneLine line → is_ended line ≡ false → Unended line
unended-line line one h = go (cases_lt 0 (length line))
  where
    go : (0 < length line) ⊎ (length line ≤ 0) → Unended line
    go (inl some) =
        subst Unended (take-append-drop (length line - 1) line)
        (All-append IsNoFeed (front_of line) (drop (length line - 1) line) one (last-byte (drop (length line - 1) line) (few-or-last (length line - 1) line refl some) h))
    go (inr none) = nothing-in line (omega (arith, none))

no-feed : (x : ℕ) → x ≢ 10 → (x == 10) ≡ false
no-feed x h = grind (arith, nat_tests)

front-of-both : (a b : List ℕ) → 0 < length b → front_of (a ++ b) ≡ a ++ front_of b
front-of-both a b some =
    let l = length-append a b in
    let n : length (a ++ b) - 1 ≡ length a + (length b - 1) = omega (arith, l, some) in
    ap (λ k. take k (a ++ b)) n ∙ take-append-add a b (length b - 1)

one-more-by : (was add : List ℕ) → Unended was → Unended (front_of add) → (0 < length add) ⊎ (length add ≤ 0) → IsOneLine was → IsOneLine (was ++ add)
one-more-by was add h a (inl some) one = subst Unended (sym (front-of-both was add some)) (All-append IsNoFeed was (front_of add) h a)
one-more-by was add h a (inr none) one = subst IsOneLine (ap (λ b. was ++ b) (sym (empty add none)) ∙ refl) (subst IsOneLine (sym (append-nil was)) one)
  where
    empty : (b : List ℕ) → length b ≤ 0 → b ≡ []
    empty [] h = refl
    empty (x ∷ b) h = absurd (omega (arith, h))

-- what is read on is one line again
pub one-more : (was now : List ℕ) → IsOneLine was → is_ended was ≡ false → StartsWith now was → StopsAt (appended_bytes was now) 10 → IsOneLine now
one-more was now one h grown stops =
    let add = appended_bytes was now in
    let whole : was ++ add ≡ now = ap (λ f. f ++ drop (length was) now) (sym grown) ∙ take-append-drop (length was) now in
    subst IsOneLine whole
    (one-more-by was add (unended-line was one h) (All-weaker (λ x. x ≢ 10) IsNoFeed no-feed (front_of add) stops) (cases_lt 0 (length add)) one)

nothing-left : (xs ys : List ℕ) → [] ≡ xs ++ ys → ys ≡ []
nothing-left [] ys e = sym e
nothing-left (x ∷ xs) ys e = absurd (cc)

-- where nothing was left, nothing is given any more
pub ended-there : (r s : Option (List ℕ)) (was now old : List ℕ) (a b : ℕ) → IsAtEnd r → IsOneLine was → is_ended was ≡ false
    → Consumes r s (appended_bytes was now) → ((rest : List ℕ) → left_of_line was b rest ≡ left_of_line old a rest)
    → Keeps (left_if false old a r) (left_if true [] 0 s)
unfolding unmarked_in
ended-there None s was now old a b end one h taken before = tt
ended-there (Some xs) None was now old a b end one h taken before = absurd taken
ended-there (Some xs) (Some ys) was now old a b end one h taken before =
    sym (
    sym (before xs)
    ∙ ap (λ t. cond t (drop b was ++ unmarked_text xs) (unmarked_text (was ++ xs))) h
    ∙ ap (λ l. unmarked_text (was ++ l)) end
    ∙ ap unmarked_text (append-nil was)
    ∙ ap unmarked_in (none-ends was (unended-line was one h))
    )

-- ---- as the reader's methods have it

pub given-open : (o : Bool) (r : Option (List ℕ)) (line : List ℕ) (at n : ℕ) (part after : List ℕ) → o ≡ false → is_ended line ≡ true → at + n ≤ length line → part ≡ take n (drop at line)
    → Consumes (left_if o line at r) (left_if o line (at + n) r) (take n (part ++ after))
given-open false r line at n part after o e h same = given r line at n part after e h same
given-open true r line at n part after o e h same = absurd (cc)

pub read-on-open : (o p : Bool) (r0 r s t : Option (List ℕ)) (was now old new : List ℕ) (a b c : ℕ) → o ≡ false → p ≡ o → r ≡ r0 → t ≡ s
    → is_ended was ≡ false → StartsWith now was → Consumes r s (appended_bytes was now)
    → ((rest : List ℕ) → left_of_line was b rest ≡ left_of_line old a rest) → ((rest : List ℕ) → left_of_line new c rest ≡ unmarked_text (now ++ rest))
    → Keeps (left_if o old a r0) (left_if p new c t)
read-on-open false false r0 r s t was now old new a b c o p same other h grown taken before after =
    subst (λ q. Keeps (left_if false old a q) (left_if false new c t)) same
    (subst (λ q. Keeps (left_if false old a r) (left_if false new c q)) (sym other) (read-on r s was now old new a b h grown taken before c after))
read-on-open false true r0 r s t was now old new a b c o p same other h grown taken before after = absurd (cc)
read-on-open true p r0 r s t was now old new a b c o q same other h grown taken before after = absurd (cc)

pub ended-open : (o : Bool) (r0 r s t : Option (List ℕ)) (was now old new : List ℕ) (a b c : ℕ) → o ≡ false → r ≡ r0 → t ≡ s → IsAtEnd r → IsOneLine was → is_ended was ≡ false
    → Consumes r s (appended_bytes was now) → ((rest : List ℕ) → left_of_line was b rest ≡ left_of_line old a rest)
    → Keeps (left_if o old a r0) (left_if true new c t)
ended-open false r0 r s t was now old new a b c o same other end one h taken before =
    subst (λ q. Keeps (left_if false old a q) (left_if true new c t)) same
    (subst (λ q. Keeps (left_if false old a r) (left_if true new c q)) (sym other) (ended-there r s was now old a b end one h taken before))
ended-open true r0 r s t was now old new a b c o same other end one h taken before = absurd (cc)
