-- Rows of accesses: which steps they stand for, how they grow, and that their entries have lines.
use Rattle.std.proofs.Common.{◌≡◌, ℕ, zero, suc, ◌+◌, ◌<◌, ◌≤◌, ◌==◌, ◌&&◌, Bool, true, false, List, [], ◌∷◌, ◌++◌, cond, length, slice_index, refl, ap, ap₂, sym, ◌∙◌, arith}
use Rattle.std.specs.List.{All}
use Rattle.std.specs.Prelude.{Option, Some, None, nat_lt, option_map, ◌^◌}
use Rattle.std.specs.Str.{bytes_eq}
use Rattle.std.proofs.lemmas.Bool.Decides.{nat_tests}
use Rattle.std.proofs.lemmas.Slice.Eq.{bytes_eq-Decides}
use Rattle.std.proofs.lemmas.List.{length-append}
use Rattle.std.proofs.lemmas.List.Elements.{All-head, All-tail}
use Rattle.shm_place.specs.Limits.{page_bytes}
use Rattle.shm_model.specs.declared.asked_access.Asked.TheVariants.{Load, Store}
use Rattle.shm_wire.specs.Asks.{is_block}
use Rattle.shm_wire.specs.Line as stream
use Rattle.shm_wire.specs.declared.caller_ask.Question.TheVariants as question
use Rattle.shm_process.specs.Access.{access_ask}
use Rattle.shm_process.specs.Cause.{Cause, OfLine}
use Rattle.shm_process.specs.Causes.{causes_of, loads, stores}
use Rattle.shm_process.specs.Recorded.{Entry, IsEntry, entries_from, steps_of}
use Rattle.shm_process.specs.Rows.{Accesses, Loads, Stores, Row, accesses_cause, accesses_steps, both, follows, joined, row_entry, size, with_accesses}

-- ---- lists of steps

pub entries-both : (clock : ℕ) (xs ys : List Cause) → entries_from clock (xs ++ ys) ≡ entries_from clock xs ++ entries_from (clock + length xs) ys
unfolding entries_from
entries-both clock [] ys = let same : clock + 0 ≡ clock = omega arith in ap (λ n. entries_from n ys) (sym same)
entries-both clock (x ∷ xs) ys =
    let later : clock + suc (length xs) ≡ (clock + 1) + length xs = omega arith in
    ap (λ rest. record { clock = clock; cause = x } ∷ rest)
    (entries-both (clock + 1) xs ys ∙ ap (λ n. entries_from (clock + 1) xs ++ entries_from n ys) (sym later))

loads-length : (count site : ℕ) (tag : List ℕ) (at offset : ℕ) → length (loads site tag at offset count) ≡ count
unfolding loads
loads-length zero site tag at offset = refl
loads-length (suc n) site tag at offset = ap suc (loads-length n site tag at (offset + 1))

loads-both : (count site : ℕ) (tag : List ℕ) (at offset more : ℕ)
    → loads site tag at offset (count + more) ≡ loads site tag at offset count ++ loads site tag at (offset + count) more
unfolding loads
loads-both zero site tag at offset more =
    let none : 0 + more ≡ more = omega arith in
    let same : offset + 0 ≡ offset = omega arith in
    ap (loads site tag at offset) none ∙ ap (λ o. loads site tag at o more) (sym same)
loads-both (suc n) site tag at offset more =
    let one : suc n + more ≡ suc (n + more) = omega arith in
    let later : offset + suc n ≡ (offset + 1) + n = omega arith in
    ap (loads site tag at offset) one
    ∙ ap (λ rest. OfLine (stream.Ask (access_ask site tag (Load at offset))) ∷ rest)
    (loads-both n site tag at (offset + 1) more ∙ ap (λ o. loads site tag at (offset + 1) n ++ loads site tag at o more) (sym later))

stores-length : (bytes : List ℕ) (site : ℕ) (tag : List ℕ) (at offset : ℕ) → length (stores site tag at offset bytes) ≡ length bytes
unfolding stores
stores-length [] site tag at offset = refl
stores-length (b ∷ bs) site tag at offset = ap suc (stores-length bs site tag at (offset + 1))

stores-both : (bytes more : List ℕ) (site : ℕ) (tag : List ℕ) (at offset : ℕ)
    → stores site tag at offset (bytes ++ more) ≡ stores site tag at offset bytes ++ stores site tag at (offset + length bytes) more
unfolding stores
stores-both [] more site tag at offset = let same : offset + 0 ≡ offset = omega arith in ap (λ o. stores site tag at o more) (sym same)
stores-both (b ∷ bs) more site tag at offset =
    let later : offset + suc (length bs) ≡ (offset + 1) + length bs = omega arith in
    ap (λ rest. OfLine (stream.Ask (access_ask site tag (Store at offset b))) ∷ rest)
    (stores-both bs more site tag at (offset + 1) ∙ ap (λ o. stores site tag at (offset + 1) bs ++ stores site tag at o more) (sym later))

-- ---- the steps of a row

abbrev pub row_steps : ℕ → Row → List Entry
row_steps site row = entries_from row.clock (accesses_steps site row row.accesses)

-- a row has some accesses, and at most a page's bytes
abbrev pub IsRow : Row → Type 0
IsRow row = (0 < size row.accesses) × (size row.accesses ≤ page_bytes)

eq-is : (a b : ℕ) → (a == b) ≡ true → a ≡ b
eq-is a b e = grind (arith, nat_tests)

one-load : (site : ℕ) (tag : List ℕ) (at offset count : ℕ) (b : Bool) → (count == 1) ≡ b
    → causes_of (OfLine (stream.Ask (cond b (access_ask site tag (Load at offset)) (record { site = site; tag = tag; asked = question.Read at offset count }))))
    ≡ loads site tag at offset count
unfolding loads
one-load site tag at offset count true e = let is : count ≡ 1 = grind (arith, nat_tests) in sym (ap (loads site tag at offset) is)
one-load site tag at offset count false e = refl

one-store : (site : ℕ) (tag : List ℕ) (at offset : ℕ) (bytes : List ℕ) (b : Bool) → (length bytes == 1) ≡ b
    → causes_of (OfLine (cond b (stream.Ask (access_ask site tag (Store at offset (slice_index bytes 0))))
    (stream.Write (record { site = site; tag = tag; at = at; offset = offset; bytes = bytes }))))
    ≡ stores site tag at offset bytes
unfolding stores
one-store site tag at offset bytes false e = refl
one-store site tag at offset [] true e = absurd (let is = eq-is 0 1 e in omega (arith, is))
one-store site tag at offset (b ∷ []) true e = refl
one-store site tag at offset (b ∷ c ∷ bs) true e = absurd (let is = eq-is (suc (suc (length bs))) 1 e in omega (arith, is))

causes-are : (site : ℕ) (row : Row) (accesses : Accesses) → causes_of (accesses_cause site row accesses) ≡ accesses_steps site row accesses
causes-are site row (Loads count) = one-load site row.tag row.at row.offset count (count == 1) refl
causes-are site row (Stores bytes) = one-store site row.tag row.at row.offset bytes (length bytes == 1) refl

pub entry_steps : (site : ℕ) (row : Row) → steps_of (row_entry site row) ≡ row_steps site row
entry_steps site row = ap (entries_from row.clock) (causes-are site row row.accesses)

-- ---- how a row grows

steps-length : (site : ℕ) (row : Row) (accesses : Accesses) → length (accesses_steps site row accesses) ≡ size accesses
steps-length site row (Loads count) = loads-length count site row.tag row.at row.offset
steps-length site row (Stores bytes) = stores-length bytes site row.tag row.at row.offset

-- where the second goes on
pub record Follows (row next : Row) : Type 0 where
  pub tag : row.tag ≡ next.tag
  pub at : row.at ≡ next.at
  pub offset : row.offset + size row.accesses ≡ next.offset
  pub clock : row.clock + size row.accesses ≡ next.clock
  pub less : size row.accesses < page_bytes

both-true : (a b : Bool) → (a && b) ≡ true → (a ≡ true) × (b ≡ true)
both-true true true e = (refl, refl)
both-true true false e = absurd (cc)
both-true false b e = absurd (cc)

lt-is : (a b : ℕ) → nat_lt a b ≡ true → a < b
lt-is a b e = grind (arith, nat_tests)

bytes_eq-is : (xs ys : List ℕ) → bytes_eq xs ys ≡ true → xs ≡ ys
bytes_eq-is xs ys e = grind (arith, bytes_eq-Decides)

pub follows-are : (row next : Row) → follows row next ≡ true → Follows row next
follows-are row next e =
    let count = size row.accesses in
    let tags = bytes_eq row.tag next.tag in
    let ats = row.at == next.at in
    let offsets = row.offset + count == next.offset in
    let clocks = row.clock + count == next.clock in
    let p = both-true (((tags && ats) && offsets) && clocks) (nat_lt count page_bytes) e in
    let q = both-true ((tags && ats) && offsets) clocks p.0 in
    let r = both-true (tags && ats) offsets q.0 in
    let s = both-true tags ats r.0 in
    record {
      tag = bytes_eq-is row.tag next.tag s.0;
      at = eq-is row.at next.at s.1;
      offset = eq-is (row.offset + count) next.offset r.1;
      clock = eq-is (row.clock + count) next.clock q.1;
      less = lt-is count page_bytes p.1;
    }

-- the steps of both are those of the one and then of the other
accesses-both : (site : ℕ) (row next : Row) (xs ys : Accesses) (whole : Row) → row.tag ≡ next.tag → row.at ≡ next.at → row.offset + size xs ≡ next.offset
    → row.clock + size xs ≡ next.clock → option_map (with_accesses row) (both xs ys) ≡ Some whole
    → (row_steps site whole ≡ entries_from row.clock (accesses_steps site row xs) ++ entries_from next.clock (accesses_steps site next ys))
    × (size whole.accesses ≡ size xs + size ys)
accesses-both site row next (Loads n) (Loads m) whole tag at offset clock e =
    let is : record row { accesses = Loads (n + m) } ≡ whole = cc in
    let there : loads site row.tag row.at (row.offset + n) m ≡ loads site next.tag next.at next.offset m =
    ap₂ (λ t a. loads site t a (row.offset + n) m) tag at ∙ ap (λ o. loads site next.tag next.at o m) offset in
    let first = loads site row.tag row.at row.offset n in (
      sym (ap (row_steps site) is) ∙ ap (entries_from row.clock) (loads-both n site row.tag row.at row.offset m)
          ∙ entries-both row.clock first (loads site row.tag row.at (row.offset + n) m)
          ∙ ap (λ k. entries_from row.clock first ++ entries_from (row.clock + k) (loads site row.tag row.at (row.offset + n) m)) (loads-length n site row.tag row.at row.offset)
          ∙ ap₂ (λ c steps. entries_from row.clock first ++ entries_from c steps) clock there,
      sym (ap (λ (r : Row). size r.accesses) is),
    )
accesses-both site row next (Loads n) (Stores bs) whole tag at offset clock e = absurd (cc)
accesses-both site row next (Stores bs) (Loads m) whole tag at offset clock e = absurd (cc)
accesses-both site row next (Stores bs) (Stores cs) whole tag at offset clock e =
    let is : record row { accesses = Stores (bs ++ cs) } ≡ whole = cc in
    let n = length bs in
    let there : stores site row.tag row.at (row.offset + n) cs ≡ stores site next.tag next.at next.offset cs =
    ap₂ (λ t a. stores site t a (row.offset + n) cs) tag at ∙ ap (λ o. stores site next.tag next.at o cs) offset in
    let first = stores site row.tag row.at row.offset bs in (
      sym (ap (row_steps site) is) ∙ ap (entries_from row.clock) (stores-both bs cs site row.tag row.at row.offset)
          ∙ entries-both row.clock first (stores site row.tag row.at (row.offset + n) cs)
          ∙ ap (λ k. entries_from row.clock first ++ entries_from (row.clock + k) (stores site row.tag row.at (row.offset + n) cs)) (stores-length bs site row.tag row.at row.offset)
          ∙ ap₂ (λ c steps. entries_from row.clock first ++ entries_from c steps) clock there,
      sym (ap (λ (r : Row). size r.accesses) is) ∙ length-append bs cs,
    )

pub record Joins (site : ℕ) (row next whole : Row) : Type 0 where
  pub steps : row_steps site whole ≡ row_steps site row ++ row_steps site next
  pub size_of : size whole.accesses ≡ size row.accesses + size next.accesses
  pub less : size row.accesses < page_bytes

joined-cond : (site : ℕ) (row next whole : Row) (b : Bool) → follows row next ≡ b
    → cond b (option_map (with_accesses row) (both row.accesses next.accesses)) None ≡ Some whole → Joins site row next whole
joined-cond site row next whole false e h = absurd (cc)
joined-cond site row next whole true e h =
    let f = follows-are row next e in
    let both = accesses-both site row next row.accesses next.accesses whole f.tag f.at f.offset f.clock h in
    record { steps = both.0; size_of = both.1; less = f.less }

pub joined_steps : (site : ℕ) (row next whole : Row) → joined row next ≡ Some whole → Joins site row next whole
joined_steps site row next whole e = joined-cond site row next whole (follows row next) refl e

-- a row takes one access more
pub joined_is : (site : ℕ) (row next whole : Row) → Joins site row next whole → IsRow row → size next.accesses ≡ 1 → IsRow whole
joined_is site row next whole j is one =
    let sum : size whole.accesses ≡ size row.accesses + 1 = j.size_of ∙ ap (λ n. size row.accesses + n) one in
    let less = j.less in
    let some = is.0 in
    (omega (arith, sum, some), omega (arith, sum, less))

-- ---- lines

abbrev IsBytes : List ℕ → Type 0
IsBytes bytes = (i : ℕ) → slice_index bytes i < 256

one-byte : (b : ℕ) → b < 256 → IsBytes (b ∷ [])
one-byte b h zero = h
one-byte b h (suc i) = omega arith

more-bytes : (b : ℕ) (bs : List ℕ) → b < 256 → IsBytes bs → IsBytes (b ∷ bs)
more-bytes b bs h is zero = h
more-bytes b bs h is (suc i) = is i

-- the first and the last step have lines, and so has the row
first-is : (clock : ℕ) (cause : Cause) (rest : List Cause) → All IsEntry (entries_from clock (cause ∷ rest)) → IsEntry (record { clock = clock; cause = cause })
unfolding entries_from
first-is clock cause rest all = All-head IsEntry (record { clock = clock; cause = cause }) (entries_from (clock + 1) rest) all

rest-are : (clock : ℕ) (cause : Cause) (rest : List Cause) → All IsEntry (entries_from clock (cause ∷ rest)) → All IsEntry (entries_from (clock + 1) rest)
unfolding entries_from
rest-are clock cause rest all = All-tail IsEntry (record { clock = clock; cause = cause }) (entries_from (clock + 1) rest) all

-- the last load is at an offset that there is
loads-end : (n clock site : ℕ) (tag : List ℕ) (at offset : ℕ) → All IsEntry (entries_from clock (loads site tag at offset (suc n))) → offset + n < 2 ^ 32
unfolding loads
loads-end zero clock site tag at offset all =
    let first = first-is clock (OfLine (stream.Ask (access_ask site tag (Load at offset)))) [] all in
    let low : offset < 2 ^ 32 = first.1.2.1 in omega (arith, low)
loads-end (suc n) clock site tag at offset all =
    let rest = loads-end n (clock + 1) site tag at (offset + 1)
    (rest-are clock (OfLine (stream.Ask (access_ask site tag (Load at offset)))) (loads site tag at (offset + 1) (suc n)) all) in
    omega (arith, rest)

stores-end : (bs : List ℕ) (b clock site : ℕ) (tag : List ℕ) (at offset : ℕ) → All IsEntry (entries_from clock (stores site tag at offset (b ∷ bs)))
    → (offset + length bs < 2 ^ 32) × IsBytes (b ∷ bs)
unfolding stores
stores-end [] b clock site tag at offset all =
    let first = first-is clock (OfLine (stream.Ask (access_ask site tag (Store at offset b)))) [] all in
    let low : offset < 2 ^ 32 = first.1.2.1 in
    (omega (arith, low), one-byte b first.1.2.2)
stores-end (c ∷ bs) b clock site tag at offset all =
    let step = OfLine (stream.Ask (access_ask site tag (Store at offset b))) in
    let first = first-is clock step (stores site tag at (offset + 1) (c ∷ bs)) all in
    let rest = stores-end bs c (clock + 1) site tag at (offset + 1) (rest-are clock step (stores site tag at (offset + 1) (c ∷ bs)) all) in
    let last = rest.0 in
    (omega (arith, last), more-bytes b (c ∷ bs) first.1.2.2 rest.1)

block-is : (offset n : ℕ) → offset + n < 2 ^ 32 → suc n ≤ page_bytes → is_block offset (suc n) ≡ true
block-is offset n h few = grind (arith, nat_tests)

wide : (n : ℕ) → n ≤ page_bytes → n < 2 ^ 32
wide n h = omega (arith, h)

loads-line : (site : ℕ) (row : Row) (count : ℕ) (b : Bool) → (count == 1) ≡ b → 0 < count → count ≤ page_bytes
    → All IsEntry (entries_from row.clock (loads site row.tag row.at row.offset count))
    → IsEntry (record {
      clock = row.clock;
      cause = OfLine (stream.Ask (cond b (access_ask site row.tag (Load row.at row.offset))
          (record { site = site; tag = row.tag; asked = question.Read row.at row.offset count })));
    })
unfolding loads
loads-line site row zero b e some few all = absurd (omega (arith, some))
loads-line site row (suc n) true e some few all =
    first-is row.clock (OfLine (stream.Ask (access_ask site row.tag (Load row.at row.offset)))) (loads site row.tag row.at (row.offset + 1) n) all
loads-line site row (suc n) false e some few all =
    let first =
    first-is row.clock (OfLine (stream.Ask (access_ask site row.tag (Load row.at row.offset)))) (loads site row.tag row.at (row.offset + 1) n) all in
    let last = loads-end n row.clock site row.tag row.at row.offset all in
    (first.0, (first.1.0, first.1.1, (first.1.2.0, first.1.2.1, wide (suc n) few, block-is row.offset n last few)))

stores-line : (site : ℕ) (row : Row) (bytes : List ℕ) (b : Bool) → (length bytes == 1) ≡ b → 0 < length bytes → length bytes ≤ page_bytes
    → All IsEntry (entries_from row.clock (stores site row.tag row.at row.offset bytes))
    → IsEntry (record {
      clock = row.clock;
      cause = OfLine (cond b (stream.Ask (access_ask site row.tag (Store row.at row.offset (slice_index bytes 0))))
          (stream.Write (record { site = site; tag = row.tag; at = row.at; offset = row.offset; bytes = bytes })));
    })
unfolding stores
stores-line site row [] b e some few all = absurd (omega (arith, some))
stores-line site row (x ∷ xs) true e some few all =
    first-is row.clock (OfLine (stream.Ask (access_ask site row.tag (Store row.at row.offset x)))) (stores site row.tag row.at (row.offset + 1) xs) all
stores-line site row (x ∷ xs) false e some few all =
    let first =
    first-is row.clock (OfLine (stream.Ask (access_ask site row.tag (Store row.at row.offset x)))) (stores site row.tag row.at (row.offset + 1) xs) all in
    let last = stores-end xs x row.clock site row.tag row.at row.offset all in
    (first.0, (first.1.0, first.1.1, first.1.2.0, first.1.2.1, block-is row.offset (length xs) last.0 few, last.1))

accesses-line : (site : ℕ) (row : Row) (accesses : Accesses) → 0 < size accesses → size accesses ≤ page_bytes
    → All IsEntry (entries_from row.clock (accesses_steps site row accesses)) → IsEntry (record { clock = row.clock; cause = accesses_cause site row accesses })
accesses-line site row (Loads count) some few all = loads-line site row count (count == 1) refl some few all
accesses-line site row (Stores bytes) some few all = stores-line site row bytes (length bytes == 1) refl some few all

-- where the steps have lines the row's entry has one
pub row_line : (site : ℕ) (row : Row) → IsRow row → All IsEntry (row_steps site row) → IsEntry (row_entry site row)
row_line site row is all = accesses-line site row row.accesses is.0 is.1 all

-- ---- an access and a row

not-joined : (row next : Row) (b : Bool) → follows row next ≡ b → b ≡ false → joined row next ≡ None
not-joined row next b e f = ap (λ b. cond b (option_map (with_accesses row) (both row.accesses next.accesses)) None) (e ∙ f)

pub apart : (row next : Row) → follows row next ≡ false → None ≡ joined row next
apart row next e = sym (not-joined row next false e refl)

pub together : (row next : Row) (accesses more : Accesses) (whole : Option Row) → follows row next ≡ true → row.accesses ≡ accesses → next.accesses ≡ more
    → whole ≡ option_map (with_accesses row) (both accesses more) → whole ≡ joined row next
together row next accesses more whole e is so w =
    w ∙ sym (ap₂ (λ xs ys. option_map (with_accesses row) (both xs ys)) is so)
    ∙ sym (ap (λ b. cond b (option_map (with_accesses row) (both row.accesses next.accesses)) None) e)
