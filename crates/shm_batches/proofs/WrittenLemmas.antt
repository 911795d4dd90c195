-- Batches that are written are read.
use Rattle.std.proofs.Common.{◌≡◌, ℕ, ◌+◌, ◌/◌, ◌%◌, ◌==◌, ◌&&◌, not, zero, suc, Bool, true, false, List, [], ◌∷◌, ◌++◌, nat_lt, cond, refl, ap, sym, ◌∙◌, append_assoc, append-nil, arith}
use Rattle.std.specs.Fmt.{decimal, digit_glyph, digits, digits_onto}
use Rattle.std.specs.List.{All}
use Rattle.std.specs.Prelude.{codes, slice_index}
use Rattle.std.proofs.lemmas.Bool.Decides.{nat_tests}
use Rattle.std.proofs.lemmas.List.Elements.{All-append, All-cons, All-head, All-nil, All-tail}
use Rattle.hex.specs.Hex.{encode_lower, encode_with, lower_digits}
use Rattle.shm_batches.proofs.ChainLemmas.{eq-self, verb}
use Rattle.shm_batches.proofs.FrontLemmas.{mark-step, plain-step}
use Rattle.shm_batches.proofs.JournalLemmas.{IsNoFeed}
use Rattle.shm_batches.specs.Chain.{Chain, batch_text, begins_as_mark, chain_after, digest_of, file_text, mark_front, mark_line, unmarked, with_batch}
use Rattle.shm_journal.specs.LinesOf.{Unended}
use Rattle.shm_batches.specs.Whole.{whole_batches, whole_on}
use Rattle.shm_batches.specs.Written.{IsBatch, IsPlain, lines_text}

-- ---- a mark has no line feed

glyph-no_feed : (d : ℕ) → IsNoFeed (digit_glyph false d)
glyph-no_feed d = go (nat_lt d 10)
  where
    go : (b : Bool) → IsNoFeed (cond b (48 + d) (87 + d))
    go true = grind (arith, nat_tests)
    go false = grind (arith, nat_tests)

more-digits : (b : Bool) (last after : List ℕ) → Unended last → Unended after → Unended (cond b last after)
more-digits true last after l a = l
more-digits false last after l a = a

unended-digits : (k n : ℕ) (after : List ℕ) → Unended after → Unended (digits_onto k 10 false n after)
unended-digits zero n after h = h
unended-digits (suc k) n after h =
    let more = All-cons IsNoFeed (digit_glyph false (n % 10)) after (glyph-no_feed (n % 10)) h in
    more-digits (n / 10 == 0) (digit_glyph false (n % 10) ∷ after) (digits_onto k 10 false (n / 10) (digit_glyph false (n % 10) ∷ after)) more
    (unended-digits k (n / 10) (digit_glyph false (n % 10) ∷ after) more)

unended-decimal : (n : ℕ) → Unended (decimal n)
unfolding digits
unended-decimal n = unended-digits 64 n [] (All-nil IsNoFeed)

abbrev has_no_feed : List ℕ → Bool
has_no_feed [] = true
has_no_feed (x ∷ xs) = not (x == 10) && has_no_feed xs

both-so : (a b : Bool) → (not a && b) ≡ true → (a ≡ false) × (b ≡ true)
both-so true b e = absurd (cc)
both-so false b e = (refl, e)

unended-test : (word : List ℕ) → has_no_feed word ≡ true → Unended word
unended-test [] h = All-nil IsNoFeed
unended-test (x ∷ xs) h = let p = both-so (x == 10) (has_no_feed xs) h in All-cons IsNoFeed x xs p.0 (unended-test xs p.1)

-- any byte of a text, or 0 behind it
byte-no_feed : (xs : List ℕ) → has_no_feed xs ≡ true → (i : ℕ) → IsNoFeed (slice_index xs i)
byte-no_feed [] h i = refl
byte-no_feed (x ∷ xs) h zero = (both-so (x == 10) (has_no_feed xs) h).0
byte-no_feed (x ∷ xs) h (suc i) = byte-no_feed xs ((both-so (x == 10) (has_no_feed xs) h).1) i

unended-hex : (bytes : List ℕ) → Unended (encode_lower bytes)
unfolding encode_with
unended-hex [] = All-nil IsNoFeed
unended-hex (b ∷ bytes) =
    let digit : (i : ℕ) → IsNoFeed (slice_index lower_digits i) = byte-no_feed lower_digits refl in
    let low = slice_index lower_digits (b % 16) in
    All-cons IsNoFeed (slice_index lower_digits (b / 16)) (low ∷ encode_lower bytes) (digit (b / 16))
    (All-cons IsNoFeed low (encode_lower bytes) (digit (b % 16)) (unended-hex bytes))

unended-word : (word rest : List ℕ) → Unended word → Unended rest → Unended (word ++ 32 ∷ rest)
unended-word word rest h r = All-append IsNoFeed word (32 ∷ rest) h (All-cons IsNoFeed 32 rest refl r)

unended-front : (chain : Chain) → Unended (mark_front chain)
unfolding mark_front
unended-front chain =
    All-append IsNoFeed (codes "durable ") (decimal (chain.number + 1) ++ 32 ∷ encode_lower chain.digest) (unended-test (codes "durable ") refl)
    (unended-word (decimal (chain.number + 1)) (encode_lower chain.digest) (unended-decimal (chain.number + 1)) (unended-hex chain.digest))

pub unended-mark : (chain : Chain) (text : List ℕ) → Unended (mark_line chain text)
unfolding mark_line
unended-mark chain text = unended-word (mark_front chain) (encode_lower (digest_of chain text)) (unended-front chain) (unended-hex (digest_of chain text))

pub mark-begins : (chain : Chain) (text : List ℕ) → begins_as_mark (mark_line chain text) ≡ true
unfolding mark_line
mark-begins chain text = verb chain (32 ∷ encode_lower (digest_of chain text))

-- ---- what is written reads back

abbrev pub with_feed : List ℕ → List ℕ
with_feed line = line ++ 10 ∷ []

lines-read : (lines : List (List ℕ)) (chain : Chain) (text more : List ℕ) → All IsPlain lines
    → whole_on chain text (lines_text lines ++ more) ≡ whole_on chain (text ++ lines_text lines) more
lines-read [] chain text more are = ap (λ t. whole_on chain t more) (sym (append-nil text))
lines-read (line ∷ lines) chain text more are =
    let is = All-head IsPlain line lines are in
    ap (whole_on chain text) (append_assoc (with_feed line) (lines_text lines) more)
    ∙ plain-step chain text line (lines_text lines ++ more) is.unended is.plain
    ∙ lines-read lines chain (text ++ with_feed line) more (All-tail IsPlain line lines are)
    ∙ ap (λ t. whole_on chain t more) (append_assoc text (with_feed line) (lines_text lines))

pub batch-read : (chain : Chain) (text more : List ℕ) → IsBatch text → whole_on chain [] (batch_text chain text ++ more) ≡ text ∷ whole_on (with_batch chain text) [] more
unfolding batch_text
batch-read chain text more is =
    let mark = mark_line chain text in
    ap (whole_on chain []) (append_assoc text (with_feed mark) more)
    ∙ ap (λ t. whole_on chain [] (t ++ (with_feed mark ++ more))) is.whole
    ∙ lines-read is.lines chain [] (with_feed mark ++ more) is.are_plain
    ∙ ap (λ t. whole_on chain t (with_feed mark ++ more)) (sym is.whole)
    ∙ mark-step chain text mark more (unended-mark chain text) (mark-begins chain text) (eq-self mark)

pub batches_read : (texts : List (List ℕ)) (chain : Chain) (tail : List ℕ) → All IsBatch texts
    → whole_on chain [] (file_text chain texts ++ tail) ≡ texts ++ whole_on (chain_after chain texts) [] tail
batches_read [] chain tail are = refl
batches_read (text ∷ texts) chain tail are =
    ap (whole_on chain []) (append_assoc (batch_text chain text) (file_text (with_batch chain text) texts) tail)
    ∙ batch-read chain text (file_text (with_batch chain text) texts ++ tail) (All-head IsBatch text texts are)
    ∙ ap (λ w. text ∷ w) (batches_read texts (with_batch chain text) tail (All-tail IsBatch text texts are))

pub written_reads : (texts : List (List ℕ)) (tail : List ℕ) → All IsBatch texts
    → whole_batches (file_text unmarked texts ++ tail) ≡ texts ++ whole_on (chain_after unmarked texts) [] tail
written_reads texts tail are = batches_read texts unmarked tail are
