-- The whole batches of a file are its front, and are batches that may be written.
use Rattle.std.proofs.Common.{◌≡◌, ℕ, ◌==◌, Bool, true, false, List, [], ◌∷◌, ◌++◌, length, take, cond, refl, ap, ap₂, sym, ◌∙◌, append_assoc, append-nil, arith}
use Rattle.std.specs.List.{All, concat}
use Rattle.std.specs.Str.{bytes_eq}
use Rattle.std.proofs.lemmas.Bool.Decides.{nat_tests}
use Rattle.std.proofs.lemmas.List.Elements.{All-cons, All-head, All-nil, All-push, All-tail}
use Rattle.std.proofs.Math.Seq.{take-append_seam}
use Rattle.shm_batches.proofs.ChainLemmas.{eq-true}
use Rattle.shm_batches.proofs.FrontLemmas.{first-line, whole_by}
use Rattle.shm_batches.proofs.WrittenLemmas.{mark-begins, unended-mark, with_feed}
use Rattle.shm_batches.proofs.JournalLemmas.{IsNoFeed}
use Rattle.shm_batches.specs.Chain.{Chain, batch_text, begins_as_mark, file_text, mark_line, unmarked, with_batch}
use Rattle.shm_journal.specs.Found.{Lines, lines_behind, lines_of, with_line}
use Rattle.shm_journal.specs.LinesOf.{Unended}
use Rattle.shm_batches.specs.Whole.{unmarked_in, unmarked_text, whole_batches, whole_bytes, whole_in, whole_text}
use Rattle.shm_batches.specs.Written.{IsBatch, IsPlain, lines_text}

-- ---- bytes are lines

record AreLines (lines : Lines) (bytes : List ℕ) : Type 0 where
  pub unended : All Unended lines.whole
  pub all : bytes ≡ lines_text lines.whole ++ lines.torn

is-feed : (byte : ℕ) → (byte == 10) ≡ true → byte ≡ 10
is-feed byte h = grind (arith, nat_tests)

lines-by : (b : Bool) (front bytes : List ℕ) (byte : ℕ) → (byte == 10) ≡ b → Unended front → AreLines (lines_of bytes) bytes
    → ((byte == 10) ≡ false → AreLines (lines_behind (front ++ byte ∷ []) bytes) ((front ++ byte ∷ []) ++ bytes))
    → AreLines (cond b (with_line front (lines_of bytes)) (lines_behind (front ++ byte ∷ []) bytes)) (front ++ byte ∷ bytes)
lines-by true front bytes byte e h ended onward =
    let whole = lines_text (lines_of bytes).whole in
    let torn = (lines_of bytes).torn in
    record {
      unended = All-cons Unended front (lines_of bytes).whole h ended.unended;
      all = ap₂ (λ b t. front ++ b ∷ t) (is-feed byte e) ended.all
          ∙ sym (append_assoc front (10 ∷ []) (whole ++ torn)) ∙ sym (append_assoc (with_feed front) whole torn);
    }
lines-by false front bytes byte e h ended onward =
    let more = onward e in
    record { unended = more.unended; all = sym (append_assoc front (byte ∷ []) bytes) ∙ more.all }

lines-behind : (bytes front : List ℕ) → Unended front → AreLines (lines_behind front bytes) (front ++ bytes)
unfolding lines_behind
lines-behind [] front h = record { unended = All-nil Unended; all = append-nil front }
lines-behind (byte ∷ bytes) front h =
    lines-by (byte == 10) front bytes byte refl h (lines-behind bytes [] (All-nil IsNoFeed))
    (λ other. lines-behind bytes (front ++ byte ∷ []) (All-push IsNoFeed front byte h other))

-- ---- whole batches

-- these batches, and what stands behind them
pub record Begins (found : List (List ℕ)) (chain : Chain) (bytes : List ℕ) : Type 0 where
  pub are : All IsBatch found
  pub rest : List ℕ
  pub all : bytes ≡ file_text chain found ++ rest

pub lines_both : (xs ys : List (List ℕ)) → lines_text (xs ++ ys) ≡ lines_text xs ++ lines_text ys
lines_both [] ys = refl
lines_both (line ∷ xs) ys = ap (λ t. with_feed line ++ t) (lines_both xs ys) ∙ sym (append_assoc (with_feed line) (lines_text xs) (lines_text ys))

batch-more : (text line : List ℕ) → IsBatch text → Unended line → begins_as_mark line ≡ false → IsBatch (text ++ with_feed line)
batch-more text line is h plain = record {
  lines = is.lines ++ line ∷ [];
  are_plain = All-push IsPlain is.lines line is.are_plain (record { unended = h; plain = plain });
  whole = ap₂ (λ a b. a ++ b) is.whole (sym (append-nil (with_feed line))) ∙ sym (lines_both is.lines (line ∷ []));
}

pub none_batch : IsBatch []
none_batch = record { lines = []; are_plain = All-nil IsPlain; whole = refl }

begins-by : (marks next : Bool) (chain : Chain) (text line : List ℕ) (lines : List (List ℕ)) → begins_as_mark line ≡ marks → bytes_eq line (mark_line chain text) ≡ next
    → IsBatch text → Begins (whole_in (with_batch chain text) [] lines) (with_batch chain text) (lines_text lines)
    → (begins_as_mark line ≡ false → Begins (whole_in chain (text ++ with_feed line) lines) chain ((text ++ with_feed line) ++ lines_text lines))
    → Begins (whole_by marks next chain text line lines) chain (text ++ (with_feed line ++ lines_text lines))
unfolding batch_text
begins-by true true chain text line lines m n is ended onward =
    let mark = mark_line chain text in
    let front = file_text (with_batch chain text) (whole_in (with_batch chain text) [] lines) in
    record {
      are = All-cons IsBatch text (whole_in (with_batch chain text) [] lines) is ended.are;
      rest = ended.rest;
      all = ap₂ (λ l t. text ++ (with_feed l ++ t)) (eq-true line mark n) ended.all
          ∙ sym (append_assoc text (with_feed mark) (front ++ ended.rest)) ∙ sym (append_assoc (text ++ with_feed mark) front ended.rest);
    }
begins-by true false chain text line lines m n is ended onward =
    record { are = All-nil IsBatch; rest = text ++ (with_feed line ++ lines_text lines); all = refl }
begins-by false next chain text line lines m n is ended onward =
    let more = onward m in
    record { are = more.are; rest = more.rest; all = sym (append_assoc text (with_feed line) (lines_text lines)) ∙ more.all }

begins : (lines : List (List ℕ)) (chain : Chain) (text : List ℕ) → All Unended lines → IsBatch text → Begins (whole_in chain text lines) chain (text ++ lines_text lines)
unfolding whole_in
begins [] chain text h is = record { are = All-nil IsBatch; rest = text ++ []; all = refl }
begins (line ∷ lines) chain text h is =
    begins-by (begins_as_mark line) (bytes_eq line (mark_line chain text)) chain text line lines refl refl is
    (begins lines (with_batch chain text) [] (All-tail Unended line lines h) none_batch)
    (λ plain. begins lines chain (text ++ with_feed line) (All-tail Unended line lines h) (batch-more text line is (All-head Unended line lines h) plain))

-- each file begins with its whole batches
pub file_begins : (file : List ℕ) → Begins (whole_batches file) unmarked file
file_begins file =
    let split = lines-behind file [] (All-nil IsNoFeed) in
    let front = begins (lines_of file).whole unmarked [] split.unended none_batch in
    record {
      are = front.are;
      rest = front.rest ++ (lines_of file).torn;
      all = split.all ∙ ap (λ l. l ++ (lines_of file).torn) front.all ∙ append_assoc (file_text unmarked (whole_batches file)) front.rest (lines_of file).torn;
    }

-- ---- without marks

plain-stays : (line more : List ℕ) → IsPlain line → unmarked_text (with_feed line ++ more) ≡ with_feed line ++ unmarked_text more
unfolding unmarked_in
plain-stays line more is =
    ap unmarked_in (first-line line more is.unended) ∙ ap (λ b. cond b (unmarked_text more) (with_feed line ++ unmarked_text more)) is.plain

mark-goes : (chain : Chain) (text more : List ℕ) → unmarked_text (with_feed (mark_line chain text) ++ more) ≡ unmarked_text more
unfolding unmarked_in
mark-goes chain text more =
    let mark = mark_line chain text in
    ap unmarked_in (first-line mark more (unended-mark chain text))
    ∙ ap (λ b. cond b (unmarked_text more) (with_feed mark ++ unmarked_text more)) (mark-begins chain text)

lines-stay : (lines : List (List ℕ)) (more : List ℕ) → All IsPlain lines → unmarked_text (lines_text lines ++ more) ≡ lines_text lines ++ unmarked_text more
lines-stay [] more are = refl
lines-stay (line ∷ lines) more are =
    ap unmarked_text (append_assoc (with_feed line) (lines_text lines) more)
    ∙ plain-stays line (lines_text lines ++ more) (All-head IsPlain line lines are)
    ∙ ap (λ t. with_feed line ++ t) (lines-stay lines more (All-tail IsPlain line lines are))
    ∙ sym (append_assoc (with_feed line) (lines_text lines) (unmarked_text more))

batch-unmarked : (chain : Chain) (text more : List ℕ) → IsBatch text → unmarked_text (batch_text chain text ++ more) ≡ text ++ unmarked_text more
unfolding batch_text
batch-unmarked chain text more is =
    let mark = with_feed (mark_line chain text) in
    ap unmarked_text (append_assoc text mark more)
    ∙ ap (λ t. unmarked_text (t ++ (mark ++ more))) is.whole
    ∙ lines-stay is.lines (mark ++ more) is.are_plain
    ∙ ap₂ (λ t u. t ++ u) (sym is.whole) (mark-goes chain text more)

batches-unmarked : (texts : List (List ℕ)) (chain : Chain) → All IsBatch texts → unmarked_text (file_text chain texts) ≡ concat texts
unfolding unmarked_in lines_behind
batches-unmarked [] chain are = refl
batches-unmarked (text ∷ texts) chain are =
    batch-unmarked chain text (file_text (with_batch chain text) texts) (All-head IsBatch text texts are)
    ∙ ap (λ t. text ++ t) (batches-unmarked texts (with_batch chain text) (All-tail IsBatch text texts are))

pub front_reads : (file : List ℕ) → unmarked_text (take (whole_bytes file) file) ≡ whole_text file
front_reads file =
    let b = file_begins file in
    let front = file_text unmarked (whole_batches file) in
    ap unmarked_text (ap (take (length front)) b.all ∙ take-append_seam front b.rest) ∙ batches-unmarked (whole_batches file) unmarked b.are
