-- A front of the batches that were appended: whole batches, and behind them no further one.
use Rattle.std.proofs.Common.{◌≡◌, ◌⊎◌, ◌≤◌, ◌<◌, ℕ, suc, ◌+◌, ◌-◌, List, [], ◌∷◌, ◌++◌, inl, inr, length, take, ap, subst, ◌∙◌, append_assoc, arith}
use Rattle.std.specs.List.{All}
use Rattle.std.proofs.lemmas.Bool.{cases_lt}
use Rattle.std.proofs.lemmas.List.{length-append, take-append-le}
use Rattle.std.proofs.lemmas.List.Elements.{All-head, All-tail, All-take}
use Rattle.std.proofs.Math.Seq.{take-append-add, take-nil}
use Rattle.shm_batches.proofs.FrontLemmas.{none-step, plain-step}
use Rattle.shm_batches.proofs.WrittenLemmas.{batch-read, unended-mark, with_feed}
use Rattle.shm_batches.specs.BatchCrash.{Disk, Unforged}
use Rattle.shm_batches.proofs.JournalLemmas.{IsNoFeed}
use Rattle.shm_batches.specs.Chain.{Chain, batch_text, chain_after, file_text, mark_line, unmarked, with_batch}
use Rattle.shm_journal.specs.Found.{lines_behind}
use Rattle.shm_journal.specs.LinesOf.{Unended}
use Rattle.shm_batches.specs.Whole.{whole_in, whole_on}
use Rattle.shm_batches.specs.Written.{IsBatch, IsPlain, lines_text}

-- a front of one line
front-none : (chain : Chain) (seen line rest : List ℕ) (n : ℕ) → Unended line → n ≤ length line → whole_on chain seen (take n (line ++ rest)) ≡ []
front-none chain seen line rest n h few =
    ap (whole_on chain seen) (take-append-le n line rest few) ∙ none-step chain seen (take n line) (All-take IsNoFeed n line h)

-- so many bytes are a text and so many more
behind : (n k : ℕ) → k ≤ n → n ≡ k + (n - k)
behind n k h = omega (arith, h)

with-feed_few : (n : ℕ) (line : List ℕ) → length line < n → length (with_feed line) ≤ n
with-feed_few n line h = omega (arith, length-append line (10 ∷ []), h)

fewer : (n : ℕ) (text rest : List ℕ) → length text ≤ n → n < length (text ++ rest) → n - length text < length rest
fewer n text rest h few = omega (arith, length-append text rest, h, few)

no-more : (n : ℕ) (line : List ℕ) → n < length (with_feed line) → n ≤ length line
no-more n line h = omega (arith, length-append line (10 ∷ []), h)

take-behind : (n : ℕ) (text rest : List ℕ) → length text ≤ n → take n (text ++ rest) ≡ text ++ take (n - length text) rest
take-behind n text rest h = ap (λ k. take k (text ++ rest)) (behind n (length text) h) ∙ take-append-add text rest (n - length text)

cut-line : (chain : Chain) (seen line rest : List ℕ) (n : ℕ) → IsPlain line → n < length (with_feed line ++ rest)
    → ((m : ℕ) → m < length rest → whole_on chain (seen ++ with_feed line) (take m rest) ≡ []) → whole_on chain seen (take n (with_feed line ++ rest)) ≡ []
cut-line chain seen line rest n is few onward = go (cases_lt (length line) n)
  where
    go : (length line < n) ⊎ (n ≤ length line) → whole_on chain seen (take n (with_feed line ++ rest)) ≡ []
    go (inl h) =
        let some = with-feed_few n line h in
        let m = n - length (with_feed line) in
        ap (whole_on chain seen) (take-behind n (with_feed line) rest some)
        ∙ plain-step chain seen line (take m rest) is.unended is.plain
        ∙ onward m (fewer n (with_feed line) rest some few)
    go (inr h) =
        ap (λ b. whole_on chain seen (take n b)) (append_assoc line (10 ∷ []) rest) ∙ front-none chain seen line (10 ∷ rest) n is.unended h

-- lines, and a mark that has no line feed yet
cut-lines : (lines : List (List ℕ)) (chain : Chain) (seen mark : List ℕ) (n : ℕ) → All IsPlain lines → Unended mark → n < length (lines_text lines ++ with_feed mark)
    → whole_on chain seen (take n (lines_text lines ++ with_feed mark)) ≡ []
cut-lines [] chain seen mark n are h few = front-none chain seen mark (10 ∷ []) n h (no-more n mark few)
cut-lines (line ∷ lines) chain seen mark n are h few =
    let rest = lines_text lines ++ with_feed mark in
    let whole : lines_text (line ∷ lines) ++ with_feed mark ≡ with_feed line ++ rest = append_assoc (with_feed line) (lines_text lines) (with_feed mark) in
    ap (λ b. whole_on chain seen (take n b)) whole
    ∙ cut-line chain seen line rest n (All-head IsPlain line lines are) (subst (λ b. n < length b) whole few)
    (λ m less. cut-lines lines chain (seen ++ with_feed line) mark m (All-tail IsPlain line lines are) h less)

-- one batch is cut
cut-batch : (chain : Chain) (text : List ℕ) (n : ℕ) → IsBatch text → n < length (batch_text chain text) → whole_on chain [] (take n (batch_text chain text)) ≡ []
unfolding batch_text
cut-batch chain text n is few =
    let mark = mark_line chain text in
    ap (λ t. whole_on chain [] (take n (t ++ with_feed mark))) is.whole
    ∙ cut-lines is.lines chain [] mark n is.are_plain (unended-mark chain text) (subst (λ t. n < length (t ++ with_feed mark)) is.whole few)

-- the first of these batches
abbrev IsFrontOf : List (List ℕ) → List (List ℕ) → Type 0
IsFrontOf found texts = (k : ℕ) × (found ≡ take k texts)

cut-first : (chain : Chain) (text : List ℕ) (texts : List (List ℕ)) (n : ℕ) → IsBatch text
    → ((m : ℕ) → IsFrontOf (whole_on (with_batch chain text) [] (take m (file_text (with_batch chain text) texts))) texts)
    → IsFrontOf (whole_on chain [] (take n (file_text chain (text ∷ texts)))) (text ∷ texts)
cut-first chain text texts n is onward = go (cases_lt n (length batch))
  where
    batch : List ℕ
    batch = batch_text chain text

    rest : List ℕ
    rest = file_text (with_batch chain text) texts

    short : n < length batch → n ≤ length batch
    short h = omega (arith, h)

    go : (n < length batch) ⊎ (length batch ≤ n) → IsFrontOf (whole_on chain [] (take n (batch ++ rest))) (text ∷ texts)
    go (inl h) = (0, ap (whole_on chain []) (take-append-le n batch rest (short h)) ∙ cut-batch chain text n is h)
    go (inr h) =
        let m = n - length batch in
        let more = onward m in
        (suc more.0, ap (whole_on chain []) (take-behind n batch rest h) ∙ batch-read chain text (take m rest) is ∙ ap (λ w. text ∷ w) more.1)

cut-batches : (texts : List (List ℕ)) (chain : Chain) (n : ℕ) → All IsBatch texts → IsFrontOf (whole_on chain [] (take n (file_text chain texts))) texts
unfolding whole_in lines_behind
cut-batches [] chain n are = (0, ap (whole_on chain []) (take-nil n))
cut-batches (text ∷ texts) chain n are =
    cut-first chain text texts n (All-head IsBatch text texts are) (λ m. cut-batches texts (with_batch chain text) m (All-tail IsBatch text texts are))

pub cut_unforged : (disk : Disk) (n : ℕ) → All IsBatch disk.loose → Unforged disk (take n (file_text (chain_after unmarked disk.durable) disk.loose))
cut_unforged disk n are =
    let front = cut-batches disk.loose (chain_after unmarked disk.durable) n are in
    record { count = front.0; appended = front.1 }
