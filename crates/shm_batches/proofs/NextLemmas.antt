-- What a crash leaves in batches is what the next life begins with.
use Rattle.std.proofs.Common.{◌≡◌, ◌⊎◌, ℕ, ◌+◌, List, [], ◌∷◌, ◌++◌, inl, inr, length, take, refl, ap, ap₂, sym, subst, ◌∙◌, arith}
use Rattle.std.specs.List.{All, concat}
use Rattle.std.proofs.lemmas.List.{length-append, take_all}
use Rattle.std.proofs.lemmas.List.Elements.{All-append, All-head, All-tail}
use Rattle.shm_process.specs.Recorded.{Event}
use Rattle.shm_journal.proofs.Leading.{counts-line}
use Rattle.shm_journal.specs.Found.{bytes_of_lines, lines_behind, lines_of}
use Rattle.shm_journal.specs.Lines.{Header}
use Rattle.shm_journal.specs.Lives.{FindsLives, IsJournal, LeavesFront}
use Rattle.shm_batches.proofs.WholeLemmas.{file_begins, lines_both, none_batch}
use Rattle.shm_batches.specs.Whole.{whole_batches, whole_text}
use Rattle.shm_batches.specs.Written.{IsBatch, IsPlain, lines_text}

pub file_batches : (file : List ℕ) → All IsBatch (whole_batches file)
file_batches file = (file_begins file).are

-- batches, one behind the other, are one
one-batch : (texts : List (List ℕ)) → All IsBatch texts → IsBatch (concat texts)
one-batch [] are = none_batch
one-batch (text ∷ texts) are =
    let first = All-head IsBatch text texts are in
    let rest = one-batch texts (All-tail IsBatch text texts are) in
    record {
      lines = first.lines ++ rest.lines;
      are_plain = All-append IsPlain first.lines rest.lines first.are_plain rest.are_plain;
      whole = ap₂ (λ a b. a ++ b) first.whole rest.whole ∙ sym (lines_both first.lines rest.lines);
    }

abbrev counted : List ℕ → ℕ
counted bytes = bytes_of_lines (lines_of bytes).whole

with-line : (line rest : List ℕ) → length line + 1 + length rest ≡ length ((line ++ 10 ∷ []) ++ rest)
with-line line rest = omega (arith, length-append line (10 ∷ []), length-append (line ++ 10 ∷ []) rest)

lines-counted : (lines : List (List ℕ)) → All IsPlain lines → counted (lines_text lines) ≡ length (lines_text lines)
unfolding lines_behind
lines-counted [] are = refl
lines-counted (line ∷ lines) are =
    counts-line line (lines_text lines) (All-head IsPlain line lines are).unended
    ∙ ap (λ n. length line + 1 + n) (lines-counted lines (All-tail IsPlain line lines are))
    ∙ with-line line (lines_text lines)

-- nothing of it is torn
all-counted : (file : List ℕ) → counted (whole_text file) ≡ length (whole_text file)
all-counted file =
    let b = one-batch (whole_batches file) (file_batches file) in
    ap counted b.whole ∙ lines-counted b.lines b.are_plain ∙ ap length (sym b.whole)

none-long : (bytes : List ℕ) → length bytes ≡ 0 → bytes ≡ []
none-long [] e = refl
none-long (byte ∷ bytes) e = absurd (omega (arith, e))

pub next_goes_on : (header : Header) (lives : List (List Event)) (journal file : List ℕ) → FindsLives header lives journal (whole_text file)
    → (whole_text file ≡ journal) × IsJournal header lives (whole_text file)
next_goes_on header lives journal file finds =
    let text = whole_text file in
    let same : text ≡ journal = sym (take_all (length text) text (omega arith)) ∙ ap (λ n. take n text) (sym (all-counted file)) ∙ finds.whole in
    (same, subst (IsJournal header lives) (sym same) finds.is)

pub next_begins : (header : Header) (durable file : List ℕ) → LeavesFront header durable (whole_text file)
    → (whole_text file ≡ []) ⊎ IsJournal header [] (whole_text file)
next_begins header durable file left = go left.whole
  where
    go : (counted (whole_text file) ≡ 0) ⊎ IsJournal header [] (whole_text file) → (whole_text file ≡ []) ⊎ IsJournal header [] (whole_text file)
    go (inl none) = inl (none-long (whole_text file) (sym (all-counted file) ∙ none))
    go (inr all) = inr all
