-- The words of an entry: what is read is spelled so, and what is spelled so is read.
use Rattle.std.proofs.Common.{◌≡◌, ℕ, ◌==◌, List, [], ◌∷◌, ◌++◌, Option, None, Some, cond, length, refl, sym, ap, subst, ◌∙◌, arith}
use Rattle.std.specs.Prelude.{codes}
use Rattle.std.specs.Fmt.{decimal}
use Rattle.std.specs.List.{join_with_byte}
use Rattle.std.specs.Str.{bytes_eq}
use Rattle.std.proofs.lemmas.Slice.Eq.{bytes_eq-Decides}
use Rattle.std.proofs.lemmas.List.Splits.{join_with_byte-slice_split, length-slice_split, slice_split_at}
use Rattle.shm_lines.proofs.NumberWords.{wide}
use Rattle.shm_lines.proofs.ReadLemmas.{onto}
use Rattle.shm_lines.proofs.StepLemmas.{NoBlank-test, cond-some, some-is, step}
use Rattle.shm_lines.specs.Words.{is_end, words_of, IsWide, wide_of}
use Rattle.shm_wire.proofs.Reading.{took, took_verb}
use Rattle.shm_wire.proofs.LineWords.{line-is_read, line-is_spelled}
use Rattle.shm_wire.specs.Line.{Line, line_text, read_line}
use Rattle.shm_process.specs.Cause.{Cause, OfLine, OfRestart, IsCause, cause_text}
use Rattle.shm_process.specs.Recorded.{Entry, IsEntry, entry_line}
use Rattle.shm_journal.specs.Lines.{Written, or_restart, read_cause, read_entry, read_written, written_after}

abbrev written_line : Written → List ℕ
written_line entry = codes "step " ++ (decimal entry.clock ++ 32 ∷ entry.text)

-- a line has a word
some_word : (line : List ℕ) → words_of line ≡ [] → {A : Type 0} (x y : A) → x ≡ y
some_word line e x y = let n = length-slice_split (λ b. b == 32) line in let none : length (words_of line) ≡ 0 = ap length e in absurd (omega (arith, n, none))

entry_with : ℕ → List ℕ → Option Written
entry_with clock line = Some (record { clock = clock; text = line })

abbrev unless_ended : ℕ → List (List ℕ) → Option Written
unless_ended clock words = cond (is_end words) None (Some (record { clock = clock; text = join_with_byte 32 words }))

-- what stands after the clock is the line that made the step
made_by-is : (clock : ℕ) (made_by : List ℕ) (words : List (List ℕ)) → words ≡ words_of made_by → unless_ended clock words ≡ entry_with clock made_by
unfolding entry_with
made_by-is clock made_by [] e = some_word made_by (sym e) None (entry_with clock made_by)
made_by-is clock made_by (word ∷ words) e =
    ap (entry_with clock) (ap (join_with_byte 32) e ∙ join_with_byte-slice_split 32 made_by)

after-is : (clock : ℕ) (word made_by : List ℕ) (words : List (List ℕ)) → wide_of word ≡ Some clock → words ≡ words_of made_by
    → written_after (word ∷ words) ≡ entry_with clock made_by
after-is clock word made_by words number e = rw number (made_by-is clock made_by words e)

-- the words of an entry, one after another
pub entry-read : (clock : ℕ) (line verb rest word made_by : List ℕ) → words_of line ≡ verb ∷ words_of rest → verb ≡ codes "step" → words_of rest ≡ word ∷ words_of made_by
    → wide_of word ≡ Some clock → read_written line ≡ Some (record { clock = clock; text = made_by })
unfolding entry_with
entry-read clock line verb rest word made_by first step second number =
    rw (first ∙ ap (λ v. v ∷ words_of rest) step ∙ ap (λ ws. codes "step" ∷ ws) second) (after-is clock word made_by (words_of made_by) number refl)

-- an entry that was read
record Last (clock : ℕ) (words : List (List ℕ)) (entry : Written) : Type 0 where
  pub first : List ℕ
  pub others : List (List ℕ)
  pub are : words ≡ first ∷ others
  pub is : let made : Written = record { clock = clock; text = join_with_byte 32 (first ∷ others) } in made ≡ entry

last : (clock : ℕ) (words : List (List ℕ)) (entry : Written) → unless_ended clock words ≡ Some entry → Last clock words entry
last clock [] entry h = absurd (cc)
last clock (word ∷ words) entry h = record { first = word; others = words; are = refl; is = some-is _ entry h }

written-is_spelled : (line : List ℕ) (entry : Written) → read_written line ≡ Some entry → IsWide entry.clock × (line ≡ written_line entry)
written-is_spelled line entry h =
    let v = took_verb (codes "step") written_after (words_of line) entry h in
    let c = took wide v.others _ entry v.gives in
    let l = last c.value c.others entry c.gives in
    let words : words_of line ≡ codes "step" ∷ decimal c.value ∷ l.first ∷ l.others = onto v.are (onto c.are l.are) in
    subst (λ e. IsWide e.clock × (line ≡ written_line e)) l.is (c.is, sym (join_with_byte-slice_split 32 line) ∙ ap (join_with_byte 32) words)

written-is_read : (entry : Written) → IsWide entry.clock → read_written (written_line entry) ≡ Some entry
written-is_read entry h =
    let rest = decimal entry.clock ++ 32 ∷ entry.text in
    entry-read entry.clock (written_line entry) (codes "step") rest (decimal entry.clock) entry.text
    (slice_split_at (λ b. b == 32) (codes "step") 32 rest (NoBlank-test (codes "step") refl) refl) refl
    (slice_split_at (λ b. b == 32) (decimal entry.clock) 32 entry.text (wide.unparted entry.clock h) refl) (wide.prints entry.clock h)

-- ---- what made the step

cause-in : (text : List ℕ) (read : Option Line) (cause : Cause) → read_line text ≡ read → or_restart text read ≡ Some cause
    → IsCause cause × (text ≡ cause_text cause)
cause-in text (Some line) cause e h = subst (λ c. IsCause c × (text ≡ cause_text c)) (some-is (OfLine line) cause h) (line-is_spelled text line e)
cause-in text None cause e h =
    let c = cond-some (bytes_eq text (codes "restart")) OfRestart cause h in
    subst (λ c. IsCause c × (text ≡ cause_text c)) c.1 (tt, (bytes_eq-Decides text (codes "restart")).0 c.0)

cause-is_read : (cause : Cause) → IsCause cause → read_cause (cause_text cause) ≡ Some cause
cause-is_read (OfLine line) h = ap (or_restart (line_text line)) (line-is_read line h)
cause-is_read OfRestart h = refl

-- ---- both

pub entry-is_spelled : (line : List ℕ) (entry : Entry) → read_entry line ≡ Some entry → IsEntry entry × (line ≡ entry_line entry)
entry-is_spelled line entry h =
    let w = step (read_written line) _ entry h in
    let c = step (read_cause w.value.text) _ entry w.gives in
    let clock = written-is_spelled line w.value w.gave in
    let cause = cause-in w.value.text (read_line w.value.text) c.value refl c.gave in
    let made : Entry = record { clock = w.value.clock; cause = c.value } in
    subst (λ e. IsEntry e × (line ≡ entry_line e)) (some-is made entry c.gives)
    ((clock.0, cause.0), clock.1 ∙ ap (λ t. codes "step " ++ (decimal w.value.clock ++ 32 ∷ t)) cause.1)

pub entry-is_read : (entry : Entry) → IsEntry entry → read_entry (entry_line entry) ≡ Some entry
entry-is_read entry h =
    rw (written-is_read (record { clock = entry.clock; text = cause_text entry.cause }) h.0, cause-is_read entry.cause h.1) refl
