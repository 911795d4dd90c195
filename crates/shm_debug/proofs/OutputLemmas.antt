-- The output lines of a script, one by one; what a load is told there was stored last.
use Rattle.std.proofs.Common.{◌≡◌, ◌≤◌, ◌+◌, ◌⊎◌, inl, inr, ℕ, zero, suc, List, [], ◌∷◌, ◌++◌, codes, Option, None, Some, Result, Ok, Err, ap, arith, length, refl, slice_get, subst, sym, take, ◌∙◌}
use Rattle.std.specs.List.{concat}
use Rattle.std.specs.Fmt.{decimal}
use Rattle.std.proofs.Math.Seq.{take-length}
use Rattle.std.proofs.lemmas.List.{append_cancel_left, append_cancel_right, length-take-le, take_all}
use Rattle.shm_model.specs.declared.event.Event.TheVariants.{Load}
use Rattle.shm_lines.specs.declared.script_line.Line.{Line}
use Rattle.shm_lines.specs.declared.script_line.Line.TheVariants.{Event as EventLine}
use Rattle.shm_debug.specs.Standing.{Standing}
use Rattle.shm_text.specs.Text.{line_text}
use Rattle.shm_debug.specs.Promise.{AlwaysTellsLast, TellsLast}
use Rattle.shm_debug.specs.Replay.{Ends}
use Rattle.shm_debug.specs.Said.{next, said, said_to_event, standing_after}
use Rattle.shm_debug.specs.Script.{Script}
use Rattle.shm_debug.specs.Output.{text_from, text_of}
use Rattle.shm_debug.specs.Told.{IsOutput, IsWholeOutput, SaysLast, ToldLast}
use Rattle.shm_debug.specs.declared.script_summary_and_error.Summary.{Summary}
use Rattle.shm_debug.specs.declared.script_summary_and_error.DebugFault.{DebugFault}
use Rattle.shm_debug.specs.declared.script_summary_and_error.DebugFault.TheVariants.{OutOfMemory, BadLine, LineTooLong, TooManyLines, ReadFault, WriteFault}

-- the output line of each line, from this number on
abbrev outputs : ℕ → Option Standing → List Line → List (List ℕ)
outputs number s [] = []
outputs number s (line ∷ lines) = line_text number (said s line) ∷ outputs (number + 1) (next s line) lines

outputs-joined : (number : ℕ) (s : Option Standing) (lines : List Line) (n : ℕ) → text_from number s (take n lines) ≡ concat (take n (outputs number s lines))
outputs-joined number s lines zero = refl
outputs-joined number s [] (suc n) = refl
outputs-joined number s (line ∷ lines) (suc n) = ap (λ l. line_text number (said s line) ++ l) (outputs-joined (number + 1) (next s line) lines n)

outputs-length : (number : ℕ) (s : Option Standing) (lines : List Line) → length (outputs number s lines) ≡ length lines
outputs-length number s [] = refl
outputs-length number s (line ∷ lines) = omega (arith, outputs-length (number + 1) (next s line) lines)

output-at : (number : ℕ) (s : Option Standing) (lines : List Line) (n : ℕ) (line : Line) (output : List ℕ) → slice_get lines n ≡ Some line
    → slice_get (outputs number s lines) n ≡ Some output → output ≡ line_text (number + n) (said (standing_after s (take n lines)) line)
output-at number s [] n line output h k = absurd (cc)
output-at number s (x ∷ xs) zero line output h k =
    let here : x ≡ line = cc in
    let told : line_text number (said s x) ≡ output = cc in
    let same : number ≡ number + 0 = omega arith in
    sym told ∙ ap (λ l. line_text number (said s l)) here ∙ ap (λ m. line_text m (said s line)) same
output-at number s (x ∷ xs) (suc n) line output h k =
    let same : (number + 1) + n ≡ number + suc n = omega arith in
    output-at (number + 1) (next s x) xs n line output h k ∙ ap (λ m. line_text m (said (standing_after (next s x) (take n xs)) line)) same

get-take : (n : ℕ) (xs : List (List ℕ)) (i : ℕ) (x : List ℕ) → slice_get (take n xs) i ≡ Some x → slice_get xs i ≡ Some x
get-take zero xs i x h = absurd (cc)
get-take (suc n) [] i x h = absurd (cc)
get-take (suc n) (y ∷ ys) zero x h = h
get-take (suc n) (y ∷ ys) (suc i) x h = get-take n ys i x h

-- what an output line says is in it as it was said
line-says : (number : ℕ) (a b : List ℕ) → line_text number a ≡ line_text number b → a ≡ b
line-says number a b e =
    append_cancel_right a b (codes "\n")
    (append_cancel_left (codes " ") (a ++ codes "\n") (b ++ codes "\n")
    (append_cancel_left (decimal number) (codes " " ++ (a ++ codes "\n")) (codes " " ++ (b ++ codes "\n")) e))

says-last : (number : ℕ) (s : Option Standing) (line : Line) (output : List ℕ) → output ≡ line_text number (said s line) → TellsLast s line → SaysLast number s line output
says-last number (Some s) (EventLine (Load site a offset)) output e tells = λ rest is.
    tells rest (line-says number (said_to_event s (Load site a offset)) (codes "byte " ++ rest) (sym e ∙ is))
says-last number _ _ output e tells = tt

is-output : (lines : List Line) → AlwaysTellsLast lines → (n : ℕ) → n ≤ length lines → IsOutput lines n (text_of (take n lines))
is-output lines last n within = record {
  outputs = take n (outputs 1 None lines);
  joined = outputs-joined 1 None lines n;
  counted = length-take-le n (outputs 1 None lines) (omega (arith, outputs-length 1 None lines, within));
  within = within;
  each = λ i line output there told.
      let number : 1 + i ≡ i + 1 = omega arith in
      let before = standing_after None (take i lines) in
      let tells : output ≡ line_text (i + 1) (said (standing_after None (take i lines)) line) =
      output-at 1 None lines i line output there (get-take n (outputs 1 None lines) i output told) ∙ ap (λ m. line_text m (said before line)) number in
      record { tells = tells; last = says-last (i + 1) before line output tells (last i line there) };
}

whole-output : (script : Script) (text : List ℕ) → AlwaysTellsLast script.lines → text ≡ text_of script.lines → IsWholeOutput script text
whole-output script text last e =
    let all : text_of (take (length script.lines) script.lines) ≡ text = ap text_of (take-length script.lines) ∙ sym e in
    subst (IsOutput script.lines (length script.lines)) all (is-output script.lines last (length script.lines) (omega arith))

within-or-past : (n m : ℕ) → (n ≤ m) ⊎ (m ≤ n)
within-or-past zero m = inl (omega arith)
within-or-past (suc n) zero = inr (omega arith)
within-or-past (suc n) (suc m) = elim (within-or-past n m) [ inl h ↦ inl (omega (arith, h)) | inr h ↦ inr (omega (arith, h)) ]

first-output : (script : Script) (text : List ℕ) (n : ℕ) → AlwaysTellsLast script.lines → text ≡ text_of (take n script.lines) → (count : ℕ) × IsOutput script.lines count text
first-output script text n last e = elim (within-or-past n (length script.lines)) [
  | inl h ↦ (n, subst (IsOutput script.lines n) (sym e) (is-output script.lines last n h))
  | inr h ↦ (length script.lines, whole-output script text last (e ∙ ap text_of (take_all n script.lines h)))
]

pub told-last : (script : Script) (result : Result Summary DebugFault) (text : List ℕ) → AlwaysTellsLast script.lines → Ends script result text → ToldLast script result text
told-last script (Ok summary) text last e = whole-output script text last e.1
told-last script (Err OutOfMemory) text last e = first-output script text e.0 last e.1
told-last script (Err ReadFault) text last e = first-output script text e.0 last e.1
told-last script (Err WriteFault) text last e = (e.0, whole-output script (text ++ e.0) last (sym e.1))
told-last script (Err (BadLine n)) text last e = whole-output script text last e.1
told-last script (Err (LineTooLong n)) text last e = whole-output script text last e.1
told-last script (Err TooManyLines) text last e = whole-output script text last e.1
