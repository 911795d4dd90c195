-- The entries at the end of a text, a line more at a time.
use Rattle.std.proofs.Common.{◌≡◌, ℕ, ◌+◌, ◌-◌, ◌<◌, ◌≤◌, ◌==◌, Bool, true, false, List, [], ◌∷◌, ◌++◌, length, take, drop, cond, refl, ap, ap₂, sym, subst, ◌∙◌, append_assoc, arith}
use Rattle.std.proofs.lemmas.List.Elements.{All-nil}
use Rattle.std.proofs.lemmas.List.{drop-drop, length-append, length-drop, length-take-le, take-append-drop, take_all}
use Rattle.std.proofs.Math.Seq.{take-append-add, take-append_seam}
use Rattle.std.proofs.Math.ListN.{drop_of_length-le}
use Rattle.shm_batches.proofs.JournalLemmas.{line-first, none-ends}
use Rattle.shm_batches.specs.Chain.{begins_as_entry, entries_at_end, entries_from}
use Rattle.shm_journal.specs.Found.{Lines, lines_of}
use Rattle.shm_journal.specs.LinesOf.{Unended}

abbrev pub kept : List ℕ → ℕ → ℕ → List ℕ
kept text from at = take (at - from) (drop from text)

-- what was kept of the lines before this place, after so many of them
pub record Entered (text : List ℕ) (from at count : ℕ) : Type 0 where
  pub within : at ≤ length text
  pub order : from ≤ at
  pub many : count ≤ at
  pub onward : entries_at_end text ≡ entries_from (kept text from at) (lines_of (drop at text)).whole

pub entered-none : (text : List ℕ) → Entered text 0 0 0
entered-none text = record { within = omega arith; order = omega arith; many = omega arith; onward = refl }

-- no line is left
pub entered-end : (text : List ℕ) (from at count : ℕ) → Entered text from at count → Unended (drop at text) → kept text from at ≡ entries_at_end text
unfolding entries_from
entered-end text from at count e h = sym (e.onward ∙ ap (entries_from (kept text from at)) (none-ends (drop at text) h))

abbrev next_text : Bool → List ℕ → List ℕ → List ℕ
next_text entry text line = cond entry (text ++ (line ++ 10 ∷ [])) []

line-entered : (text line rest : List ℕ) → Unended line → entries_from text (lines_of (line ++ 10 ∷ rest)).whole ≡ entries_from (next_text (begins_as_entry line) text line) (lines_of rest).whole
unfolding entries_from
line-entered text line rest h =
    ap (λ (l : Lines). entries_from text l.whole) (line-first line rest h) ∙ go (begins_as_entry line)
  where
    go : (b : Bool) → cond b (entries_from (text ++ (line ++ 10 ∷ [])) (lines_of rest).whole) (entries_from [] (lines_of rest).whole) ≡ entries_from (next_text b text line) (lines_of rest).whole
    go true = refl
    go false = refl

-- a line more of what is kept
kept-more : (text : List ℕ) (from at len : ℕ) → from ≤ at → at ≤ length text → len < length (drop at text)
    → drop at text ≡ take len (drop at text) ++ 10 ∷ drop (len + 1) (drop at text)
    → kept text from (at + (len + 1)) ≡ kept text from at ++ (take len (drop at text) ++ 10 ∷ [])
kept-more text from at len o w l cut =
    let m = at - from in
    let xs = drop from text in
    let line = take len (drop at text) in
    let here : from + m ≡ at = omega (arith, o) in
    let there : drop m xs ≡ drop at text = drop-drop m from text ∙ ap (λ n. drop n text) here in
    let long : length xs ≡ length text - from = length-drop from text in
    let front : length (take m xs) ≡ m = length-take-le m xs (omega (arith, long, o, w)) in
    let n : (at + (len + 1)) - from ≡ length (take m xs) + (len + 1) = omega (arith, o, front) in
    let whole : xs ≡ take m xs ++ drop at text = sym (take-append-drop m xs) ∙ ap (λ d. take m xs ++ d) there in
    let few : length line ≡ len = length-take-le len (drop at text) (omega (arith, l)) in
    let fed : length (line ++ 10 ∷ []) ≡ len + 1 = let a = length-append line (10 ∷ []) in omega (arith, a, few) in
    let rest = drop (len + 1) (drop at text) in
    let end : take (len + 1) (drop at text) ≡ line ++ 10 ∷ [] =
    ap₂ take (sym fed) (cut ∙ sym (append_assoc line (10 ∷ []) rest)) ∙ take-append_seam (line ++ 10 ∷ []) rest in
    ap₂ take n whole ∙ take-append-add (take m xs) (drop at text) (len + 1) ∙ ap (λ t. take m xs ++ t) end

kept-none : (text : List ℕ) (at : ℕ) → kept text at at ≡ []
kept-none text at = ap (λ n. take n (drop at text)) (let z : at - at ≡ 0 = omega arith in z)

entered-on : (text : List ℕ) (from at count len : ℕ) → (e : Entered text from at count) → len < length (drop at text)
    → drop at text ≡ take len (drop at text) ++ 10 ∷ drop (len + 1) (drop at text) → Unended (take len (drop at text))
    → entries_at_end text ≡ entries_from (next_text (begins_as_entry (take len (drop at text))) (kept text from at) (take len (drop at text))) (lines_of (drop (at + (len + 1)) text)).whole
entered-on text from at count len e l cut unended =
    let line = take len (drop at text) in
    let rest = drop (len + 1) (drop at text) in
    e.onward
    ∙ ap (λ b. entries_from (kept text from at) (lines_of b).whole) cut
    ∙ line-entered (kept text from at) line rest unended
    ∙ ap (λ b. entries_from (next_text (begins_as_entry line) (kept text from at) line) (lines_of b).whole) (drop-drop (len + 1) at text)

within-more : (text : List ℕ) (at len : ℕ) → at ≤ length text → len < length (drop at text) → at + (len + 1) ≤ length text
within-more text at len w l = let d = length-drop at text in omega (arith, d, l, w)

-- the line is an entry
pub entered-entry : (text : List ℕ) (from at count len : ℕ) → Entered text from at count → len < length (drop at text)
    → drop at text ≡ take len (drop at text) ++ 10 ∷ drop (len + 1) (drop at text) → Unended (take len (drop at text))
    → begins_as_entry (take len (drop at text)) ≡ true → Entered text from (at + (len + 1)) (count + 1)
entered-entry text from at count len e l cut unended is =
    let line = take len (drop at text) in
    record {
      within = within-more text at len e.within l;
      order = omega (arith, e.order);
      many = omega (arith, e.many);
      onward = entered-on text from at count len e l cut unended
          ∙ ap (λ t. entries_from t (lines_of (drop (at + (len + 1)) text)).whole)
          (ap (λ b. next_text b (kept text from at) line) is ∙ sym (kept-more text from at len e.order e.within l cut));
    }

-- it is none
pub entered-other : (text : List ℕ) (from at count len : ℕ) → Entered text from at count → len < length (drop at text)
    → drop at text ≡ take len (drop at text) ++ 10 ∷ drop (len + 1) (drop at text) → Unended (take len (drop at text))
    → begins_as_entry (take len (drop at text)) ≡ false → Entered text (at + (len + 1)) (at + (len + 1)) (count + 1)
entered-other text from at count len e l cut unended other =
    let line = take len (drop at text) in
    record {
      within = within-more text at len e.within l;
      order = omega arith;
      many = omega (arith, e.many);
      onward = entered-on text from at count len e l cut unended
          ∙ ap (λ t. entries_from t (lines_of (drop (at + (len + 1)) text)).whole)
          (ap (λ b. next_text b (kept text from at) line) other ∙ sym (kept-none text (at + (len + 1))));
    }

-- after as many lines as there are bytes none is left
pub entered-all : (text : List ℕ) (from at count : ℕ) → Entered text from at count → length text ≤ count → Unended (drop at text)
entered-all text from at count e h = subst Unended (sym (drop_of_length-le text (omega (arith, h, e.many)))) (All-nil (λ byte. (byte == 10) ≡ false))

-- as the function has it: the bytes from there on, and those of the line
pub rest-of : (text : List ℕ) (at : ℕ) → take (length text - at) (drop at text) ≡ drop at text
rest-of text at = take_all (length text - at) (drop at text) (let d = length-drop at text in omega (arith, d))

pub entered-next : (text rest line : List ℕ) (from at count len next : ℕ) → Entered text from at count → rest ≡ take (length text - at) (drop at text)
    → len < length rest → rest ≡ take len rest ++ 10 ∷ drop (len + 1) rest → Unended (take len rest) → (is : Bool) → line ≡ take len rest → is ≡ begins_as_entry line
    → next ≡ cond is from (at + (len + 1)) → Entered text next (at + (len + 1)) (count + 1)
entered-next text rest line from at count len next e r l cut unended true same is n =
    let s : rest ≡ drop at text = r ∙ rest-of text at in
    let k : begins_as_entry (take len (drop at text)) ≡ true = ap (λ t. begins_as_entry (take len t)) (sym s) ∙ ap begins_as_entry (sym same) ∙ sym is in
    subst (λ x. Entered text x (at + (len + 1)) (count + 1)) (sym n)
    (entered-entry text from at count len e (subst (λ t. len < length t) s l) (subst (λ t. t ≡ take len t ++ 10 ∷ drop (len + 1) t) s cut) (subst (λ t. Unended (take len t)) s unended) k)
entered-next text rest line from at count len next e r l cut unended false same is n =
    let s : rest ≡ drop at text = r ∙ rest-of text at in
    let k : begins_as_entry (take len (drop at text)) ≡ false = ap (λ t. begins_as_entry (take len t)) (sym s) ∙ ap begins_as_entry (sym same) ∙ sym is in
    subst (λ x. Entered text x (at + (len + 1)) (count + 1)) (sym n)
    (entered-other text from at count len e (subst (λ t. len < length t) s l) (subst (λ t. t ≡ take len t ++ 10 ∷ drop (len + 1) t) s cut) (subst (λ t. Unended (take len t)) s unended) k)

pub entered-last : (text : List ℕ) (from at count : ℕ) → Entered text from at count → Unended (take (length text - at) (drop at text)) → kept text from at ≡ entries_at_end text
entered-last text from at count e h = entered-end text from at count e (subst Unended (rest-of text at) h)

pub entered-whole : (text : List ℕ) (from at count : ℕ) → Entered text from at count → length text ≤ count → kept text from at ≡ entries_at_end text
entered-whole text from at count e h = entered-end text from at count e (entered-all text from at count e h)
