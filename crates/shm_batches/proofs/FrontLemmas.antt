-- The front of a journal's file, a line more at a time.
use Rattle.std.proofs.Common.{◌≡◌, ℕ, ◌+◌, ◌||◌, ◌==◌, Bool, true, false, List, [], ◌∷◌, ◌++◌, length, take, drop, cond, refl, ap, ap₂, sym, subst, ◌∙◌, append_assoc, append-nil, arith}
use Rattle.std.specs.Prelude.{Option, None, Some, IfSome}
use Rattle.std.specs.Io.KnownBytes.{Consumes, IsAtEnd}
use Rattle.std.specs.Str.{bytes_eq}
use Rattle.std.proofs.KnownBytes.{Consumes-nil, Consumes-trans}
use Rattle.std.proofs.lemmas.List.{length-append, take-append-drop}
use Rattle.std.proofs.lemmas.List.Elements.{All-head, All-nil, All-tail}
use Rattle.std.proofs.lemmas.Slice.Eq.{bytes_eq-Decides}
use Rattle.std.proofs.Math.Seq.{drop-append_seam, take-append_seam}
use Rattle.shm_batches.proofs.JournalLemmas.{IsNoFeed, line-first, none-ends}
use Rattle.shm_batches.proofs.UnmarkedLemmas.{ended-line, front_of}
use Rattle.shm_batches.specs.Chain.{Chain, batch_text, begins_as_mark, chain_after, file_text, is_marked, mark_line, unmarked, with_batch}
use Rattle.shm_batches.specs.ChainOf.{chain_of}
use Rattle.shm_batches.specs.Extent.{Breaks, IsExtent, IsExtentKnown, IsFound, Marks, Measured, Seeks, extent_of, marked_on}
use Rattle.shm_journal.specs.Found.{Lines, lines_of}
use Rattle.shm_journal.specs.LinesOf.{Unended}
use Rattle.shm_batches.specs.Section.{ReadsLine, ReadsMark, ReadsPart, lines_in, open_in}
use Rattle.shm_batches.specs.UnmarkedLine.{is_ended}
use Rattle.shm_batches.specs.Whole.{marked_in, whole_batches, whole_in, whole_on}
use Rattle.shm_batches.specs.declared.chain.Chain.{Chain as CodeChain}
use Rattle.shm_batches.specs.declared.front.Front.{Front}
use Rattle.shm_batches.specs.declared.section.Section.{Section}

-- ---- one line

abbrev with_feed : List ℕ → List ℕ
with_feed line = line ++ 10 ∷ []

pub first-line : (line more : List ℕ) → Unended line → (lines_of (with_feed line ++ more)).whole ≡ line ∷ (lines_of more).whole
first-line line more h =
    ap (λ b. (lines_of b).whole) (append_assoc line (10 ∷ []) more) ∙ ap (λ (l : Lines). l.whole) (line-first line more h)

abbrev pub whole_by : Bool → Bool → Chain → List ℕ → List ℕ → List (List ℕ) → List (List ℕ)
whole_by marks next chain text line lines =
    cond marks (cond next (text ∷ whole_in (with_batch chain text) [] lines) []) (whole_in chain (text ++ with_feed line) lines)

whole-step : (chain : Chain) (text line more : List ℕ) → Unended line
    → whole_on chain text (with_feed line ++ more) ≡ whole_by (begins_as_mark line) (bytes_eq line (mark_line chain text)) chain text line (lines_of more).whole
unfolding whole_in
whole-step chain text line more h = ap (whole_in chain text) (first-line line more h)

pub plain-step : (chain : Chain) (text line more : List ℕ) → Unended line → begins_as_mark line ≡ false
    → whole_on chain text (with_feed line ++ more) ≡ whole_on chain (text ++ with_feed line) more
plain-step chain text line more h plain =
    whole-step chain text line more h ∙ ap (λ b. whole_by b (bytes_eq line (mark_line chain text)) chain text line (lines_of more).whole) plain

pub mark-step : (chain : Chain) (text line more : List ℕ) → Unended line → begins_as_mark line ≡ true → bytes_eq line (mark_line chain text) ≡ true
    → whole_on chain text (with_feed line ++ more) ≡ text ∷ whole_on (with_batch chain text) [] more
mark-step chain text line more h mark next =
    whole-step chain text line more h ∙ ap₂ (λ b n. whole_by b n chain text line (lines_of more).whole) mark next

pub broken-step : (chain : Chain) (text line more : List ℕ) → Unended line → begins_as_mark line ≡ true → bytes_eq line (mark_line chain text) ≡ false
    → whole_on chain text (with_feed line ++ more) ≡ []
broken-step chain text line more h mark next =
    whole-step chain text line more h ∙ ap₂ (λ b n. whole_by b n chain text line (lines_of more).whole) mark next

pub none-step : (chain : Chain) (text open_line : List ℕ) → Unended open_line → whole_on chain text open_line ≡ []
unfolding whole_in
none-step chain text line h = ap (whole_in chain text) (none-ends line h)

abbrev marked_by : Bool → List ℕ → List ℕ → List (List ℕ) → Bool
marked_by marks text line lines = cond marks (is_marked text line || marked_in [] lines) (marked_in (text ++ with_feed line) lines)

marked-step : (text line more : List ℕ) → Unended line → marked_on text (with_feed line ++ more) ≡ marked_by (begins_as_mark line) text line (lines_of more).whole
unfolding marked_in
marked-step text line more h = ap (marked_in text) (first-line line more h)

plain-marked : (text line more : List ℕ) → Unended line → begins_as_mark line ≡ false → marked_on text (with_feed line ++ more) ≡ marked_on (text ++ with_feed line) more
plain-marked text line more h plain = marked-step text line more h ∙ ap (λ b. marked_by b text line (lines_of more).whole) plain

mark-marked : (text line more : List ℕ) → Unended line → begins_as_mark line ≡ true → marked_on text (with_feed line ++ more) ≡ (is_marked text line || marked_on [] more)
mark-marked text line more h mark = marked-step text line more h ∙ ap (λ b. marked_by b text line (lines_of more).whole) mark

none-marked : (text open_line : List ℕ) → Unended open_line → marked_on text open_line ≡ false
unfolding marked_in
none-marked text line h = ap (marked_in text) (none-ends line h)

-- ---- a section

parts : {A : Type 0} → (s : Section A) → lines_in s ++ open_in s ≡ s.text.items
parts s = take-append-drop s.at s.text.items

ended-feed : (front : List ℕ) → Unended (with_feed front) → ⊥
ended-feed [] h = absurd (let f : (10 == 10) ≡ false = All-head IsNoFeed 10 [] h in cc)
ended-feed (x ∷ front) h = ended-feed front (All-tail IsNoFeed x (with_feed front) h)

-- a text without a line feed isn't ended
pub not-ended : (line : List ℕ) → Unended line → is_ended line ≡ false
not-ended line h = go (is_ended line) refl
  where
    go : (b : Bool) → is_ended line ≡ b → b ≡ false
    go false e = refl
    go true e = absurd (ended-feed (front_of line) (subst Unended (ended-line line e) h))

none-open : {A : Type 0} → (s : Section A) → open_in s ≡ [] → Unended (open_in s)
none-open s e = subst Unended (sym e) (All-nil IsNoFeed)

-- the text has grown by what was read
line-text : {A : Type 0} → (s t : Section A) (bytes line : List ℕ) → open_in s ++ bytes ≡ with_feed line → lines_in t ≡ lines_in s ++ with_feed line → open_in t ≡ []
    → t.text.items ≡ s.text.items ++ bytes
line-text s t bytes line whole lines none =
    sym (parts t) ∙ ap₂ (λ l o. l ++ o) lines none ∙ append-nil (lines_in s ++ with_feed line)
    ∙ ap (λ w. lines_in s ++ w) (sym whole) ∙ sym (append_assoc (lines_in s) (open_in s) bytes) ∙ ap (λ p. p ++ bytes) (parts s)

open-text : {A : Type 0} → (s t : Section A) (bytes : List ℕ) → lines_in t ≡ lines_in s → open_in t ≡ open_in s ++ bytes → t.text.items ≡ s.text.items ++ bytes
open-text s t bytes lines more =
    sym (parts t) ∙ ap₂ (λ l o. l ++ o) lines more ∙ sym (append_assoc (lines_in s) (open_in s) bytes) ∙ ap (λ p. p ++ bytes) (parts s)

grown-more : {A : Type 0} → (s t : Section A) (bytes more : List ℕ) → t.text.items ≡ s.text.items ++ bytes → t.text.items ++ more ≡ s.text.items ++ (bytes ++ more)
grown-more s t bytes more e = ap (λ x. x ++ more) e ∙ append_assoc s.text.items bytes more

-- ---- a line more

-- what is taken where bytes were read behind what was
taken-more : (before r t : Option (List ℕ)) (front old new bytes : List ℕ) → Consumes before r (front ++ old) → Consumes r t bytes → new ≡ old ++ bytes → Consumes before t (front ++ new)
taken-more before r t front old new bytes was now e =
    subst (Consumes before t) (append_assoc front old bytes ∙ ap (λ n. front ++ n) (sym e)) (Consumes-trans before r t (front ++ old) bytes was now)

pub measured-line : {A : Type 0} → (f : Front A) (s : Section A) (before r t : Option (List ℕ)) → Measured f before r → ReadsLine f.section s r t
    → Measured (record { chain = f.chain; bytes = f.bytes; section = s }) before t × Unended (open_in s)
measured-line f s before r t m l =
    let text = line-text f.section s l.bytes l.line l.whole l.lines l.none in
    let old = f.section in
    let start : (more : List ℕ) → open_in old ++ (l.bytes ++ more) ≡ with_feed l.line ++ more =
    λ more. sym (append_assoc (open_in old) l.bytes more) ∙ ap (λ w. w ++ more) l.whole in
    let ends : (more : List ℕ) → lines_in s ≡ lines_in old ++ with_feed l.line = λ more. l.lines in
    let front = file_text unmarked m.texts in
    let chain = chain_after unmarked m.texts in (
      record {
        texts = m.texts;
        taken = taken-more before r t front old.text.items s.text.items l.bytes m.taken l.taken text;
        chain = m.chain;
        bytes = m.bytes;
        onward = λ more.
            ap (λ x. whole_on unmarked [] (front ++ x)) (grown-more old s l.bytes more text)
            ∙ m.onward (l.bytes ++ more)
            ∙ ap (λ w. m.texts ++ w)
            (
            ap (whole_on chain (lines_in old)) (start more)
            ∙ plain-step chain (lines_in old) l.line more l.unended l.plain
            ∙ ap₂ (λ x o. whole_on chain x (o ++ more)) (sym l.lines) (sym l.none)
            );
        quiet = λ more.
            ap (marked_on []) (grown-more old s l.bytes more text)
            ∙ m.quiet (l.bytes ++ more)
            ∙ ap (marked_on (lines_in old)) (start more)
            ∙ plain-marked (lines_in old) l.line more l.unended l.plain
            ∙ ap₂ (λ x o. marked_on x (o ++ more)) (sym l.lines) (sym l.none);
      },
      none-open s l.none,
    )

pub measured-part : {A : Type 0} → (f : Front A) (s : Section A) (before r t : Option (List ℕ)) → Measured f before r
    → (bytes : List ℕ) → Consumes r t bytes → lines_in s ≡ lines_in f.section → open_in s ≡ open_in f.section ++ bytes
    → Measured (record { chain = f.chain; bytes = f.bytes; section = s }) before t
measured-part f s before r t m bytes taken lines open_more =
    let old = f.section in
    let text = open-text old s bytes lines open_more in
    let front = file_text unmarked m.texts in
    let chain = chain_after unmarked m.texts in
    let again : (more : List ℕ) → open_in old ++ (bytes ++ more) ≡ open_in s ++ more =
    λ more. sym (append_assoc (open_in old) bytes more) ∙ ap (λ w. w ++ more) (sym open_more) in
    record {
      texts = m.texts;
      taken = taken-more before r t front old.text.items s.text.items bytes m.taken taken text;
      chain = m.chain;
      bytes = m.bytes;
      onward = λ more.
          ap (λ x. whole_on unmarked [] (front ++ x)) (grown-more old s bytes more text)
          ∙ m.onward (bytes ++ more)
          ∙ ap (λ w. m.texts ++ w) (ap₂ (whole_on chain) (sym lines) (again more));
      quiet = λ more.
          ap (marked_on []) (grown-more old s bytes more text) ∙ m.quiet (bytes ++ more) ∙ ap₂ marked_on (sym lines) (again more);
    }

-- ---- a mark

texts-more : (texts : List (List ℕ)) (chain : Chain) (text : List ℕ) → file_text chain (texts ++ text ∷ []) ≡ file_text chain texts ++ batch_text (chain_after chain texts) text
texts-more [] chain text = append-nil (batch_text chain text)
texts-more (first ∷ texts) chain text =
    ap (λ t. batch_text chain first ++ t) (texts-more texts (with_batch chain first) text)
    ∙ sym (append_assoc (batch_text chain first) (file_text (with_batch chain first) texts) (batch_text (chain_after (with_batch chain first) texts) text))

chain-more : (texts : List (List ℕ)) (chain : Chain) (text : List ℕ) → chain_after chain (texts ++ text ∷ []) ≡ with_batch (chain_after chain texts) text
chain-more [] chain text = refl
chain-more (first ∷ texts) chain text = chain-more texts (with_batch chain first) text

eq-lines : (xs ys : List ℕ) → bytes_eq xs ys ≡ true → xs ≡ ys
eq-lines xs ys h = grind (arith, bytes_eq-Decides)

-- the batch ends
pub measured-mark : {A : Type 0} → (f : Front A) (s : Section A) (chain : CodeChain) (bytes : ℕ) (before left : Option (List ℕ)) → (m : Marks f before left)
    → bytes_eq m.line (mark_line (chain_of f.chain) (lines_in f.section)) ≡ true → chain_of chain ≡ with_batch (chain_of f.chain) (lines_in f.section)
    → bytes ≡ f.bytes + length f.section.text.items → lines_in s ≡ [] → open_in s ≡ []
    → Measured (record { chain = chain; bytes = bytes; section = s }) before left × Unended (open_in s)
unfolding batch_text
measured-mark f s chain bytes before left m next after count lines none =
    let old = f.section in
    let texts = m.measured.texts in
    let front = file_text unmarked texts in
    let was = chain_after unmarked texts in
    let text = lines_in old in
    let line : m.line ≡ mark_line was text = eq-lines m.line (mark_line (chain_of f.chain) text) next ∙ ap (λ k. mark_line k text) m.measured.chain in
    let empty : s.text.items ≡ [] = sym (parts s) ∙ ap₂ (λ a b. a ++ b) lines none in
    let whole : old.text.items ≡ batch_text was text = sym (parts old) ∙ ap (λ o. text ++ o) (m.here ∙ ap with_feed line) in
    let file : file_text unmarked (texts ++ text ∷ []) ≡ front ++ old.text.items = texts-more texts unmarked text ∙ ap (λ b. front ++ b) (sym whole) in
    let again : (more : List ℕ) → file_text unmarked (texts ++ text ∷ []) ++ (s.text.items ++ more) ≡ front ++ (old.text.items ++ more) =
    λ more. ap₂ (λ a b. a ++ (b ++ more)) file empty ∙ append_assoc front old.text.items more in (
      record {
        texts = texts ++ text ∷ [];
        taken = subst (Consumes before left) (sym (ap₂ (λ a b. a ++ b) file empty ∙ append-nil (front ++ old.text.items))) m.measured.taken;
        chain = after ∙ ap (λ k. with_batch k text) m.measured.chain ∙ sym (chain-more texts unmarked text);
        bytes = let l = length-append front old.text.items in
            count ∙ ap (λ n. n + length old.text.items) m.measured.bytes ∙ sym l ∙ ap length (sym file);
        onward = λ more.
            ap (whole_on unmarked []) (again more)
            ∙ m.measured.onward more
            ∙ ap (λ w. texts ++ w)
            (
            ap (λ o. whole_on was text (o ++ more)) m.here
            ∙ mark-step was text m.line more m.unended m.mark (ap (λ k. bytes_eq m.line (mark_line k text)) (sym m.measured.chain) ∙ next)
            )
            ∙ sym (append_assoc texts (text ∷ []) (whole_on (with_batch was text) [] more))
            ∙ ap (λ w. (texts ++ text ∷ []) ++ w)
            (
            ap (λ k. whole_on k [] more) (sym (chain-more texts unmarked text))
            ∙ ap₂ (λ a b. whole_on (chain_after unmarked (texts ++ text ∷ [])) a (b ++ more)) (sym lines) (sym none)
            );
        quiet = λ more. ap (λ e. marked_on [] (e ++ more)) empty ∙ ap₂ (λ a b. marked_on a (b ++ more)) (sym lines) (sym none);
      },
      none-open s none,
    )

-- ---- ends

nothing-left : (before r : Option (List ℕ)) (bytes : List ℕ) → Consumes before r bytes → IsAtEnd r → IfSome before (λ known. bytes ≡ known)
nothing-left None r bytes taken end = tt
nothing-left (Some xs) None bytes taken end = absurd taken
nothing-left (Some xs) (Some ys) bytes taken end = sym (taken ∙ ap (λ y. bytes ++ y) end ∙ append-nil bytes)

known-left : (before r : Option (List ℕ)) (bytes rest : List ℕ) → Consumes before r bytes → IfSome r (λ known. rest ≡ known) → IfSome before (λ known. bytes ++ rest ≡ known)
known-left None r bytes rest taken is = tt
known-left (Some xs) None bytes rest taken is = absurd taken
known-left (Some xs) (Some ys) bytes rest taken is = ap (λ y. bytes ++ y) is ∙ sym taken

extent-of : {A : Type 0} → (f : Front A) (damaged : Bool) (file rest : List ℕ) (texts : List (List ℕ)) → file ≡ file_text unmarked texts ++ rest
    → whole_batches file ≡ texts → chain_of f.chain ≡ chain_after unmarked texts → f.bytes ≡ length (file_text unmarked texts) → damaged ≡ marked_on [] rest
    → IsExtent file (extent_of f damaged)
extent-of f damaged file rest texts is whole chain bytes marked =
    let front : file_text unmarked (whole_batches file) ≡ file_text unmarked texts = ap (file_text unmarked) whole in
    record {
      chain = chain ∙ ap (chain_after unmarked) (sym whole);
      bytes = bytes ∙ ap length (sym front);
      damaged = marked ∙ ap (marked_on []) (sym (drop-append_seam (file_text unmarked texts) rest))
          ∙ ap₂ (λ t b. marked_on [] (drop (length t) b)) (sym front) (sym is);
    }

-- no bytes are left
pub measured-end : {A : Type 0} → (f : Front A) (before r : Option (List ℕ)) → Measured f before r → IsAtEnd r → Unended (open_in f.section)
    → IsExtentKnown before (record { chain = f.chain; bytes = f.bytes; is_damaged = false })
measured-end f before r m end unended =
    let text = f.section.text.items in
    let front = file_text unmarked m.texts in
    let is_last : open_in f.section ++ [] ≡ open_in f.section = append-nil (open_in f.section) in
    let whole : whole_batches (front ++ text) ≡ m.texts =
    ap (λ t. whole_on unmarked [] (front ++ t)) (sym (append-nil text)) ∙ m.onward []
    ∙ ap (λ w. m.texts ++ w) (ap (whole_on (chain_after unmarked m.texts) (lines_in f.section)) is_last ∙ none-step (chain_after unmarked m.texts) (lines_in f.section) (open_in f.section) unended)
    ∙ append-nil m.texts in
    let none : marked_on [] text ≡ false =
    ap (marked_on []) (sym (append-nil text)) ∙ m.quiet [] ∙ ap (marked_on (lines_in f.section)) is_last ∙ none-marked (lines_in f.section) (open_in f.section) unended in (
      front ++ text,
      nothing-left before r (front ++ text) m.taken end,
      extent-of f false (front ++ text) text m.texts refl whole m.chain m.bytes (sym none),
    )

-- a mark is broken, and this is found of it and behind it
pub broken-extent : {A : Type 0} → (f : Front A) (before left : Option (List ℕ)) → (b : Breaks f before left) → (found : Bool) (rest : List ℕ) → IfSome left (λ known. rest ≡ known)
    → found ≡ (is_marked (lines_in f.section) b.line || marked_on [] rest) → IsExtentKnown before (extent_of f found)
broken-extent f before left b found rest known is =
    let m = b.measured in
    let text = f.section.text.items in
    let front = file_text unmarked m.texts in
    let file = (front ++ text) ++ rest in
    let cut : file ≡ front ++ (text ++ rest) = append_assoc front text rest in
    let was = chain_after unmarked m.texts in
    let whole : whole_batches file ≡ m.texts =
    ap (whole_on unmarked []) cut ∙ m.onward rest
    ∙ ap (λ w. m.texts ++ w)
    (
    ap (λ o. whole_on was (lines_in f.section) (o ++ rest)) b.here
    ∙ broken-step was (lines_in f.section) b.line rest b.unended b.mark (ap (λ k. bytes_eq b.line (mark_line k (lines_in f.section))) (sym m.chain) ∙ b.other)
    )
    ∙ append-nil m.texts in
    let marked : marked_on [] (text ++ rest) ≡ (is_marked (lines_in f.section) b.line || marked_on [] rest) =
    m.quiet rest ∙ ap (λ o. marked_on (lines_in f.section) (o ++ rest)) b.here ∙ mark-marked (lines_in f.section) b.line rest b.unended b.mark in (
      file,
      known-left before left (front ++ text) rest m.taken known,
      extent-of f found file (text ++ rest) m.texts cut whole m.chain m.bytes (is ∙ sym marked),
    )

-- ---- a mark that is sought

pub seeks-line : {A : Type 0} → (s t : Section A) (before r u : Option (List ℕ)) → Seeks s before r → ReadsLine s t r u → Seeks t before u
seeks-line s t before r u k l = record {
  bytes = k.bytes ++ l.bytes;
  taken = Consumes-trans before r u k.bytes l.bytes k.taken l.taken;
  onward = λ more.
      ap (marked_on []) (append_assoc k.bytes l.bytes more) ∙ k.onward (l.bytes ++ more)
      ∙ ap (marked_on (lines_in s)) (sym (append_assoc (open_in s) l.bytes more) ∙ ap (λ w. w ++ more) l.whole)
      ∙ plain-marked (lines_in s) l.line more l.unended l.plain
      ∙ ap₂ (λ x o. marked_on x (o ++ more)) (sym l.lines) (sym l.none);
  unended = none-open t l.none;
}

pub seeks-part : {A : Type 0} → (s t : Section A) (before r u : Option (List ℕ)) → Seeks s before r → ReadsPart s t r u → Seeks t before u
seeks-part s t before r u k l = record {
  bytes = k.bytes ++ l.bytes;
  taken = Consumes-trans before r u k.bytes l.bytes k.taken l.taken;
  onward = λ more.
      ap (marked_on []) (append_assoc k.bytes l.bytes more) ∙ k.onward (l.bytes ++ more)
      ∙ ap₂ marked_on (sym l.lines) (sym (append_assoc (open_in s) l.bytes more) ∙ ap (λ w. w ++ more) (sym l.more));
  unended = l.unended;
}

-- what the section's mark says, and what follows
seeks-mark : {A : Type 0} → (s : Section A) (before r u : Option (List ℕ)) → (k : Seeks s before r) → (bytes line more : List ℕ) → Unended line → open_in s ++ bytes ≡ with_feed line
    → begins_as_mark line ≡ true → marked_on [] ((k.bytes ++ bytes) ++ more) ≡ (is_marked (lines_in s) line || marked_on [] more)
seeks-mark s before r u k bytes line more h whole mark =
    ap (marked_on []) (append_assoc k.bytes bytes more) ∙ k.onward (bytes ++ more)
    ∙ ap (marked_on (lines_in s)) (sym (append_assoc (open_in s) bytes more) ∙ ap (λ w. w ++ more) whole)
    ∙ mark-marked (lines_in s) line more h mark

abbrev or_marked : Bool → List ℕ → Bool
or_marked found more = found || marked_on [] more

pub seeks-on : {A : Type 0} → (s t n : Section A) (before r u : Option (List ℕ)) → Seeks s before r → (l : ReadsMark s t r u) → is_marked (lines_in s) l.line ≡ false
    → lines_in n ≡ [] → open_in n ≡ [] → Seeks n before u
seeks-on s t n before r u k l other lines none = record {
  bytes = k.bytes ++ l.bytes;
  taken = Consumes-trans before r u k.bytes l.bytes k.taken l.taken;
  onward = λ more.
      seeks-mark s before r u k l.bytes l.line more l.unended l.whole l.mark ∙ ap (λ b. or_marked b more) other
      ∙ ap₂ (λ x o. marked_on x (o ++ more)) (sym lines) (sym none);
  unended = none-open n none;
}

any-left : (r : Option (List ℕ)) → (rest : List ℕ) × IfSome r (λ known. rest ≡ known)
any-left None = ([], tt)
any-left (Some xs) = (xs, refl)

pub seeks-found : {A : Type 0} → (s t : Section A) (before r u : Option (List ℕ)) → Seeks s before r → (l : ReadsMark s t r u) → is_marked (lines_in s) l.line ≡ true → IsFound before true
seeks-found s t before r u k l is =
    let rest = any-left u in (
      (k.bytes ++ l.bytes) ++ rest.0,
      known-left before u (k.bytes ++ l.bytes) rest.0 (Consumes-trans before r u k.bytes l.bytes k.taken l.taken) rest.1,
      sym (seeks-mark s before r u k l.bytes l.line rest.0 l.unended l.whole l.mark ∙ ap (λ b. or_marked b rest.0) is),
    )

pub seeks-end : {A : Type 0} → (s : Section A) (before r : Option (List ℕ)) → Seeks s before r → IsAtEnd r → IsFound before false
seeks-end s before r k end = (
  k.bytes,
  nothing-left before r k.bytes k.taken end,
  sym (ap (marked_on []) (sym (append-nil k.bytes)) ∙ k.onward [] ∙ ap (marked_on (lines_in s)) (append-nil (open_in s)) ∙ none-marked (lines_in s) (open_in s) k.unended),
)

-- ---- as the functions have it

pub line-is : (whole line : List ℕ) → whole ≡ with_feed line → front_of whole ≡ line
line-is whole line e = ap front_of e ∙ ap (λ n. take n (with_feed line)) (let l = length-append line (10 ∷ []) in omega (arith, l)) ∙ take-append_seam line (10 ∷ [])

pub next-some : (b : Bool) (k w : Chain) → Some k ≡ cond b (Some w) None → (b ≡ true) × (k ≡ w)
next-some true k w e = (refl, some-same k w e)
  where
    some-same : (k w : Chain) → Some k ≡ Some w → k ≡ w
    some-same k w e = cc
next-some false k w e = absurd (cc)

pub next-none : (b : Bool) (w : Chain) → None ≡ cond b (Some w) None → b ≡ false
next-none true w e = absurd (cc)
next-none false w e = refl

pub marks-of : {A : Type 0} → (f : Front A) (s : Section A) (before r t : Option (List ℕ)) → Measured f before r → ReadsMark f.section s r t
    → Marks (record { chain = f.chain; bytes = f.bytes; section = s }) before t
marks-of f s before r t m l = record {
  measured = measured-part f s before r t m l.bytes l.taken l.lines (l.here ∙ sym l.whole);
  line = l.line;
  unended = l.unended;
  here = l.here;
  mark = l.mark;
}

pub breaks-of : {A : Type 0} → (f : Front A) (before left : Option (List ℕ)) → (m : Marks f before left)
    → bytes_eq m.line (mark_line (chain_of f.chain) (lines_in f.section)) ≡ false → Breaks f before left
breaks-of f before left m other = record { measured = m.measured; line = m.line; unended = m.unended; here = m.here; mark = m.mark; other = other }

pub measured-new : {A : Type 0} → (f : Front A) (before : Option (List ℕ)) → chain_of f.chain ≡ unmarked → f.bytes ≡ 0 → lines_in f.section ≡ [] → open_in f.section ≡ []
    → Measured f before before
measured-new f before chain bytes lines none =
    let empty : f.section.text.items ≡ [] = sym (parts f.section) ∙ ap₂ (λ a b. a ++ b) lines none in
    record {
      texts = [];
      taken = subst (Consumes before before) (sym empty) (Consumes-nil before);
      chain = chain;
      bytes = bytes;
      onward = λ more. ap (λ e. whole_on unmarked [] (e ++ more)) empty ∙ ap₂ (λ a b. whole_on unmarked a (b ++ more)) (sym lines) (sym none);
      quiet = λ more. ap (λ e. marked_on [] (e ++ more)) empty ∙ ap₂ (λ a b. marked_on a (b ++ more)) (sym lines) (sym none);
    }

pub seeks-new : {A : Type 0} → (s : Section A) (before : Option (List ℕ)) → lines_in s ≡ [] → open_in s ≡ [] → Seeks s before before
seeks-new s before lines none = record {
  bytes = [];
  taken = Consumes-nil before;
  onward = λ more. ap₂ (λ a b. marked_on a (b ++ more)) (sym lines) (sym none);
  unended = none-open s none;
}

-- the mark itself is whole
pub broken-here : {A : Type 0} → (f : Front A) (before left : Option (List ℕ)) → (b : Breaks f before left) → is_marked (lines_in f.section) (front_of (open_in f.section)) ≡ true
    → IsExtentKnown before (extent_of f true)
broken-here f before left b is =
    let rest = any-left left in
    broken-extent f before left b true rest.0 rest.1
    (ap (λ m. or_marked m rest.0) (sym (ap (is_marked (lines_in f.section)) (sym (line-is (open_in f.section) b.line b.here)) ∙ is)))

-- or one behind it is, or none
pub broken-behind : {A : Type 0} → (f : Front A) (before left : Option (List ℕ)) → (b : Breaks f before left) → is_marked (lines_in f.section) (front_of (open_in f.section)) ≡ false
    → (found : Bool) → IsFound left found → IsExtentKnown before (extent_of f found)
broken-behind f before left b other found is =
    broken-extent f before left b found is.0 is.1
    (is.2 ∙ ap (λ m. or_marked m is.0) (sym (ap (is_marked (lines_in f.section)) (sym (line-is (open_in f.section) b.line b.here)) ∙ other)))
