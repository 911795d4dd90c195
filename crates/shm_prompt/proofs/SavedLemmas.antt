-- The script of what stands is read as its own lines, and leads to what stands.
use Rattle.std.proofs.Common.{◌≡◌, ℕ, ◌+◌, ◌<◌, ◌≤◌, ◌==◌, ◌&&◌, Bool, true, false, not, cond, List, [], ◌∷◌, ◌++◌, length, map, take, get_or, All, None, Some, Ok, refl, sym, ap, subst, ◌∙◌, arith, append_assoc, append-nil}
use Rattle.std.specs.List.{list_all}
use Rattle.std.proofs.lemmas.List.Elements.{All-append, All-cons, All-get_or, All-nil, All-head, All-tail}
use Rattle.std.proofs.lemmas.Bool.Decides.{nat_tests}
use Rattle.std.proofs.lemmas.List.{get_or-map, length-map, map-append, take_all, take_more}
use Rattle.shm_model.specs.declared.event.Event.{Event}
use Rattle.shm_model.specs.World.{Opening, New, Preset, Framed}
use Rattle.shm_lines.specs.Line.{line_of, may_stand}
use Rattle.shm_lines.specs.Spelling.{IsLine, spelling}
use Rattle.shm_lines.specs.declared.script_line.Line.{Line}
use Rattle.shm_lines.specs.declared.script_line.Line.TheVariants.{Event as EventLine}
use Rattle.shm_debug.specs.Said.{next, standing_after}
use Rattle.shm_debug.specs.Script.{Script, after, parts_of, placed, read_line, read_on, script_of}
use Rattle.shm_debug.specs.Standing.{Standing, standing}
use Rattle.shm_debug.proofs.PartsLemmas.{NoFeed, parts, parts-feed, read_on-line}
use Rattle.shm_debug.proofs.ReadingLemmas.{read-within, placed-yes, rest-whole}
use Rattle.shm_prompt.specs.Saved.{Replays, first_line, lines_of, text_of_lines}
use Rattle.shm_prompt.specs.Spelled.{AreRefused, IsSpelled, line_bytes}
use Rattle.shm_prompt.specs.declared.save_refusal.SaveRefusal.{SaveRefusal}
use Rattle.shm_prompt.specs.declared.save_refusal.SaveRefusal.TheVariants as refusal

-- ---- what is read

both-left : (a b : Bool) → (a && b) ≡ true → a ≡ true
both-left true b h = refl
both-left false b h = absurd (cc)

both-right : (a b : Bool) → (a && b) ≡ true → b ≡ true
both-right true b h = h
both-right false b h = absurd (cc)

not-false : (b : Bool) → not b ≡ true → b ≡ false
not-false true h = absurd (cc)
not-false false h = refl

no_feed : (xs : List ℕ) → list_all (λ byte. not (byte == 10)) xs ≡ true → NoFeed xs
no_feed [] h = All-nil (λ byte. (byte == 10) ≡ false)
no_feed (x ∷ xs) h =
    All-cons (λ byte. (byte == 10) ≡ false) x xs
    (not-false (x == 10) (both-left (not (x == 10)) (list_all (λ byte. not (byte == 10)) xs) h))
    (no_feed xs (both-right (not (x == 10)) (list_all (λ byte. not (byte == 10)) xs) h))

later : (n : ℕ) (e : Event) → 0 < n → may_stand (n + 1) (EventLine e) ≡ true
later n e some = let t : (n + 1 == 1) ≡ false = grind (arith, nat_tests) in ap (λ b. cond b false true) t

first : (o : Opening) → may_stand 1 (first_line o) ≡ true
first (New sites) = refl
first (Preset sites pages) = refl
first (Framed sites pages frames) = refl

-- ---- where it leads

events-lead : (o : Opening) (es fs : List Event) → standing_after (Some (standing o es)) (map EventLine fs) ≡ Some (standing o (es ++ fs))
events-lead o es [] = ap (λ l. Some (standing o l)) (sym (append-nil es))
events-lead o es (f ∷ fs) = events-lead o (es ++ f ∷ []) fs ∙ ap (λ l. Some (standing o l)) (append_assoc es (f ∷ []) fs)

opens : (o : Opening) → next None (first_line o) ≡ Some (standing o [])
opens (New sites) = refl
opens (Preset sites pages) = refl
opens (Framed sites pages frames) = refl

pub leads : (s : Standing) → standing_after None (lines_of s) ≡ Some s
leads s = ap (λ w. standing_after w (map EventLine s.events)) (opens s.opening) ∙ events-lead s.opening [] s.events

-- ---- what is read of all lines

module _ (spelled : (line : Line) → IsLine line → line_of (spelling line) ≡ Some line) where
  -- a line that is spelled, and then the rest
  step : (n : ℕ) (line : Line) (rest : List ℕ) (s : Script) → IsSpelled line → n < 100000 → may_stand (n + 1) line ≡ true
      → read_on (n + 1 + 1) (parts_of rest) ≡ s → read_on (n + 1) (parts_of (line_bytes line ++ rest)) ≡ after (line ∷ []) s
  step n line rest s is early stands e =
      let p = parts rest in
      let reads : read_line (n + 1) (spelling line) ≡ Ok line =
      read-within (n + 1) (spelling line) (omega (arith, early)) is.short ∙ ap (placed (n + 1)) (spelled line is.is) ∙ placed-yes (n + 1) line stands in
      ap (λ bytes. read_on (n + 1) (parts_of bytes)) (append_assoc (spelling line) (10 ∷ []) rest)
      ∙ ap (read_on (n + 1)) (parts-feed (spelling line) rest (no_feed (spelling line) is.unended) ∙ ap (λ ps. spelling line ∷ ps) p.are)
      ∙ read_on-line (n + 1) (spelling line) p.first p.others line reads
      ∙ ap (λ ps. after (line ∷ []) (read_on (n + 1 + 1) ps)) (sym p.are)
      ∙ ap (after (line ∷ [])) e

  events-read : (n : ℕ) (events : List Event) → 0 < n → n + length events ≤ 100000 → All IsSpelled (map EventLine events)
      → read_on (n + 1) (parts_of (text_of_lines (map EventLine events))) ≡ record { lines = map EventLine events; fault = None }
  events-read n [] some early is = rest-whole (record { lines = n; standing = None; line = [] }) refl some
  events-read n (e ∷ es) some early is =
      step n (EventLine e) (text_of_lines (map EventLine es)) (record { lines = map EventLine es; fault = None })
      (All-head IsSpelled (EventLine e) (map EventLine es) is) (omega (arith, early)) (later n e some)
      (events-read (n + 1) es (omega arith) (omega (arith, early)) (All-tail IsSpelled (EventLine e) (map EventLine es) is))

  script-read : (s : Standing) → length s.events < 100000 → All IsSpelled (lines_of s)
      → script_of (text_of_lines (lines_of s)) ≡ record { lines = lines_of s; fault = None }
  script-read s early is =
      step 0 (first_line s.opening) (text_of_lines (map EventLine s.events)) (record { lines = map EventLine s.events; fault = None })
      (All-head IsSpelled (first_line s.opening) (map EventLine s.events) is) (omega arith) (first s.opening)
      (events-read 1 s.events (omega arith) (omega (arith, early)) (All-tail IsSpelled (first_line s.opening) (map EventLine s.events) is))

  pub replayed : (s : Standing) (bytes : List ℕ) → length s.events < 100000 → All IsSpelled (lines_of s) → bytes ≡ text_of_lines (lines_of s) → Replays bytes s
  replayed s bytes early is e = record { reads = ap script_of e ∙ script-read s early is; stands = leads s }

-- ---- one line more

pub text-more : (xs : List Line) (line : Line) → text_of_lines (xs ++ line ∷ []) ≡ text_of_lines xs ++ line_bytes line
text-more [] line = append-nil (line_bytes line)
text-more (x ∷ xs) line = ap (λ l. line_bytes x ++ l) (text-more xs line) ∙ sym (append_assoc (line_bytes x) (text_of_lines xs) (line_bytes line))

longer : (line : Line) (events : List Event) (i : ℕ) (e : Event) → i < length events → e ≡ get_or events i e
    → line ∷ map EventLine (take (i + 1) events) ≡ (line ∷ map EventLine (take i events)) ++ EventLine e ∷ []
longer line events i e below here =
    ap (λ xs. line ∷ map EventLine xs) (take_more events i e below ∙ ap (λ x. take i events ++ x ∷ []) (sym here))
    ∙ ap (λ ls. line ∷ ls) (map-append EventLine (take i events) (e ∷ []))

-- a text of lines that are spelled
abbrev pub IsText : List ℕ → List Line → Type 0
IsText text lines = (text ≡ text_of_lines lines) × All IsSpelled lines

-- the next event's line
pub one-more : (line : Line) (events : List Event) (i : ℕ) (e : Event) (old new : List ℕ) → i < length events → e ≡ get_or events i e
    → IsText old (line ∷ map EventLine (take i events)) → new ≡ old ++ line_bytes (EventLine e) → IsSpelled (EventLine e)
    → IsText new (line ∷ map EventLine (take (i + 1) events))
one-more line events i e old new below here before told is =
    subst (IsText new) (sym (longer line events i e below here)) (
      told ∙ ap (λ l. l ++ line_bytes (EventLine e)) before.0 ∙ sym (text-more (line ∷ map EventLine (take i events)) (EventLine e)),
      All-append IsSpelled (line ∷ map EventLine (take i events)) (EventLine e ∷ []) before.1 (All-cons IsSpelled (EventLine e) [] is (All-nil IsSpelled)),
    )

-- all events
pub all_read : ((line : Line) → IsLine line → line_of (spelling line) ≡ Some line) → (s : Standing) (line : Line) (events : List Event) (i : ℕ) (text : List ℕ)
    → length events ≤ i → IsText text (line ∷ map EventLine (take i events)) → first_line s.opening ≡ line → s.events ≡ events → length s.events < 100000 → Replays text s
all_read spelled s line events i text all before opening same early =
    let lines : line ∷ map EventLine (take i events) ≡ lines_of s =
    ap (λ xs. line ∷ map EventLine xs) (take_all i events all ∙ sym same) ∙ ap (λ l. l ∷ map EventLine s.events) (sym opening) in
    let is : IsText text (lines_of s) = subst (IsText text) lines before in
    replayed spelled s text early is.1 is.0

-- ---- why none is saved

event-spelled : (events : List Event) (i : ℕ) (e : Event) → i < length events → e ≡ get_or events i e → All IsSpelled (map EventLine events) → IsSpelled (EventLine e)
event-spelled events i e below here all =
    subst IsSpelled (get_or-map EventLine events i e (EventLine e) below ∙ ap EventLine (sym here))
    (All-get_or IsSpelled (map EventLine events) i (EventLine e) (subst (λ n. i < n) (sym (length-map events EventLine)) below) all)

-- what refuses one of the lines refuses all
refused-one : (line : Line) (lines : List Line) (r : SaveRefusal) → length lines ≤ 100000 → (All IsSpelled lines → IsSpelled line) → AreRefused (line ∷ []) r → AreRefused lines r
refused-one line lines refusal.OutOfMemory few among h = tt
refused-one line lines refusal.TooManyLines few among h = absurd (omega (arith, h))
refused-one line lines refusal.NoLine few among h = (few, λ all. h.1 (All-cons IsSpelled line [] (among all) (All-nil IsSpelled)))

few-lines : (s : Standing) → length s.events < 100000 → length (lines_of s) ≤ 100000
few-lines s early = let same = length-map s.events EventLine in omega (arith, same, early)

pub refused-first : (s : Standing) (line : Line) (r : SaveRefusal) → length s.events < 100000 → first_line s.opening ≡ line → AreRefused (line ∷ []) r → AreRefused (lines_of s) r
refused-first s line r early opening h =
    refused-one line (lines_of s) r (few-lines s early)
    (λ all. subst IsSpelled opening (All-head IsSpelled (first_line s.opening) (map EventLine s.events) all)) h

pub refused-event : (s : Standing) (events : List Event) (i : ℕ) (e : Event) (r : SaveRefusal) → length s.events < 100000 → s.events ≡ events → i < length events
    → e ≡ get_or events i e → AreRefused (EventLine e ∷ []) r → AreRefused (lines_of s) r
refused-event s events i e r early same below here h =
    refused-one (EventLine e) (lines_of s) r (few-lines s early) (λ all. event-spelled events i e below here
    (subst (λ es. All IsSpelled (map EventLine es)) same (All-tail IsSpelled (first_line s.opening) (map EventLine s.events) all))) h
