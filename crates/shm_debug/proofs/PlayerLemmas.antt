-- What the player's steps do, from its fields.
use Rattle.std.proofs.Common.{◌≡◌, ℕ, ◌+◌, ◌<◌, ◌≤◌, ◌==◌, ◌&&◌, true, false, List, [], ◌∷◌, ◌++◌, length, Option, None, Some, Result, Ok, Err, ◌⊎◌, inl, inr, nat_lt, not, is_some, codes, refl, sym, ap, ap₂, subst, ◌∙◌, arith, append_assoc}
use Rattle.std.proofs.lemmas.Bool.Decides.{nat_tests}
use Rattle.std.specs.Option.{ok_or}
use Rattle.std.specs.Prelude.{IfOk, IfErr}
use Rattle.shm_lines.specs.Line.{is_first, line_of}
use Rattle.shm_lines.specs.Spelling.{IsLine, spelling}
use Rattle.shm_lines.specs.declared.script_line.Line.{Line}
use Rattle.shm_lines.specs.declared.script_line.Line.TheVariants.{Sites, Event as EventLine, Show, Back}
use Rattle.shm_debug.specs.Standing.{Standing}
use Rattle.shm_text.specs.Text.{line_text}
use Rattle.shm_debug.specs.Said.{next, said}
use Rattle.shm_debug.specs.Script.{read_line, broken, whole}
use Rattle.shm_debug.specs.Reading.{Moment, IsBeingRead, rest_of, gathered, passed, Plays, Fails, Completes}
use Rattle.shm_debug.specs.declared.script_summary_and_error.DebugFault.{DebugFault}
use Rattle.shm_debug.specs.declared.script_summary_and_error.DebugFault.TheVariants.{BadLine}
use Rattle.shm_debug.proofs.PartsLemmas.{NoFeed}
use Rattle.shm_debug.proofs.ReadingLemmas.{Plays-trans, Plays-gather, Fails-after, Fails-more, Fails-ended, Fails-limit, Completes-read, NoFeed-append, rest-broken, rest-open, rest-whole}

pub empty-from : (l : List ℕ) → length l ≡ 0 → l ≡ []
empty-from [] h = refl
empty-from (x ∷ xs) h = absurd (omega arith)

abbrev pub moment : ℕ → Option Standing → List ℕ → Moment
moment lines standing line = record { lines = lines; standing = standing; line = line }

module _ (lines : ℕ) (standing : Option Standing) (line : List ℕ) (now : Moment) (is : IsBeingRead lines standing line)
    (e : moment lines standing line ≡ now) where
  pub bad_ending : (lines ≡ 0) ⊎ (0 < length line) → (rest_of now [] ≡ broken (BadLine (lines + 1))) × (BadLine (lines + 1) ≡ BadLine (now.lines + 1))
  bad_ending (inl none) =
      let early : lines < 100000 = omega arith in
      let inside : ((length line == 0) && nat_lt 1 (lines + 1)) ≡ false = grind (arith, nat_tests) in
      (ap (λ m. rest_of m []) (sym e) ∙ rest-broken (moment lines standing line) is.unended is.short early inside, ap (λ (m : Moment). BadLine (m.lines + 1)) e)
  bad_ending (inr some) =
      let early : lines < 100000 = omega (arith, is.within) in
      let inside : ((length line == 0) && nat_lt 1 (lines + 1)) ≡ false = grind (arith, nat_tests) in
      (ap (λ m. rest_of m []) (sym e) ∙ rest-broken (moment lines standing line) is.unended is.short early inside, ap (λ (m : Moment). BadLine (m.lines + 1)) e)

  pub good_ending : 0 < lines → line ≡ [] → rest_of now [] ≡ whole
  good_ending some empty = ap (λ m. rest_of m []) (sym e) ∙ rest-whole (moment lines standing line) empty some

  pub open_line : (rest_of now []).lines ≡ []
  open_line = ap (λ m. (rest_of m []).lines) (sym e) ∙ rest-open (moment lines standing line) is.unended

  -- bytes that break a limit before a line feed comes
  pub past_limit : (bytes : List ℕ) (fault : DebugFault) → NoFeed bytes → 0 < length bytes
      → ((l : List ℕ) → length line + length bytes ≤ length l → read_line (lines + 1) l ≡ Err fault) → (text : List ℕ) → Fails now bytes fault text text
  past_limit bytes fault free some reads text =
      subst (λ m. Fails m bytes fault text text) e (Fails-limit (moment lines standing line) bytes fault text is.unended free some reads)

  -- where nothing was gathered, the bytes before the line feed are the line
  pub in_place : (bytes : List ℕ) → line ≡ [] → read_line (lines + 1) bytes ≡ read_line (now.lines + 1) (now.line ++ bytes)
  in_place bytes none = ap (λ l. read_line (lines + 1) (l ++ bytes)) (sym none) ∙ ap (λ (m : Moment). read_line (m.lines + 1) (m.line ++ bytes)) e

  closed : (bytes : List ℕ) → NoFeed bytes → NoFeed (now.line ++ bytes)
  closed bytes free = subst (λ m. NoFeed (m.line ++ bytes)) e (NoFeed-append line bytes is.unended free)

  -- what is read of the line that these bytes end
  pub completed : (bytes : List ℕ) (r : Result Line DebugFault) → NoFeed bytes → ((b : List ℕ) (x : Line) → line_of b ≡ Some x → IsLine x × (b ≡ spelling x))
      → r ≡ read_line (now.lines + 1) (now.line ++ bytes) → IfOk r (λ l. Completes now bytes l)
  completed bytes (Ok l) free spells h = Completes-read now bytes l (closed bytes free) spells (sym h)
  completed bytes (Err fault) free spells h = tt

  pub not_completed : (bytes : List ℕ) (r : Result Line DebugFault) → NoFeed bytes
      → r ≡ read_line (now.lines + 1) (now.line ++ bytes) → IfErr r (λ fault. (text : List ℕ) → Fails now (bytes ++ 10 ∷ []) fault text text)
  not_completed bytes (Ok l) free h = tt
  not_completed bytes (Err fault) free h = λ text. Fails-ended now bytes fault text (closed bytes free) (sym h)

-- a line that was completed is passed, from where the front of it may have been gathered
pub passes : (old mid new : Moment) (bytes text text' : List ℕ) (line : Line) → Completes old bytes line → mid.lines ≡ old.lines → mid.standing ≡ old.standing
    → text' ≡ text ++ line_text (mid.lines + 1) (said mid.standing line) → new ≡ passed mid line → Plays old (bytes ++ 10 ∷ []) new text text'
passes old mid new bytes text text' line h same_lines same_standing told is =
    subst (λ m. Plays old (bytes ++ 10 ∷ []) m text text')
    (sym (is ∙ ap₂ (λ (n : ℕ) (s : Option Standing). moment (n + 1) (next s line) []) same_lines same_standing))
    (h.plays text text' (told ∙ ap₂ (λ (n : ℕ) (s : Option Standing). text ++ line_text (n + 1) (said s line)) same_lines same_standing))

-- ---- line after line: what was read, a line with its line feed, and the others

regroup : (done line others bytes rest : List ℕ) → bytes ≡ done ++ rest → rest ≡ line ++ 10 ∷ others → bytes ≡ (done ++ (line ++ 10 ∷ [])) ++ others
regroup done line others bytes rest all cut =
    all ∙ ap (λ l. done ++ l) (cut ∙ sym (append_assoc line (10 ∷ []) others)) ∙ sym (append_assoc done (line ++ 10 ∷ []) others)

-- these bytes were played, of those that end with `rest`
abbrev pub PlaysUpTo : List ℕ → List ℕ → Moment → Moment → List ℕ → List ℕ → Type 0
PlaysUpTo bytes rest old now text text' = (done : List ℕ) × (bytes ≡ done ++ rest) × Plays old done now text text'

module _ (bytes rest : List ℕ) (a b : Moment) (s t : List ℕ) (so_far : PlaysUpTo bytes rest a b s t) where
  pub one_more : (line others : List ℕ) (c : Moment) (u : List ℕ) → rest ≡ line ++ 10 ∷ others → Plays b (line ++ 10 ∷ []) c t u → PlaysUpTo bytes others a c s u
  one_more line others c u cut p = (
    so_far.0 ++ (line ++ 10 ∷ []),
    regroup so_far.0 line others bytes rest so_far.1 cut,
    Plays-trans a b c so_far.0 (line ++ 10 ∷ []) s t u so_far.2 p,
  )

  pub fails_there : (line others : List ℕ) (fault : DebugFault) (u : List ℕ) → rest ≡ line ++ 10 ∷ others → Fails b (line ++ 10 ∷ []) fault t u → Fails a bytes fault s u
  fails_there line others fault u cut p =
      subst (λ l. Fails a l fault s u) (sym (regroup so_far.0 line others bytes rest so_far.1 cut))
      (Fails-more a (so_far.0 ++ (line ++ 10 ∷ [])) others s u fault (Fails-after a b so_far.0 (line ++ 10 ∷ []) s t u fault so_far.2 p))

  pub rest_gathered : (c : Moment) → c ≡ gathered b rest → Plays a bytes c s t
  rest_gathered c is =
      subst (λ l. Plays a l c s t) (sym so_far.1)
      (subst (λ m. Plays a (so_far.0 ++ rest) m s t) (sym is) (Plays-trans a b (gathered b rest) so_far.0 rest s t t so_far.2 (Plays-gather b rest t)))

  pub rest_fails : (fault : DebugFault) → ((text : List ℕ) → Fails b rest fault text text) → Fails a bytes fault s t
  rest_fails fault p = subst (λ l. Fails a l fault s t) (sym so_far.1) (Fails-after a b so_far.0 rest s t t fault so_far.2 (p t))

-- what `parse_line` answers tells what the line is
pub none_read : {E : Type 0} (o : Option Line) (b e : E) → Err e ≡ ok_or o b → o ≡ None
none_read None b e h = refl
none_read (Some l) b e h = absurd (cc)

pub some_read : {E : Type 0} (o : Option Line) (b : E) (l : Line) → Ok l ≡ ok_or o b → o ≡ Some l
some_read None b l h = absurd (cc)
some_read (Some m) b l h = cc

-- a first line is answered alike, whatever stands
pub said-first : (s : Option Standing) (l : Line) → is_first l ≡ true → said s l ≡ codes "ready"
said-first s (Sites opening) e = refl
said-first s (EventLine event) e = absurd (cc)
said-first s (Show page) e = absurd (cc)
said-first s (Back n) e = absurd (cc)

-- after a line that may stand here something stands
pub opened-next : (s : Option Standing) (l : Line) → is_first l ≡ not (is_some s) → is_some (next s l) ≡ true
opened-next s (Sites opening) e = refl
opened-next None (EventLine event) e = absurd (cc)
opened-next None (Show page) e = absurd (cc)
opened-next None (Back n) e = absurd (cc)
opened-next (Some s) (EventLine event) e = refl
opened-next (Some s) (Show page) e = refl
opened-next (Some s) (Back n) e = refl
