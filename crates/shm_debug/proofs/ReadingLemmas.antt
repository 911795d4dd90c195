-- From one moment of a script that is read to the next.
use Rattle.std.proofs.Common.{◌≡◌, ℕ, ◌+◌, ◌<◌, ◌≤◌, ◌==◌, ◌&&◌, Bool, true, false, List, [], ◌∷◌, ◌++◌, length, Option, None, Some, Result, Ok, Err, ◌⊎◌, inl, inr, cond, nat_lt, refl, sym, ap, subst, ◌∙◌, arith, append_assoc, append-nil, length-append}
use Rattle.std.proofs.lemmas.Bool.{cases_Bool}
use Rattle.std.proofs.lemmas.Bool.Decides.{nat_tests}
use Rattle.std.proofs.lemmas.List.Elements.{All-append}
use Rattle.shm_lines.specs.Line.{may_stand, line_of}
use Rattle.shm_lines.specs.Spelling.{IsLine, spelling}
use Rattle.shm_debug.specs.Standing.{Standing}
use Rattle.shm_text.specs.Text.{line_text}
use Rattle.shm_debug.specs.Script.{Script, after, broken, whole, read_on, read_line, placed, unended, parts_of}
use Rattle.shm_debug.specs.Said.{next, said, standing_after}
use Rattle.shm_debug.specs.Output.{text_from}
use Rattle.shm_debug.specs.Reading.{Moment, rest_of, gathered, passed, Onward, WritesLines, Begins, Breaks, Stops, Plays, Fails, Completes}
use Rattle.shm_lines.specs.declared.script_line.Line.{Line}
use Rattle.shm_debug.specs.declared.script_summary_and_error.DebugFault.{DebugFault}
use Rattle.shm_debug.specs.declared.script_summary_and_error.DebugFault.TheVariants.{OutOfMemory, BadLine, LineTooLong, TooManyLines, ReadFault, WriteFault}
use Rattle.shm_debug.proofs.PartsLemmas.{NoFeed, parts, parts-feed, parts-after, parts-alone, read_on-line, read_on-fault}

pub after-after : (xs ys : List Line) (s : Script) → after xs (after ys s) ≡ after (xs ++ ys) s
after-after xs ys s = ap (λ (l : List Line). record { lines = l; fault = s.fault }) (sym (append_assoc xs ys s.lines))

pub standing_after-append : (w : Option Standing) (xs ys : List Line) → standing_after w (xs ++ ys) ≡ standing_after (standing_after w xs) ys
standing_after-append w [] ys = refl
standing_after-append w (x ∷ xs) ys = standing_after-append (next w x) xs ys

pub text_from-append : (n m : ℕ) (w : Option Standing) (xs ys : List Line) → m ≡ n + length xs
    → text_from n w (xs ++ ys) ≡ text_from n w xs ++ text_from m (standing_after w xs) ys
text_from-append n m w [] ys e = ap (λ k. text_from k w ys) (omega arith)
text_from-append n m w (x ∷ xs) ys e =
    ap (λ l. line_text n (said w x) ++ l) (text_from-append (n + 1) m (next w x) xs ys (omega arith))
    ∙ sym (append_assoc (line_text n (said w x)) (text_from (n + 1) (next w x) xs) (text_from m (standing_after (next w x) xs) ys))

rest-after : (m : Moment) (bytes more others : List ℕ) → rest_of m ((bytes ++ more) ++ others) ≡ rest_of m (bytes ++ (more ++ others))
rest-after m bytes more others = ap (rest_of m) (append_assoc bytes more others)

pub Onward-trans : (a b c : Moment) (x y : List ℕ) (xs ys : List Line) → Onward a x xs b → Onward b y ys c → Onward a (x ++ y) (xs ++ ys) c
Onward-trans a b c x y xs ys p q = record {
  rest = λ more. rest-after a x y more ∙ p.rest (y ++ more) ∙ ap (after xs) (q.rest more) ∙ after-after xs ys (rest_of c more);
  count = omega (arith, length-append xs ys, p.count, q.count);
  stands = q.stands ∙ ap (λ w. standing_after w ys) p.stands ∙ sym (standing_after-append a.standing xs ys);
  reached = omega (arith, length-append x y, p.reached, q.reached);
}

Tells-trans : (a b : Moment) (x : List ℕ) (xs ys : List Line) (s t u : List ℕ) → Onward a x xs b → WritesLines a xs s t → WritesLines b ys t u → WritesLines a (xs ++ ys) s u
Tells-trans a b x xs ys s t u o p q =
    q ∙ ap (λ l. l ++ text_from (b.lines + 1) b.standing ys) p
    ∙ append_assoc s (text_from (a.lines + 1) a.standing xs) (text_from (b.lines + 1) b.standing ys)
    ∙ ap (λ w. s ++ (text_from (a.lines + 1) a.standing xs ++ text_from (b.lines + 1) w ys)) o.stands
    ∙ ap (λ l. s ++ l) (sym (text_from-append (a.lines + 1) (b.lines + 1) a.standing xs ys (omega (arith, o.count))))

pub Plays-trans : (a b c : Moment) (x y s t u : List ℕ) → Plays a x b s t → Plays b y c t u → Plays a (x ++ y) c s u
Plays-trans a b c x y s t u p q =
    (p.0 ++ q.0, Onward-trans a b c x y p.0 q.0 p.1 q.1, Tells-trans a b x p.0 q.0 s t u p.1 p.2 q.2)

Begins-after : (a b : Moment) (x y : List ℕ) (xs ys : List Line) → Onward a x xs b → Begins b y ys → Begins a (x ++ y) (xs ++ ys)
Begins-after a b x y xs ys o h more =
    let r = h more in
    (r.0, ap (λ (s : Script). s.lines) (rest-after a x y more ∙ o.rest (y ++ more)) ∙ ap (λ l. xs ++ l) r.1 ∙ sym (append_assoc xs ys r.0))

Breaks-after : (a b : Moment) (x y : List ℕ) (xs ys : List Line) (f : DebugFault) → Onward a x xs b → Breaks b y ys f → Breaks a (x ++ y) (xs ++ ys) f
Breaks-after a b x y xs ys f o h more =
    rest-after a x y more ∙ o.rest (y ++ more) ∙ ap (after xs) (h more) ∙ after-after xs ys (broken f)

Stops-after : (a b : Moment) (x y : List ℕ) (xs ys : List Line) (f : DebugFault) → Onward a x xs b → Stops b y ys f → Stops a (x ++ y) (xs ++ ys) f
Stops-after a b x y xs ys OutOfMemory o h = Begins-after a b x y xs ys o h
Stops-after a b x y xs ys ReadFault o h = absurd h
Stops-after a b x y xs ys WriteFault o h = absurd h
Stops-after a b x y xs ys (BadLine n) o h = Breaks-after a b x y xs ys (BadLine n) o h
Stops-after a b x y xs ys (LineTooLong n) o h = Breaks-after a b x y xs ys (LineTooLong n) o h
Stops-after a b x y xs ys TooManyLines o h = Breaks-after a b x y xs ys TooManyLines o h

pub Fails-after : (a b : Moment) (x y s t u : List ℕ) (f : DebugFault) → Plays a x b s t → Fails b y f t u → Fails a (x ++ y) f s u
Fails-after a b x y s t u f p q =
    (p.0 ++ q.0, Stops-after a b x y p.0 q.0 f p.1 q.1, Tells-trans a b x p.0 q.0 s t u p.1 p.2 q.2)

Begins-more : (a : Moment) (x y : List ℕ) (xs : List Line) → Begins a x xs → Begins a (x ++ y) xs
Begins-more a x y xs h more =
    let r = h (y ++ more) in
    (r.0, ap (λ (s : Script). s.lines) (rest-after a x y more) ∙ r.1)

Breaks-more : (a : Moment) (x y : List ℕ) (xs : List Line) (f : DebugFault) → Breaks a x xs f → Breaks a (x ++ y) xs f
Breaks-more a x y xs f h more = rest-after a x y more ∙ h (y ++ more)

Stops-more : (a : Moment) (x y : List ℕ) (xs : List Line) (f : DebugFault) → Stops a x xs f → Stops a (x ++ y) xs f
Stops-more a x y xs OutOfMemory h = Begins-more a x y xs h
Stops-more a x y xs ReadFault h = absurd h
Stops-more a x y xs WriteFault h = absurd h
Stops-more a x y xs (BadLine n) h = Breaks-more a x y xs (BadLine n) h
Stops-more a x y xs (LineTooLong n) h = Breaks-more a x y xs (LineTooLong n) h
Stops-more a x y xs TooManyLines h = Breaks-more a x y xs TooManyLines h

-- the fault came before all bytes were read
pub Fails-more : (a : Moment) (x y s t : List ℕ) (f : DebugFault) → Fails a x f s t → Fails a (x ++ y) f s t
Fails-more a x y s t f p = (p.0, Stops-more a x y p.0 f p.1, p.2)

nothing_told : (m : Moment) (text : List ℕ) → WritesLines m [] text text
nothing_told m text = sym (append-nil text)

pub Plays-none : (m : Moment) (text : List ℕ) → Plays m [] m text text
Plays-none m text = ([], record { rest = λ more. refl; count = omega arith; stands = refl; reached = omega arith }, nothing_told m text)

-- bytes join the line
pub Plays-gather : (m : Moment) (bytes text : List ℕ) → Plays m bytes (gathered m bytes) text text
Plays-gather m bytes text = (
  [],
  record {
    rest = λ more. ap (λ l. read_on (m.lines + 1) (parts_of l)) (sym (append_assoc m.line bytes more));
    count = omega arith;
    stands = refl;
    reached = omega (arith, length-append m.line bytes);
  },
  nothing_told m text,
)

-- the line ends
pub Plays-line : (m : Moment) (line : Line) (old new : List ℕ) → NoFeed m.line → length m.line ≤ 200 → read_line (m.lines + 1) m.line ≡ Ok line
    → new ≡ old ++ line_text (m.lines + 1) (said m.standing line) → Plays m (10 ∷ []) (passed m line) old new
Plays-line m line old new closed short reads told = (
  line ∷ [],
  record {
    rest = λ more. let p = parts more in
        ap (read_on (m.lines + 1)) (parts-feed m.line more closed ∙ ap (λ l. m.line ∷ l) p.are)
        ∙ read_on-line (m.lines + 1) m.line p.first p.others line reads
        ∙ ap (λ l. after (line ∷ []) (read_on (m.lines + 1 + 1) l)) (sym p.are);
    count = omega arith;
    stands = refl;
    reached = omega arith;
  },
  told ∙ ap (λ l. old ++ l) (sym (append-nil (line_text (m.lines + 1) (said m.standing line)))),
)

-- memory is refused before a line is passed
pub Fails-memory : (m : Moment) (bytes text : List ℕ) → Fails m bytes OutOfMemory text text
Fails-memory m bytes text = ([], λ more. ((rest_of m (bytes ++ more)).lines, refl), nothing_told m text)

-- the faults that are the script's own
abbrev pub IsOwn : DebugFault → Type 0
IsOwn OutOfMemory = ⊥
IsOwn ReadFault = ⊥
IsOwn WriteFault = ⊥
IsOwn (BadLine n) = Unit {0}
IsOwn (LineTooLong n) = Unit {0}
IsOwn TooManyLines = Unit {0}

Stops-own : (m : Moment) (bytes : List ℕ) (lines : List Line) (fault : DebugFault) → IsOwn fault → Breaks m bytes lines fault → Stops m bytes lines fault
Stops-own m bytes lines OutOfMemory own h = absurd own
Stops-own m bytes lines ReadFault own h = absurd own
Stops-own m bytes lines WriteFault own h = absurd own
Stops-own m bytes lines (BadLine n) own h = h
Stops-own m bytes lines (LineTooLong n) own h = h
Stops-own m bytes lines TooManyLines own h = h

-- what is read of a line is the line, or such a fault
abbrev IfErrOwn : Result Line DebugFault → Type 0
IfErrOwn (Ok line) = Unit {0}
IfErrOwn (Err fault) = IsOwn fault

own-either : (b : Bool) (x y : Result Line DebugFault) → IfErrOwn x → IfErrOwn y → IfErrOwn (cond b x y)
own-either true x y h k = h
own-either false x y h k = k

placed-own : (number : ℕ) (line : Option Line) → IfErrOwn (placed number line)
placed-own number None = tt
placed-own number (Some line) = own-either (may_stand number line) (Ok line) (Err (BadLine number)) tt tt

read-own : (number : ℕ) (bytes : List ℕ) (fault : DebugFault) → read_line number bytes ≡ Err fault → IsOwn fault
read-own number bytes fault e =
    let short = own-either (nat_lt 200 (length bytes)) (Err (LineTooLong number)) (placed number (line_of bytes)) tt (placed-own number (line_of bytes)) in
    subst IfErrOwn e (own-either (nat_lt 100000 number) (Err TooManyLines) (cond (nat_lt 200 (length bytes)) (Err (LineTooLong number)) (placed number (line_of bytes))) tt short)

pub NoFeed-append : (line bytes : List ℕ) → NoFeed line → NoFeed bytes → NoFeed (line ++ bytes)
NoFeed-append line bytes h k = All-append (λ b. (b == 10) ≡ false) line bytes h k

longer : (line bytes more : List ℕ) → length line + length bytes ≤ length ((line ++ bytes) ++ more)
longer line bytes more = omega (arith, length-append (line ++ bytes) more, length-append line bytes)

longer_still : (line bytes more : List ℕ) (others : List (List ℕ)) → 0 < length bytes → 0 < length ((line ++ bytes) ++ more) + length others
longer_still line bytes more others some = omega (arith, some, longer line bytes more)

-- the line that ends is none, breaks a limit, or may not stand there
pub Fails-line : (m : Moment) (fault : DebugFault) (text : List ℕ) → NoFeed m.line → read_line (m.lines + 1) m.line ≡ Err fault → Fails m (10 ∷ []) fault text text
Fails-line m fault text closed reads = (
  [],
  Stops-own m (10 ∷ []) [] fault (read-own (m.lines + 1) m.line fault reads) (λ more. let p = parts more in
      ap (read_on (m.lines + 1)) (parts-feed m.line more closed ∙ ap (λ l. m.line ∷ l) p.are)
      ∙ read_on-fault (m.lines + 1) m.line (p.first ∷ p.others) fault reads (omega arith)),
  nothing_told m text,
)

-- bytes after the last line, or too many in one
pub Fails-limit : (m : Moment) (bytes : List ℕ) (fault : DebugFault) (text : List ℕ) → NoFeed m.line → NoFeed bytes → 0 < length bytes
    → ((line : List ℕ) → length m.line + length bytes ≤ length line → read_line (m.lines + 1) line ≡ Err fault)
    → Fails m bytes fault text text
Fails-limit m bytes fault text closed free some reads =
    let own = read-own (m.lines + 1) (m.line ++ bytes) fault (reads (m.line ++ bytes) (omega (arith, length-append m.line bytes))) in (
      [],
      Stops-own m bytes [] fault own (λ more. let p = parts more in
          ap (read_on (m.lines + 1)) (ap parts_of (sym (append_assoc m.line bytes more)) ∙ parts-after (m.line ++ bytes) more p (NoFeed-append m.line bytes closed free))
          ∙ read_on-fault (m.lines + 1) ((m.line ++ bytes) ++ p.first) p.others fault (reads ((m.line ++ bytes) ++ p.first) (longer m.line bytes p.first)) (longer_still m.line bytes p.first p.others some)),
      nothing_told m text,
    )

-- a line ends whose last bytes these are
pub Plays-ended : (m : Moment) (bytes : List ℕ) (line : Line) (old new : List ℕ) → NoFeed (m.line ++ bytes) → length (m.line ++ bytes) ≤ 200
    → read_line (m.lines + 1) (m.line ++ bytes) ≡ Ok line → new ≡ old ++ line_text (m.lines + 1) (said m.standing line)
    → Plays m (bytes ++ 10 ∷ []) (passed m line) old new
Plays-ended m bytes line old new closed short reads told =
    Plays-trans m (gathered m bytes) (passed m line) bytes (10 ∷ []) old old new (Plays-gather m bytes old) (Plays-line (gathered m bytes) line old new closed short reads told)

pub Fails-ended : (m : Moment) (bytes : List ℕ) (fault : DebugFault) (text : List ℕ) → NoFeed (m.line ++ bytes)
    → read_line (m.lines + 1) (m.line ++ bytes) ≡ Err fault → Fails m (bytes ++ 10 ∷ []) fault text text
Fails-ended m bytes fault text closed reads =
    Fails-after m (gathered m bytes) bytes (10 ∷ []) text text text fault (Plays-gather m bytes text) (Fails-line (gathered m bytes) fault text closed reads)

pub read-late : (number : ℕ) (bytes : List ℕ) → 100000 < number → read_line number bytes ≡ Err TooManyLines
read-late number bytes late = let t : nat_lt 100000 number ≡ true = grind (arith, nat_tests) in ap (λ b. cond b (Err TooManyLines) (cond (nat_lt 200 (length bytes)) (Err (LineTooLong number)) (placed number (line_of bytes)))) t

pub read-long : (number : ℕ) (bytes : List ℕ) → number ≤ 100000 → 200 < length bytes → read_line number bytes ≡ Err (LineTooLong number)
read-long number bytes early long =
    let s : nat_lt 100000 number ≡ false = grind (arith, nat_tests) in
    let t : nat_lt 200 (length bytes) ≡ true = grind (arith, nat_tests) in
    ap (λ b. cond b (Err TooManyLines) (cond (nat_lt 200 (length bytes)) (Err (LineTooLong number)) (placed number (line_of bytes)))) s
    ∙ ap (λ b. cond b (Err (LineTooLong number)) (placed number (line_of bytes))) t

pub read-within : (number : ℕ) (bytes : List ℕ) → number ≤ 100000 → length bytes ≤ 200 → read_line number bytes ≡ placed number (line_of bytes)
read-within number bytes early short =
    let s : nat_lt 100000 number ≡ false = grind (arith, nat_tests) in
    let t : nat_lt 200 (length bytes) ≡ false = grind (arith, nat_tests) in
    ap (λ b. cond b (Err TooManyLines) (cond (nat_lt 200 (length bytes)) (Err (LineTooLong number)) (placed number (line_of bytes)))) s
    ∙ ap (λ b. cond b (Err (LineTooLong number)) (placed number (line_of bytes))) t

pub placed-yes : (number : ℕ) (line : Line) → may_stand number line ≡ true → placed number (Some line) ≡ Ok line
placed-yes number line e = ap (λ b. cond b (Ok line) (Err (BadLine number))) e

pub placed-no : (number : ℕ) (line : Line) → may_stand number line ≡ false → placed number (Some line) ≡ Err (BadLine number)
placed-no number line e = ap (λ b. cond b (Ok line) (Err (BadLine number))) e

-- what is read breaks no limit, and may stand there
no_line : {A : Type 0} (fault : DebugFault) (line : Line) (r : Result Line DebugFault) → r ≡ Err fault → r ≡ Ok line → A
no_line fault line r e h = absurd (cc)

same_line : (first line : Line) (r : Result Line DebugFault) → r ≡ Ok first → r ≡ Ok line → first ≡ line
same_line first line r e h = cc

above : (a b : ℕ) → nat_lt a b ≡ true → a < b
above a b h = grind (arith, nat_tests)

not_above : (a b : ℕ) → nat_lt a b ≡ false → b ≤ a
not_above a b h = grind (arith, nat_tests)

early_by : (number : ℕ) (bytes : List ℕ) (line : Line) → read_line number bytes ≡ Ok line
    → (nat_lt 100000 number ≡ true) ⊎ (nat_lt 100000 number ≡ false) → number ≤ 100000
early_by number bytes line h (inl t) = no_line TooManyLines line (read_line number bytes) (read-late number bytes (above 100000 number t)) h
early_by number bytes line h (inr f) = not_above 100000 number f

short_by : (number : ℕ) (bytes : List ℕ) (line : Line) → read_line number bytes ≡ Ok line → number ≤ 100000
    → (nat_lt 200 (length bytes) ≡ true) ⊎ (nat_lt 200 (length bytes) ≡ false) → length bytes ≤ 200
short_by number bytes line h early (inl t) = no_line (LineTooLong number) line (read_line number bytes) (read-long number bytes early (above 200 (length bytes) t)) h
short_by number bytes line h early (inr f) = not_above 200 (length bytes) f

stands_by : (number : ℕ) (first line : Line) → placed number (Some first) ≡ Ok line
    → (may_stand number first ≡ true) ⊎ (may_stand number first ≡ false) → (Some first ≡ Some line) × (may_stand number line ≡ true)
stands_by number first line h (inl y) =
    let same = same_line first line (placed number (Some first)) (placed-yes number first y) h in
    (ap Some same, subst (λ l. may_stand number l ≡ true) same y)
stands_by number first line h (inr n) = no_line (BadLine number) line (placed number (Some first)) (placed-no number first n) h

placed-ok : (number : ℕ) (o : Option Line) (line : Line) → placed number o ≡ Ok line → (o ≡ Some line) × (may_stand number line ≡ true)
placed-ok number None line h = no_line (BadLine number) line (Err (BadLine number)) refl h
placed-ok number (Some first) line h = stands_by number first line h (cases_Bool (may_stand number first))

pub Completes-read : (m : Moment) (bytes : List ℕ) (line : Line) → NoFeed (m.line ++ bytes)
    → ((b : List ℕ) (x : Line) → line_of b ≡ Some x → IsLine x × (b ≡ spelling x))
    → read_line (m.lines + 1) (m.line ++ bytes) ≡ Ok line → Completes m bytes line
Completes-read m bytes line closed spells h =
    let early = early_by (m.lines + 1) (m.line ++ bytes) line h (cases_Bool (nat_lt 100000 (m.lines + 1))) in
    let short = short_by (m.lines + 1) (m.line ++ bytes) line h early (cases_Bool (nat_lt 200 (length (m.line ++ bytes)))) in
    let p = placed-ok (m.lines + 1) (line_of (m.line ++ bytes)) line (sym (read-within (m.lines + 1) (m.line ++ bytes) early short) ∙ h) in
    record {
      within = omega (arith, early);
      placed = p.1;
      spelled = (spells (m.line ++ bytes) line p.0).0;
      plays = λ text text' told. Plays-ended m bytes line text text' closed short h told;
    }

unended-placed : (number : ℕ) (line : Option Line) → unended number (placed number line) ≡ broken (BadLine number)
unended-placed number None = refl
unended-placed number (Some line) = go (cases_Bool (may_stand number line))
  where
    go : (may_stand number line ≡ true) ⊎ (may_stand number line ≡ false) → unended number (placed number (Some line)) ≡ broken (BadLine number)
    go (inl e) = ap (unended number) (placed-yes number line e)
    go (inr e) = ap (unended number) (placed-no number line e)

alone : (m : Moment) → NoFeed m.line → rest_of m [] ≡ read_on (m.lines + 1) (m.line ∷ [])
alone m closed = ap (λ l. read_on (m.lines + 1) (parts_of l)) (append-nil m.line) ∙ ap (read_on (m.lines + 1)) (parts-alone m.line closed)

no-lines : (b : Bool) (number : ℕ) (r : Result Line DebugFault) → (cond b whole (unended number r)).lines ≡ []
no-lines true number r = refl
no-lines false number (Ok line) = refl
no-lines false number (Err fault) = refl

-- what stands after the last line feed is no line
pub rest-open : (m : Moment) → NoFeed m.line → (rest_of m []).lines ≡ []
rest-open m closed =
    ap (λ (s : Script). s.lines) (alone m closed) ∙ no-lines ((length m.line == 0) && nat_lt 1 (m.lines + 1)) (m.lines + 1) (read_line (m.lines + 1) m.line)

-- the input ends inside a line, or before there is one
pub rest-broken : (m : Moment) → NoFeed m.line → length m.line ≤ 200 → m.lines < 100000 → ((length m.line == 0) && nat_lt 1 (m.lines + 1)) ≡ false
    → rest_of m [] ≡ broken (BadLine (m.lines + 1))
rest-broken m closed short early inside =
    alone m closed
    ∙ ap (λ b. cond b whole (unended (m.lines + 1) (read_line (m.lines + 1) m.line))) inside
    ∙ ap (unended (m.lines + 1)) (read-within (m.lines + 1) m.line (omega arith) short)
    ∙ unended-placed (m.lines + 1) (line_of m.line)

-- the input ends after a line
pub rest-whole : (m : Moment) → m.line ≡ [] → 0 < m.lines → rest_of m [] ≡ whole
rest-whole m empty some =
    let t : nat_lt 1 (m.lines + 1) ≡ true = grind (arith, nat_tests) in
    ap (λ l. read_on (m.lines + 1) (parts_of (l ++ []))) empty ∙ ap (λ b. cond b whole (unended (m.lines + 1) (read_line (m.lines + 1) []))) t
