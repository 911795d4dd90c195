-- Where what was read of a journal leads, line by line.
use Rattle.std.proofs.Common.{◌≡◌, ◌≤◌, ◌<◌, inl, inr, ℕ, ◌+◌, ◌==◌, Bool, true, false, List, [], ◌∷◌, ◌++◌, Option, Some, None, cond, length, refl, sym, ap, subst, ◌∙◌, append-nil, append_assoc, arith}
use Rattle.std.specs.Prelude.{nat_lt}
use Rattle.std.specs.Io.KnownBytes.{Consumes, IsAtEnd}
use Rattle.std.proofs.KnownBytes.{Consumes-nil, Consumes-trans}
use Rattle.std.proofs.lemmas.Bool.Decides.{nat_tests}
use Rattle.std.proofs.lemmas.List.{length-append}
use Rattle.std.proofs.lemmas.List.Elements.{All-head, All-tail}
use Rattle.shm_journal.specs.Found.{Found, Sound, Bad, Kind, Lines, bytes_of_lines, found_behind, found_from, found_in, found_of, lines_behind, lines_of, max_journal_line, next_found, then_found, unless_long, with_line}
use Rattle.shm_journal.specs.Leading.{Leads}
use Rattle.shm_journal.specs.LinesOf.{Unended}
use Rattle.shm_journal.specs.ReadUpTo.{BreaksAt, IsSound, LacksLine, ReadsToLine, ReadsWhole, StopsAt}
use Rattle.shm_journal.specs.Replaying.{IsNext}
use Rattle.shm_journal.specs.Taking.{BreaksOff, IsOther, most_at_once}
use Rattle.shm_journal.specs.declared.journal_error.JournalFault.{JournalFault}
use Rattle.shm_journal.specs.declared.journal_error.JournalFault.TheVariants as fault

-- ---- one step

pub next_some : {T : Type 0} → (made : Bool) (after : Option T) (stands : T → Type 0) → made ≡ true → IsNext made after stands
    → (state : T) × (after ≡ Some state) × stands state
next_some true after stands e h = h
next_some false after stands e h = absurd (cc)

pub next_none : {T : Type 0} → (made : Bool) (after : Option T) (stands : T → Type 0) → made ≡ false → IsNext made after stands → after ≡ None
next_none true after stands e h = absurd (cc)
next_none false after stands e h = h

-- ---- whole lines

abbrev IsNoFeed : ℕ → Type 0
IsNoFeed byte = (byte == 10) ≡ false

abbrev torn_alone : List ℕ → Lines
torn_alone line = record { whole = []; torn = line }

-- bytes without a line feed go into the line
front_grows : (seen front rest : List ℕ) → Unended front → lines_behind seen (front ++ rest) ≡ lines_behind (seen ++ front) rest
unfolding lines_behind
front_grows seen [] rest h = ap (λ l. lines_behind l rest) (sym (append-nil seen))
front_grows seen (byte ∷ front) rest h =
    ap (λ b. cond b (with_line seen (lines_behind [] (front ++ rest))) (lines_behind (seen ++ byte ∷ []) (front ++ rest))) (All-head IsNoFeed byte front h)
    ∙ front_grows (seen ++ byte ∷ []) front rest (All-tail IsNoFeed byte front h)
    ∙ ap (λ l. lines_behind l rest) (append_assoc seen (byte ∷ []) front)

-- a line and its line feed stand first
line_first : (line more : List ℕ) → Unended line → lines_of ((line ++ 10 ∷ []) ++ more) ≡ with_line line (lines_of more)
unfolding lines_behind
line_first line more h = ap lines_of (append_assoc line (10 ∷ []) more) ∙ front_grows [] line (10 ∷ more) h

pub line_is_torn : (line : List ℕ) → Unended line → lines_of line ≡ torn_alone line
unfolding lines_behind
line_is_torn line h = ap lines_of (sym (append-nil line)) ∙ front_grows [] line [] h

-- ---- lines that are too long

short-test : (n : ℕ) → n ≤ 8218 → nat_lt 8218 n ≡ false
short-test n h = grind (arith, nat_tests)

long-test : (n : ℕ) → 8218 < n → nat_lt 8218 n ≡ true
long-test n h = grind (arith, nat_tests)

unless-short : {T : Type 0} → (number : ℕ) (line : List ℕ) (says : Found T) → length line ≤ max_journal_line → unless_long number line says ≡ says
unless-short number line says short = ap (λ b. cond b (Bad number) says) (short-test (length line) short)

unless-long : {T : Type 0} → (number : ℕ) (line : List ℕ) (says : Found T) → max_journal_line < length line → unless_long number line says ≡ Bad number
unless-long number line says long = ap (λ b. cond b (Bad number) says) (long-test (length line) long)

longer : (line : List ℕ) (byte : ℕ) → max_journal_line < length line → max_journal_line < length (line ++ byte ∷ [])
longer line byte long = omega (arith, length-append line (byte ∷ []), long)

either : {T : Type 0} → (says : Lines → Found T) (bad : Found T) (b : Bool) (x y : Lines) → says x ≡ bad → says y ≡ bad → says (cond b x y) ≡ bad
either says bad true x y p q = p
either says bad false x y p q = q

-- what is said of every line that is too long is said of one that may go on
long_behind : {T : Type 0} → (says : Lines → Found T) (bad : Found T) → ((line : List ℕ) → max_journal_line < length line → says (torn_alone line) ≡ bad)
    → ((line : List ℕ) (lines : Lines) → max_journal_line < length line → says (with_line line lines) ≡ bad)
    → (seen rest : List ℕ) → max_journal_line < length seen → says (lines_behind seen rest) ≡ bad
unfolding lines_behind
long_behind says bad torn whole seen [] long = torn seen long
long_behind says bad torn whole seen (byte ∷ rest) long =
    either says bad (byte == 10) (with_line seen (lines_behind [] rest)) (lines_behind (seen ++ byte ∷ []) rest) (whole seen (lines_behind [] rest) long)
    (long_behind says bad torn whole (seen ++ byte ∷ []) rest (longer seen byte long))

-- ---- what was read leads on

none-before : (n : ℕ) → n ≡ 0 + n
none-before n = omega arith

pub begun : {T : Type 0} → (next : T → List ℕ → Option T) (left : Option (List ℕ)) (number : ℕ) (state : T)
    → Leads next (λ rest. found_behind next number state rest) left left number state 0
begun next left number state =
    record { bytes = []; taken = Consumes-nil left; onward = λ more. refl; counted = λ more. none-before (bytes_of_lines (lines_of more).whole); torn = λ more. refl }

-- it leads to where it stands
sound-so-far : {T : Type 0} → (next : T → List ℕ → Option T) (says : List ℕ → Found T) (before left : Option (List ℕ)) (number : ℕ) (state : T) (whole : ℕ)
    → (l : Leads next says before left number state whole) → says l.bytes ≡ Sound state
unfolding found_from lines_behind
sound-so-far next says before left number state whole l = ap says (sym (append-nil l.bytes)) ∙ l.onward []

-- ---- one more line

pub one_line : {T : Type 0} → (next : T → List ℕ → Option T) (number : ℕ) (state : T) (line more : List ℕ) → Unended line → length line ≤ max_journal_line
    → found_behind next number state ((line ++ 10 ∷ []) ++ more) ≡ next_found number (next state line) (λ after. found_behind next (number + 1) after more)
unfolding found_from
one_line next number state line more h short =
    ap (λ (l : Lines). found_from next number state l.whole l.torn) (line_first line more h) ∙ unless-short number line _ short

counts : (w l b : ℕ) → w + (l + 1 + b) ≡ w + (l + 1) + b
counts w l b = omega arith

pub counts-line : (line more : List ℕ) → Unended line → bytes_of_lines (lines_of ((line ++ 10 ∷ []) ++ more)).whole ≡ length line + 1 + bytes_of_lines (lines_of more).whole
counts-line line more h = ap (λ (l : Lines). bytes_of_lines l.whole) (line_first line more h)

pub one_more : {T : Type 0} → (next : T → List ℕ → Option T) (says : List ℕ → Found T) (before left now : Option (List ℕ)) (number : ℕ) (state after : T) (whole : ℕ) (line : List ℕ)
    → Leads next says before left number state whole → Consumes left now (line ++ 10 ∷ []) → Unended line → length line ≤ max_journal_line → next state line ≡ Some after
    → Leads next says before now (number + 1) after (whole + (length line + 1))
one_more next says before left now number state after whole line l taken h short e = record {
  bytes = l.bytes ++ (line ++ 10 ∷ []);
  taken = Consumes-trans before left now l.bytes (line ++ 10 ∷ []) l.taken taken;
  onward = λ more.
      ap says (append_assoc l.bytes (line ++ 10 ∷ []) more) ∙ l.onward ((line ++ 10 ∷ []) ++ more) ∙ one_line next number state line more h short
      ∙ ap (λ o. next_found number o (λ x. found_behind next (number + 1) x more)) e;
  counted = λ more.
      ap (λ b. bytes_of_lines (lines_of b).whole) (append_assoc l.bytes (line ++ 10 ∷ []) more) ∙ l.counted ((line ++ 10 ∷ []) ++ more)
      ∙ ap (λ n. whole + n) (counts-line line more h) ∙ counts whole (length line) (bytes_of_lines (lines_of more).whole);
  torn = λ more.
      ap (λ b. (lines_of b).torn) (append_assoc l.bytes (line ++ 10 ∷ []) more) ∙ l.torn ((line ++ 10 ∷ []) ++ more)
      ∙ ap (λ (x : Lines). x.torn) (line_first line more h);
}

-- ---- the end

pub ended-says : {T : Type 0} → (next : T → List ℕ → Option T) (number : ℕ) (state : T) (torn : List ℕ) → Unended torn → length torn ≤ max_journal_line
    → found_behind next number state torn ≡ Sound state
unfolding found_from
ended-says next number state torn h short =
    ap (λ (l : Lines). found_from next number state l.whole l.torn) (line_is_torn torn h) ∙ unless-short number torn (Sound state) short

none-more : (w : ℕ) → w + 0 ≡ w
none-more w = omega arith

pub ended : {T : Type 0} → (next : T → List ℕ → Option T) (says : List ℕ → Found T) (before left now : Option (List ℕ)) (number : ℕ) (state : T) (whole : ℕ) (torn : List ℕ)
    → Leads next says before left number state whole → Consumes left now torn → Unended torn → length torn ≤ max_journal_line → IsAtEnd now
    → (read : ReadsWhole says before now state whole) × (torn ≡ (lines_of read.bytes).torn)
ended next says before left now number state whole torn l taken h short end = (
  record {
    bytes = l.bytes ++ torn;
    taken = Consumes-trans before left now l.bytes torn l.taken taken;
    end = end;
    sound = l.onward torn ∙ ended-says next number state torn h short;
    counted =
        sym (l.counted torn ∙ ap (λ (x : Lines). whole + bytes_of_lines x.whole) (line_is_torn torn h) ∙ none-more whole);
  },
  sym (l.torn torn ∙ ap (λ (x : Lines). x.torn) (line_is_torn torn h)),
)

-- ---- a line that can't be next

line-over : (line over : List ℕ) → (line ++ 10 ∷ []) ++ over ≡ line ++ 10 ∷ over
line-over line over = append_assoc line (10 ∷ []) over

pub stops : {T : Type 0} → (next : T → List ℕ → Option T) (says : List ℕ → Found T) (before left now : Option (List ℕ)) (number : ℕ) (state : T) (whole : ℕ) (line over : List ℕ)
    → Leads next says before left number state whole → Consumes left now ((line ++ 10 ∷ []) ++ over) → Unended line → length line ≤ max_journal_line → length over < most_at_once
    → next state line ≡ None → StopsAt says before now (Bad number)
stops next says before left now number state whole line over l taken h short once e = record {
  before = l.bytes;
  line = line ++ 10 ∷ [];
  over = over;
  taken = Consumes-trans before left now l.bytes ((line ++ 10 ∷ []) ++ over) l.taken taken;
  sound = inr (state, sound-so-far next says before left number state whole l);
  is_one = inl (line, refl, h, short);
  once = once;
  bad = λ rest.
      l.onward ((line ++ 10 ∷ []) ++ rest) ∙ one_line next number state line rest h short
      ∙ ap (λ o. next_found number o (λ x. found_behind next (number + 1) x rest)) e;
}

long-entry : {T : Type 0} → (next : T → List ℕ → Option T) (number : ℕ) (state : T) (front rest : List ℕ) → Unended front → length front ≡ max_journal_line + 1
    → found_behind next number state (front ++ rest) ≡ Bad number
unfolding found_from
long-entry next number state front rest h long =
    ap (λ (l : Lines). found_from next number state l.whole l.torn) (front_grows [] front rest h)
    ∙ long_behind (λ l. found_from next number state l.whole l.torn) (Bad number) (λ line over. unless-long number line _ over)
    (λ line lines over. unless-long number line _ over) front rest (omega (arith, long))

pub overruns : {T : Type 0} → (next : T → List ℕ → Option T) (says : List ℕ → Found T) (before left now : Option (List ℕ)) (number : ℕ) (state : T) (whole : ℕ) (front over : List ℕ)
    → Leads next says before left number state whole → Consumes left now (front ++ over) → Unended front → length front ≡ max_journal_line + 1 → length over < most_at_once
    → StopsAt says before now (Bad number)
overruns next says before left now number state whole front over l taken h long once = record {
  before = l.bytes;
  line = front;
  over = over;
  taken = Consumes-trans before left now l.bytes (front ++ over) l.taken taken;
  sound = inr (state, sound-so-far next says before left number state whole l);
  is_one = inr (h, long);
  once = once;
  bad = λ rest. l.onward (front ++ rest) ∙ long-entry next number state front rest h long;
}

-- ---- memory is missing, or the reader fails

pub breaks : {T : Type 0} → (next : T → List ℕ → Option T) (says : List ℕ → Found T) (before left now : Option (List ℕ)) (number : ℕ) (state : T) (whole : ℕ) (line over : List ℕ)
    → Leads next says before left number state whole → Consumes left now (line ++ over) → Unended line → length line ≤ max_journal_line → length over ≤ most_at_once
    → BreaksAt says before now
breaks next says before left now number state whole line over l taken h short once = record {
  before = l.bytes;
  line = line;
  over = over;
  taken = Consumes-trans before left now l.bytes (line ++ over) l.taken taken;
  sound = inr (state, sound-so-far next says before left number state whole l);
  unended = h;
  short = short;
  once = once;
}

other-fault : {T : Type 0} → (says : List ℕ → Found T) (before now : Option (List ℕ)) (why : JournalFault) → IsOther why → BreaksAt says before now → ReadsToLine says before now why
other-fault says before now fault.OutOfMemory other h = h
other-fault says before now fault.ReadFault other h = h
other-fault says before now (fault.BadLine number) other h = absurd other
other-fault says before now fault.UnendedState other h = absurd other
other-fault says before now fault.BeginsWithState other h = absurd other

pub broken : {T : Type 0} → (next : T → List ℕ → Option T) (says : List ℕ → Found T) (before left now : Option (List ℕ)) (number : ℕ) (state : T) (whole : ℕ) (why : JournalFault)
    → Leads next says before left number state whole → BreaksOff left now why → ReadsToLine says before now why
broken next says before left now number state whole why l b =
    other-fault says before now why b.other (breaks next says before left now number state whole b.line b.over l b.taken b.unended b.short b.once)

-- ---- the rest behind the first line

joined-sound : {T : Type 0} → (next : T → List ℕ → Option T) (says : List ℕ → Found T) (before left : Option (List ℕ)) (state : T) (whole : ℕ) (bytes : List ℕ)
    → (l : Leads next says before left 2 state whole) → IsSound (λ rest. found_behind next 2 state rest) bytes → IsSound says (l.bytes ++ bytes)
unfolding found_from lines_behind
joined-sound next says before left state whole bytes l (inl none) = inr (state, l.onward bytes ∙ ap (λ b. found_behind next 2 state b) none)
joined-sound next says before left state whole bytes l (inr some) = inr (some.0, l.onward bytes ∙ some.1)

joined-stop : {T : Type 0} → (next : T → List ℕ → Option T) (says : List ℕ → Found T) (before left now : Option (List ℕ)) (state : T) (whole : ℕ) (what : Found T)
    → Leads next says before left 2 state whole → StopsAt (λ rest. found_behind next 2 state rest) left now what → StopsAt says before now what
joined-stop next says before left now state whole what l s = record {
  before = l.bytes ++ s.before;
  line = s.line;
  over = s.over;
  taken = subst (Consumes before now) (sym (append_assoc l.bytes s.before (s.line ++ s.over))) (Consumes-trans before left now l.bytes (s.before ++ (s.line ++ s.over)) l.taken s.taken);
  sound = joined-sound next says before left state whole s.before l s.sound;
  is_one = s.is_one;
  once = s.once;
  bad = λ rest. ap says (append_assoc l.bytes s.before (s.line ++ rest)) ∙ l.onward (s.before ++ (s.line ++ rest)) ∙ s.bad rest;
}

joined-break : {T : Type 0} → (next : T → List ℕ → Option T) (says : List ℕ → Found T) (before left now : Option (List ℕ)) (state : T) (whole : ℕ)
    → Leads next says before left 2 state whole → BreaksAt (λ rest. found_behind next 2 state rest) left now → BreaksAt says before now
joined-break next says before left now state whole l b = record {
  before = l.bytes ++ b.before;
  line = b.line;
  over = b.over;
  taken = subst (Consumes before now) (sym (append_assoc l.bytes b.before (b.line ++ b.over))) (Consumes-trans before left now l.bytes (b.before ++ (b.line ++ b.over)) l.taken b.taken);
  sound = joined-sound next says before left state whole b.before l b.sound;
  unended = b.unended;
  short = b.short;
  once = b.once;
}

pub joined_fault : {T : Type 0} → (next : T → List ℕ → Option T) (says : List ℕ → Found T) (before left now : Option (List ℕ)) (state : T) (whole : ℕ) (why : JournalFault)
    → Leads next says before left 2 state whole → ReadsToLine (λ rest. found_behind next 2 state rest) left now why → ReadsToLine says before now why
joined_fault next says before left now state whole fault.OutOfMemory l h = joined-break next says before left now state whole l h
joined_fault next says before left now state whole fault.ReadFault l h = joined-break next says before left now state whole l h
joined_fault next says before left now state whole (fault.BadLine number) l h = joined-stop next says before left now state whole (Bad number) l h
joined_fault next says before left now state whole fault.UnendedState l h = absurd h
joined_fault next says before left now state whole fault.BeginsWithState l h = absurd h

pub joined_whole : {T : Type 0} → (next : T → List ℕ → Option T) (says : List ℕ → Found T) (before left now : Option (List ℕ)) (state after : T) (whole more : ℕ)
    → Leads next says before left 2 state whole → ReadsWhole (λ rest. found_behind next 2 state rest) left now after more → ReadsWhole says before now after (whole + more)
joined_whole next says before left now state after whole more l r = record {
  bytes = l.bytes ++ r.bytes;
  taken = Consumes-trans before left now l.bytes r.bytes l.taken r.taken;
  end = r.end;
  sound = l.onward r.bytes ∙ r.sound;
  counted = ap (λ n. whole + n) r.counted ∙ sym (l.counted r.bytes);
}

-- ---- the first line

pub one-first : {T : Type 0} → (kind : Kind T) (line more : List ℕ) → Unended line → length line ≤ max_journal_line
    → found_of kind ((line ++ 10 ∷ []) ++ more) ≡ then_found (kind.first line) (λ state. found_behind kind.next 2 state more)
one-first kind line more h short = ap (λ (l : Lines). found_in kind l.whole l.torn) (line_first line more h) ∙ unless-short 1 line _ short

pub first_leads : {T : Type 0} → (kind : Kind T) (before left : Option (List ℕ)) (state : T) (line : List ℕ) → Consumes before left (line ++ 10 ∷ []) → Unended line
    → length line ≤ max_journal_line → kind.first line ≡ Sound state → Leads kind.next (found_of kind) before left 2 state (length line + 1)
first_leads kind before left state line taken h short e = record {
  bytes = line ++ 10 ∷ [];
  taken = taken;
  onward = λ more. one-first kind line more h short ∙ ap (λ f. then_found f (λ state. found_behind kind.next 2 state more)) e;
  counted = λ more. counts-line line more h;
  torn = λ more. ap (λ (x : Lines). x.torn) (line_first line more h);
}

pub first_stops : {T : Type 0} → (kind : Kind T) (before now : Option (List ℕ)) (line over : List ℕ) (what : Found T) → Consumes before now ((line ++ 10 ∷ []) ++ over) → Unended line
    → length line ≤ max_journal_line → length over < most_at_once → kind.first line ≡ what → ((onward : T → Found T) → then_found what onward ≡ what)
    → StopsAt (found_of kind) before now what
first_stops kind before now line over what taken h short once e ends = record {
  before = [];
  line = line ++ 10 ∷ [];
  over = over;
  taken = taken;
  sound = inl refl;
  is_one = inl (line, refl, h, short);
  once = once;
  bad = λ rest. one-first kind line rest h short ∙ ap (λ f. then_found f (λ state. found_behind kind.next 2 state rest)) e ∙ ends (λ state. found_behind kind.next 2 state rest);
}

pub first_overruns : {T : Type 0} → (kind : Kind T) (before now : Option (List ℕ)) (front over : List ℕ) → Consumes before now (front ++ over) → Unended front
    → length front ≡ max_journal_line + 1 → length over < most_at_once → StopsAt (found_of kind) before now (Bad 1)
first_overruns kind before now front over taken h long once = record {
  before = [];
  line = front;
  over = over;
  taken = taken;
  sound = inl refl;
  is_one = inr (h, long);
  once = once;
  bad = λ rest.
      ap (λ (l : Lines). found_in kind l.whole l.torn) (front_grows [] front rest h)
      ∙ long_behind (λ l. found_in kind l.whole l.torn) (Bad 1) (λ line over. unless-long 1 line _ over) (λ line lines over. unless-long 1 line _ over) front rest (omega (arith, long));
}

pub first_breaks : {T : Type 0} → (kind : Kind T) (before now : Option (List ℕ)) (why : JournalFault) → BreaksOff before now why → BreaksAt (found_of kind) before now
first_breaks kind before now why b = record {
  before = [];
  line = b.line;
  over = b.over;
  taken = b.taken;
  sound = inl refl;
  unended = b.unended;
  short = b.short;
  once = b.once;
}

-- there is none
pub alone-says : {T : Type 0} → (kind : Kind T) (torn : List ℕ) → Unended torn → length torn ≤ max_journal_line → found_of kind torn ≡ kind.alone torn
alone-says kind torn h short = ap (λ (l : Lines). found_in kind l.whole l.torn) (line_is_torn torn h) ∙ unless-short 1 torn (kind.alone torn) short

pub first_lacks : {T : Type 0} → (kind : Kind T) (before now : Option (List ℕ)) (torn : List ℕ) (what : Found T) → Consumes before now torn → Unended torn → length torn ≤ max_journal_line
    → IsAtEnd now → kind.alone torn ≡ what → LacksLine (found_of kind) before now what
first_lacks kind before now torn what taken h short end e =
    record { bytes = torn; taken = taken; unended = h; short = short; end = end; bad = alone-says kind torn h short ∙ e }

pub first_alone : {T : Type 0} → (kind : Kind T) (before now : Option (List ℕ)) (torn : List ℕ) (state : T) → Consumes before now torn → Unended torn → length torn ≤ max_journal_line
    → IsAtEnd now → kind.alone torn ≡ Sound state → ReadsWhole (found_of kind) before now state 0
first_alone kind before now torn state taken h short end e = record {
  bytes = torn;
  taken = taken;
  end = end;
  sound = alone-says kind torn h short ∙ e;
  counted = sym (ap (λ (x : Lines). bytes_of_lines x.whole) (line_is_torn torn h));
}
