-- What was taken of a line, through the bytes that were read and not yet taken.
use Rattle.std.proofs.Common.{◌≡◌, ◌≤◌, ◌<◌, ℕ, ◌+◌, ◌-◌, ◌==◌, false, List, [], ◌∷◌, ◌++◌, Option, None, Some, drop, length, min, take, refl, sym, ap, ap₂, subst, ◌∙◌, append_assoc, append-nil, arith}
use Rattle.std.specs.Io.KnownBytes.{Consumes, IsAtEnd, Keeps, prepend_known}
use Rattle.std.proofs.KnownBytes.{Consumes-kept, Consumes-nil, Consumes-trans}
use Rattle.std.proofs.lemmas.List.{drop-drop, length-append, length-drop, length-take, length-take-le, take-append-drop, take-append-le}
use Rattle.std.proofs.lemmas.List.Elements.{All-append, All-nil, All-take}
use Rattle.shm_journal.specs.Found.{max_journal_line}
use Rattle.shm_journal.specs.LinesOf.{Unended, behind, left_of, line_in}
use Rattle.shm_journal.specs.Taking.{BreaksOff, EndsIn, GoesOnIn, IsOther, Overruns, OverrunsIn, ReadsOver, Takes, TakesPart, most_at_once, whole_with}
use Rattle.shm_journal.specs.declared.journal_error.JournalFault.{JournalFault}
use Rattle.shm_journal.specs.declared.line_reader.Lines.{Lines}
use Rattle.shm_journal.specs.declared.line_read_outcome.Taken.{Taken}
use Rattle.shm_journal.specs.declared.line_read_outcome.Taken.TheVariants as taken

-- ---- bytes that were read and not yet taken

-- what was taken, and what was read further
pub through : (a b : Option (List ℕ)) (bytes over : List ℕ) → Consumes a (prepend_known over b) bytes → Consumes a b (bytes ++ over)
through None b bytes over taken = tt
through (Some xs) None bytes over taken = absurd taken
through (Some xs) (Some ys) bytes over taken = taken ∙ sym (append_assoc bytes over ys)

all-pending : (over ys bytes : List ℕ) → over ++ ys ≡ [] → bytes ++ (over ++ ys) ≡ bytes ++ ys
all-pending [] ys bytes end = refl
all-pending (x ∷ over) ys bytes end = absurd (cc)

-- where nothing is left, nothing was read further
pub through_end : (a b : Option (List ℕ)) (bytes over : List ℕ) → Consumes a (prepend_known over b) bytes → IsAtEnd (prepend_known over b) → Consumes a b bytes
through_end None b bytes over taken end = tt
through_end (Some xs) None bytes over taken end = absurd taken
through_end (Some xs) (Some ys) bytes over taken end = taken ∙ all-pending over ys bytes end

pending : (a b : Option (List ℕ)) (over bytes : List ℕ) → Consumes a b bytes → Consumes (prepend_known over a) b (over ++ bytes)
pending None b over bytes taken = tt
pending (Some xs) None over bytes taken = absurd taken
pending (Some xs) (Some ys) over bytes taken = ap (λ l. over ++ l) taken ∙ sym (append_assoc over bytes ys)

-- bytes that were read are taken
moves : (a : Option (List ℕ)) (xs ys part : List ℕ) → xs ≡ part ++ ys → Consumes (prepend_known xs a) (prepend_known ys a) part
moves None xs ys part e = tt
moves (Some zs) xs ys part e = ap (λ l. l ++ zs) e ∙ append_assoc part ys zs

-- ---- what one read gave of a line

-- the line so far was taken, has no line feed, and lies in its copy
pub record Gathered {A : Type 0} (before : Option (List ℕ)) (whole : ℕ) (now : Lines A) (remaining : Option (List ℕ)) : Type 0 where
  pub taken : Consumes before (left_of now remaining) now.front.items
  pub unended : Unended now.front.items
  pub len : now.len ≡ 0
  pub same : now.whole ≡ whole

both-unended : (front part : List ℕ) → Unended front → Unended part → Unended (front ++ part)
both-unended front part h p = All-append (λ byte. (byte == 10) ≡ false) front part h p

pub goes_on : {A : Type 0} → (before : Option (List ℕ)) (whole : ℕ) (now next : Lines A) (r : Option (List ℕ)) → Gathered before whole now r → GoesOnIn now next → Gathered before whole next r
goes_on before whole now next r g part = record {
  taken =
      subst (Consumes before (left_of next r)) (sym part.front)
      (Consumes-trans before (left_of now r) (left_of next r) now.front.items (behind now) g.taken
      (moves r (behind now) (behind next) (behind now) (sym (ap (λ l. behind now ++ l) part.none ∙ append-nil (behind now)))));
  unended = subst Unended (sym part.front) (both-unended now.front.items (behind now) g.unended part.unended);
  len = part.len;
  same = part.whole ∙ g.same;
}

ends-here : {A : Type 0} → (before : Option (List ℕ)) (whole : ℕ) (now next : Lines A) (r : Option (List ℕ)) → Gathered before whole now r → (e : EndsIn now next)
    → Consumes before (left_of next r) (line_in next ++ 10 ∷ [])
ends-here before whole now next r g e =
    subst (Consumes before (left_of next r))
    (sym (append_assoc now.front.items e.part (10 ∷ [])) ∙ ap (λ l. l ++ 10 ∷ []) (sym e.line))
    (Consumes-trans before (left_of now r) (left_of next r) now.front.items (e.part ++ 10 ∷ []) g.taken
    (moves r (behind now) (behind next) (e.part ++ 10 ∷ []) (e.cut ∙ sym (append_assoc e.part (10 ∷ []) (behind next)))))

overruns-here : {A : Type 0} → (before : Option (List ℕ)) (whole : ℕ) (now next : Lines A) (r : Option (List ℕ)) → Gathered before whole now r → OverrunsIn now next
    → Overruns before (left_of next r)
overruns-here before whole now next r g o = record {
  front = now.front.items ++ o.part;
  taken = Consumes-trans before (left_of now r) (left_of next r) now.front.items o.part g.taken (moves r (behind now) (behind next) o.part o.cut);
  unended = both-unended now.front.items o.part g.unended o.unended;
  long = length-append now.front.items o.part ∙ o.long;
}

-- what is known of what was taken
pub record Known {A : Type 0} (t : Taken) (before : Option (List ℕ)) (whole : ℕ) (next : Lines A) (r : Option (List ℕ)) : Type 0 where
  pub takes : Takes t before (left_of next r) r (line_in next)
  pub unended : Unended (line_in next)
  pub once : length (behind next) < most_at_once
  pub whole_is : next.whole ≡ whole_with t whole (line_in next)

copied : {A : Type 0} → (lines : Lines A) → lines.len ≡ 0 → line_in lines ≡ lines.front.items
copied lines none = ap (λ n. lines.front.items ++ take_of n) none ∙ append-nil lines.front.items
  where
    take_of : ℕ → List ℕ
    take_of n = take n (drop lines.from lines.bytes.items)

pub known : {A : Type 0} → (t : Taken) (before : Option (List ℕ)) (whole : ℕ) (now next : Lines A) (r : Option (List ℕ)) (done : Taken) → (t ≡ taken.Torn → ⊥) → done ≡ t → Gathered before whole now r
    → TakesPart done now next → Known t before whole next r
known taken.Whole before whole now next r done other is g part = let e : EndsIn now next = subst (λ d. TakesPart d now next) is part in record {
  takes = ends-here before whole now next r g e;
  unended = subst Unended (sym e.line) (both-unended now.front.items e.part g.unended e.unended);
  once = e.once;
  whole_is = e.whole ∙ ap (λ n. n + (length (line_in next) + 1)) g.same;
}
known taken.Torn before whole now next r done other is g part = absurd (other refl)
known taken.TooLong before whole now next r done other is g part = let e : OverrunsIn now next = subst (λ d. TakesPart d now next) is part in record {
  takes = overruns-here before whole now next r g e;
  unended = subst Unended (sym (copied next e.len ∙ e.front)) g.unended;
  once = e.once;
  whole_is = e.whole ∙ g.same;
}

nothing : (xs : List ℕ) → length xs ≡ 0 → xs ≡ []
nothing [] h = refl
nothing (x ∷ xs) h = absurd (omega (arith, h))

-- there is no more
pub torn : {A : Type 0} → (before : Option (List ℕ)) (whole : ℕ) (now : Lines A) (r : Option (List ℕ)) → Gathered before whole now r → length (behind now) ≡ 0 → IsAtEnd r
    → Known taken.Torn before whole now r
torn before whole now r g none end = record {
  takes = (subst (Consumes before (left_of now r)) (sym (copied now g.len)) g.taken, end, subst (λ l. IsAtEnd (prepend_known l r)) (sym (nothing (behind now) none)) (at-end r end));
  unended = subst Unended (sym (copied now g.len)) g.unended;
  once = omega (arith, none);
  whole_is = g.same;
}
  where
    at-end : (r : Option (List ℕ)) → IsAtEnd r → IsAtEnd (prepend_known [] r)
    at-end None end = tt
    at-end (Some xs) end = end

-- ---- it breaks off

-- what was gathered, and what was read behind it
pub off : {A : Type 0} → (before now : Option (List ℕ)) (whole : ℕ) (lines : Lines A) (r : Option (List ℕ)) (why : JournalFault) → Gathered before whole lines r
    → ReadsOver (left_of lines r) now why → BreaksOff before now why
off before now whole lines r why g o = record {
  line = lines.front.items;
  over = o.over;
  taken = Consumes-trans before (left_of lines r) now lines.front.items o.over g.taken o.taken;
  unended = g.unended;
  short = omega (arith, lines.short);
  once = o.once;
  other = o.other;
}

-- all that was read and isn't taken
pub over_behind : {A : Type 0} → (lines : Lines A) (r : Option (List ℕ)) (why : JournalFault) → IsOther why → ReadsOver (left_of lines r) r why
over_behind lines r why other = record {
  over = behind lines;
  taken = subst (Consumes (left_of lines r) r) (append-nil (behind lines)) (pending r r (behind lines) [] (Consumes-nil r));
  once = omega (arith, length-drop lines.at lines.bytes.items, lines.once);
  other = other;
}

-- more was read
pub filled : {A : Type 0} → (before : Option (List ℕ)) (whole : ℕ) (old new : Lines A) (r now : Option (List ℕ)) → Gathered before whole old r → Keeps (left_of old r) (left_of new now)
    → new.front.items ≡ old.front.items → new.len ≡ 0 → new.whole ≡ old.whole → Gathered before whole new now
filled before whole old new r now g kept front len same = record {
  taken = subst (Consumes before (left_of new now)) (sym front) (Consumes-kept before (left_of old r) (left_of new now) old.front.items g.taken kept);
  unended = subst Unended (sym front) g.unended;
  len = len;
  same = same ∙ g.same;
}

-- ---- one part of a line

pub line_short : {A : Type 0} → (lines : Lines A) → length (line_in lines) ≤ max_journal_line
line_short lines =
    omega (arith, length-append lines.front.items (take lines.len (drop lines.from lines.bytes.items)), length-take lines.len (drop lines.from lines.bytes.items), lines.short)

take-front : (n len : ℕ) (xs : List ℕ) → n ≤ len → len ≤ length xs → take n (take len xs) ≡ take n xs
take-front n len xs small within =
    sym (take-append-le n (take len xs) (drop len xs) (omega (arith, length-take-le len xs within))) ∙ ap (take n) (take-append-drop len xs)

pub overran : {A : Type 0} → (old new : Lines A) (len n : ℕ) → len ≤ length (behind old) → Unended (take len (behind old)) → max_journal_line < length old.front.items + len
    → n ≡ length old.front.items → new.at ≡ old.at + (8219 - n) → new.bytes.items ≡ old.bytes.items → new.front.items ≡ old.front.items → new.len ≡ 0 → new.whole ≡ old.whole
    → OverrunsIn old new
overran old new len n within h long is at bytes front none whole =
    let few : length old.front.items ≤ max_journal_line = omega (arith, old.short) in
    let room : 8219 - n ≤ len = omega (arith, is, long) in
    let fits : 8219 - n ≤ length (behind old) = omega (arith, room, within) in
    let rest : behind new ≡ drop (8219 - n) (behind old) = ap₂ drop at bytes ∙ sym (drop-drop (8219 - n) old.at old.bytes.items) in record {
      part = take (8219 - n) (behind old);
      cut = sym (ap (λ l. take (8219 - n) (behind old) ++ l) rest ∙ take-append-drop (8219 - n) (behind old));
      unended = subst Unended (take-front (8219 - n) len (behind old) room within) (All-take (λ byte. (byte == 10) ≡ false) (8219 - n) (take len (behind old)) h);
      long = omega (arith, length-take-le (8219 - n) (behind old) fits, is, few);
      front = front;
      len = none;
      whole = whole;
      once = omega (arith, ap length rest, length-drop (8219 - n) (behind old), length-drop old.at old.bytes.items, old.once, is, few);
    }

-- the line ends where it was read
pub ended_here : {A : Type 0} → (old new : Lines A) (len n : ℕ) → length old.front.items ≡ 0 → n ≡ length old.front.items → len < length (behind old)
    → behind old ≡ take len (behind old) ++ 10 ∷ drop (len + 1) (behind old) → Unended (take len (behind old))
    → new.front.items ≡ old.front.items → new.from ≡ old.at → new.len ≡ len → new.at ≡ old.at + len + 1 → new.bytes.items ≡ old.bytes.items → new.whole ≡ old.whole + (n + len + 1)
    → EndsIn old new
ended_here old new len n none is within cut h front from is_len at bytes whole =
    let line : line_in new ≡ old.front.items ++ take len (behind old) = ap₂ (λ f l. f ++ l) front (ap₂ take is_len (ap₂ drop from bytes)) in
    let sum : new.at ≡ old.at + (len + 1) = omega (arith, at) in
    let rest : behind new ≡ drop (len + 1) (behind old) = ap₂ drop sum bytes ∙ sym (drop-drop (len + 1) old.at old.bytes.items) in
    let size : length (line_in new) ≡ len =
    ap length line ∙ length-append old.front.items (take len (behind old)) ∙ omega (arith, none, length-take-le len (behind old) (omega (arith, within))) in record {
      part = take len (behind old);
      cut = cut ∙ ap (λ l. take len (behind old) ++ 10 ∷ l) (sym rest);
      unended = h;
      line = line;
      whole = omega (arith, whole, is, none, size);
      once = omega (arith, ap length rest, length-drop (len + 1) (behind old), length-drop old.at old.bytes.items, old.once);
    }

-- ---- what was taken

pub taken_whole : (t : Taken) (a b remaining : Option (List ℕ)) (line : List ℕ) → t ≡ taken.Whole → Takes t a b remaining line → Consumes a b (line ++ 10 ∷ [])
taken_whole t a b remaining line is h = subst (λ t. Takes t a b remaining line) is h

pub taken_torn : (t : Taken) (a b remaining : Option (List ℕ)) (line : List ℕ) → t ≡ taken.Torn → Takes t a b remaining line
    → Consumes a b line × IsAtEnd remaining × IsAtEnd b
taken_torn t a b remaining line is h = subst (λ t. Takes t a b remaining line) is h

pub taken_too_long : (t : Taken) (a b remaining : Option (List ℕ)) (line : List ℕ) → t ≡ taken.TooLong → Takes t a b remaining line → Overruns a b
taken_too_long t a b remaining line is h = subst (λ t. Takes t a b remaining line) is h

pub count_whole : (t : Taken) (new old : ℕ) (line : List ℕ) → t ≡ taken.Whole → new ≡ whole_with t old line → new ≡ old + (length line + 1)
count_whole t new old line is h = subst (λ t. new ≡ whole_with t old line) is h

pub count_torn : (t : Taken) (new old : ℕ) (line : List ℕ) → t ≡ taken.Torn → new ≡ whole_with t old line → new ≡ old
count_torn t new old line is h = subst (λ t. new ≡ whole_with t old line) is h

-- nothing is taken of what was read
pub unread : {A : Type 0} → (lines : Lines A) (r : Option (List ℕ)) (why : JournalFault) → IsOther why → BreaksOff (left_of lines r) r why
unread lines r why other =
    let o = over_behind lines r why other in record {
      line = [];
      over = o.over;
      taken = o.taken;
      unended = All-nil (λ byte. (byte == 10) ≡ false);
      short = omega arith;
      once = o.once;
      other = other;
    }
