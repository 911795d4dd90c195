-- Lines that are typed, byte by byte.
use Rattle.std.proofs.Common.{◌≡◌, ℕ, ◌+◌, ◌<◌, ◌≤◌, ◌==◌, ◌&&◌, ◌⊎◌, inl, inr, Bool, true, false, not, if◌then◌else◌, List, [], ◌∷◌, ◌++◌, All, drop, get_or, length, min, nat_lt, take, Option, refl, sym, ap, subst, ◌∙◌, arith, append_assoc, append-nil, length-append, length-take}
use Rattle.std.proofs.lemmas.Bool.Decides.{nat_tests}
use Rattle.std.proofs.lemmas.Bool.{cases_Bool, cases_lt}
use Rattle.std.proofs.lemmas.List.{take-append-drop, take-append-le, take_all, take_more}
use Rattle.std.proofs.lemmas.List.Elements.{All-append, All-cons, All-nil}
use Rattle.std.specs.Prelude.{IfOk, Ok, Err, OnErr, OnOk, Result}
use Rattle.shm_prompt.specs.Command.{command_of, is_notes, is_quit, is_save}
use Rattle.shm_prompt.specs.Dialog.{ObeyedTyped, too_long}
use Rattle.shm_prompt.specs.Given.{Given}
use Rattle.shm_prompt.specs.Saves.{HaltsNotes, HaltsScript, Save, SavesNotes, SavesTyped}
use Rattle.shm_prompt.specs.Typing.{AllAnswered, Answers, GoesOn, Halts, HaltsLine, IsKept, IsUnfed, Moment, Obeys, Quits, Starves, is_too_long, moment, unblanked, unsaved_after, with_feeds}
use Rattle.shm_prompt.specs.State.{State}
use Rattle.shm_prompt.specs.declared.unsaved_changes.Unsaved.{Unsaved}

-- ---- what is kept of a line

-- nothing yet
pub kept_none : (kept : List ℕ) (is_long : Bool) → kept ≡ [] → is_long ≡ false → IsKept [] kept is_long
unfolding unblanked
kept_none kept is_long none short = record { unended = All-nil (λ byte. (byte == 10) ≡ false); front = none; long = short }

between : (xs kept : List ℕ) (is_long : Bool) → kept ≡ take 200 xs → is_long ≡ nat_lt 200 (length xs) → ((length kept == 0) && not is_long) ≡ (length xs == 0)
between [] kept is_long front long = ap (λ l. (length l == 0) && not is_long) front ∙ ap (λ b. true && not b) long
between (x ∷ xs) kept is_long front long =
    let cut : length kept ≡ length (take 200 (x ∷ xs)) = ap length front in
    let some : 0 < length kept = omega (arith, cut, length-take 200 (x ∷ xs)) in
    let full : (length kept == 0) ≡ false = grind (arith, nat_tests) in
    let other : (length (x ∷ xs) == 0) ≡ false = grind (arith, nat_tests) in
    ap (λ b. b && not is_long) full ∙ sym other

pub kept_between : (typed kept : List ℕ) (is_long : Bool) → IsKept typed kept is_long → ((length kept == 0) && not is_long) ≡ (length (unblanked typed) == 0)
kept_between typed kept is_long is = between (unblanked typed) kept is_long is.front is.long

is-none : (xs : List ℕ) → (length xs == 0) ≡ true → xs ≡ []
is-none [] e = refl
is-none (x ∷ xs) e = absurd (grind (arith, nat_tests))

blank-step : (b : Bool) (u v : List ℕ) (x : ℕ) (typed : List ℕ) → (u ≡ [] → v ≡ []) → (if b then u else x ∷ typed) ≡ [] → (if b then v else x ∷ (typed ++ 32 ∷ [])) ≡ []
blank-step true u v x typed ih h = ih h
blank-step false u v x typed ih h = absurd (cc)

unblanked-blank : (typed : List ℕ) → unblanked typed ≡ [] → unblanked (typed ++ 32 ∷ []) ≡ []
unfolding unblanked
unblanked-blank [] h = refl
unblanked-blank (x ∷ typed) h = blank-step (x == 32) (unblanked typed) (unblanked (typed ++ 32 ∷ [])) x typed (unblanked-blank typed) h

more-step : (b : Bool) (u v : List ℕ) (x byte : ℕ) (typed : List ℕ) → (((byte == 32) && (length u == 0)) ≡ false → v ≡ u ++ byte ∷ [])
    → ((byte == 32) && (length (if b then u else x ∷ typed) == 0)) ≡ false → (if b then v else x ∷ (typed ++ byte ∷ [])) ≡ (if b then u else x ∷ typed) ++ byte ∷ []
more-step true u v x byte typed ih h = ih h
more-step false u v x byte typed ih h = refl

both-true : (b : Bool) → (b && true) ≡ false → b ≡ false
both-true true h = h
both-true false h = refl

unblanked-more : (typed : List ℕ) (byte : ℕ) → ((byte == 32) && (length (unblanked typed) == 0)) ≡ false → unblanked (typed ++ byte ∷ []) ≡ unblanked typed ++ byte ∷ []
unfolding unblanked
unblanked-more [] byte h = ap (λ b. if b then [] else byte ∷ []) (both-true (byte == 32) h)
unblanked-more (x ∷ typed) byte h = more-step (x == 32) (unblanked typed) (unblanked (typed ++ byte ∷ [])) x byte typed (unblanked-more typed byte) h

unfed-more : (xs : List ℕ) (byte : ℕ) → IsUnfed xs → (byte == 10) ≡ false → IsUnfed (xs ++ byte ∷ [])
unfed-more xs byte h e =
    All-append (λ byte. (byte == 10) ≡ false) xs (byte ∷ []) h (All-cons (λ byte. (byte == 10) ≡ false) byte [] e (All-nil (λ byte. (byte == 10) ≡ false)))

both-left : (a b : Bool) → (a && b) ≡ true → a ≡ true
both-left true b h = refl
both-left false b h = absurd (cc)

both-right : (a b : Bool) → (a && b) ≡ true → b ≡ true
both-right true b h = h
both-right false b h = absurd (cc)

is-blank : (byte : ℕ) → (byte == 32) ≡ true → byte ≡ 32
is-blank byte e = grind (arith, nat_tests)

-- a blank before a line
pub grown_blank : (typed kept : List ℕ) (is_long : Bool) (byte : ℕ) → IsKept typed kept is_long → (byte == 10) ≡ false
    → ((byte == 32) && ((length kept == 0) && not is_long)) ≡ true → IsKept (typed ++ byte ∷ []) kept is_long
grown_blank typed kept is_long byte is plain blank =
    let space : byte ≡ 32 = is-blank byte (both-left (byte == 32) ((length kept == 0) && not is_long) blank) in
    let first = both-right (byte == 32) ((length kept == 0) && not is_long) blank in
    let none : unblanked typed ≡ [] = is-none (unblanked typed) (sym (kept_between typed kept is_long is) ∙ first) in
    let still : unblanked (typed ++ byte ∷ []) ≡ unblanked typed = ap (λ b. unblanked (typed ++ b ∷ [])) space ∙ unblanked-blank typed none ∙ sym none in
    record {
      unended = unfed-more typed byte is.unended plain;
      front = is.front ∙ ap (λ xs. take 200 xs) (sym still);
      long = is.long ∙ ap (λ xs. nat_lt 200 (length xs)) (sym still);
    }

-- the byte is no blank before a line
abbrev pub IsNoBlank : List ℕ → Bool → ℕ → Type 0
IsNoBlank kept is_long byte = ((byte == 32) && ((length kept == 0) && not is_long)) ≡ false

grown : (typed kept : List ℕ) (is_long : Bool) (byte : ℕ) → IsKept typed kept is_long → IsNoBlank kept is_long byte → unblanked (typed ++ byte ∷ []) ≡ unblanked typed ++ byte ∷ []
grown typed kept is_long byte is other = unblanked-more typed byte (ap (λ b. (byte == 32) && b) (sym (kept_between typed kept is_long is)) ∙ other)

full-front : (xs kept : List ℕ) (byte : ℕ) → kept ≡ take 200 xs → length kept ≡ 200 → kept ≡ take 200 (xs ++ byte ∷ [])
full-front xs kept byte front full =
    let cut : length (take 200 xs) ≡ 200 = ap length (sym front) ∙ full in
    let enough : 200 ≤ length xs = omega (arith, cut, length-take 200 xs) in
    front ∙ sym (take-append-le 200 xs (byte ∷ []) enough)

full-long : (xs kept : List ℕ) (byte : ℕ) → kept ≡ take 200 xs → length kept ≡ 200 → true ≡ nat_lt 200 (length (xs ++ byte ∷ []))
full-long xs kept byte front full =
    let cut : length (take 200 xs) ≡ 200 = ap length (sym front) ∙ full in
    let enough : 200 ≤ length xs = omega (arith, cut, length-take 200 xs) in
    let longer = length-append xs (byte ∷ []) in
    let more : 200 < length (xs ++ byte ∷ []) = omega (arith, longer, enough) in
    grind (arith, nat_tests)

-- a byte that is too many
pub grown_full : (typed kept : List ℕ) (is_long : Bool) (byte : ℕ) → IsKept typed kept is_long → (byte == 10) ≡ false → IsNoBlank kept is_long byte → length kept ≡ 200
    → IsKept (typed ++ byte ∷ []) kept true
grown_full typed kept is_long byte is plain other full =
    let e = grown typed kept is_long byte is other in
    record {
      unended = unfed-more typed byte is.unended plain;
      front = full-front (unblanked typed) kept byte is.front full ∙ ap (λ xs. take 200 xs) (sym e);
      long = full-long (unblanked typed) kept byte is.front full ∙ ap (λ xs. nat_lt 200 (length xs)) (sym e);
    }

below-or : (m : ℕ) → (200 ≤ m → ⊥) → m < 200
below-or m apart = by-order (cases_lt m 200)
  where
    by-order : (m < 200) ⊎ (200 ≤ m) → m < 200
    by-order (inl low) = low
    by-order (inr high) = absurd (apart high)

short-of : (xs kept : List ℕ) → kept ≡ take 200 xs → (length kept ≡ 200 → ⊥) → length xs < 200
short-of xs kept front apart =
    let cut : length kept ≡ length (take 200 xs) = ap length front in
    below-or (length xs) (λ high. apart (omega (arith, cut, length-take 200 xs, high)))

more-front : (xs kept new : List ℕ) (byte : ℕ) → kept ≡ take 200 xs → length xs < 200 → new ≡ kept ++ byte ∷ [] → new ≡ take 200 (xs ++ byte ∷ [])
more-front xs kept new byte front short grows =
    let longer = length-append xs (byte ∷ []) in
    grows ∙ ap (λ l. l ++ byte ∷ []) (front ∙ take_all 200 xs (omega (arith, short))) ∙ sym (take_all 200 (xs ++ byte ∷ []) (omega (arith, longer, short)))

more-long : (xs : List ℕ) (is_long : Bool) (byte : ℕ) → is_long ≡ nat_lt 200 (length xs) → length xs < 200 → is_long ≡ nat_lt 200 (length (xs ++ byte ∷ []))
more-long xs is_long byte long short =
    let longer = length-append xs (byte ∷ []) in
    let one : nat_lt 200 (length xs) ≡ false = grind (arith, nat_tests) in
    let more : length (xs ++ byte ∷ []) ≤ 200 = omega (arith, longer, short) in
    let two : nat_lt 200 (length (xs ++ byte ∷ [])) ≡ false = grind (arith, nat_tests) in
    long ∙ one ∙ sym two

-- a byte more
pub grown_more : (typed kept new : List ℕ) (is_long : Bool) (byte : ℕ) → IsKept typed kept is_long → (byte == 10) ≡ false → IsNoBlank kept is_long byte
    → (length kept ≡ 200 → ⊥) → new ≡ kept ++ byte ∷ [] → IsKept (typed ++ byte ∷ []) new is_long
grown_more typed kept new is_long byte is plain other room grows =
    let e = grown typed kept is_long byte is other in
    let short = short-of (unblanked typed) kept is.front room in
    record {
      unended = unfed-more typed byte is.unended plain;
      front = more-front (unblanked typed) kept new byte is.front short grows ∙ ap (λ xs. take 200 xs) (sym e);
      long = more-long (unblanked typed) is_long byte is.long short ∙ ap (λ xs. nat_lt 200 (length xs)) (sym e);
    }

-- ---- what is kept is the line, unless it is too long

whole : (xs kept : List ℕ) → kept ≡ take 200 xs → false ≡ nat_lt 200 (length xs) → kept ≡ xs
whole xs kept front long =
    let short : length xs ≤ 200 = grind (arith, nat_tests) in
    front ∙ take_all 200 xs short

module _ {F : Type 0} (saves : F → Option (List Save)) (gives : F → List ℕ → Given → Type 0) where
  answers-by : (b : Bool) (xs kept : List ℕ) (old new : Moment F) (quits : Bool) → b ≡ nat_lt 200 (length xs) → kept ≡ take 200 xs
      → Answers saves gives b kept old quits new → Answers saves gives b xs old quits new
  answers-by true xs kept old new quits long front a = a
  answers-by false xs kept old new quits long front a = subst (λ l. Answers saves gives false l old quits new) (whole xs kept front long) a

  pub answers_kept : (typed kept : List ℕ) (is_long : Bool) (old new : Moment F) (quits : Bool) → IsKept typed kept is_long
      → Answers saves gives is_long kept old quits new → Answers saves gives (is_too_long typed) (unblanked typed) old quits new
  answers_kept typed kept is_long old new quits is a =
      subst (λ b. Answers saves gives b (unblanked typed) old quits new) is.long (answers-by is_long (unblanked typed) kept old new quits is.long is.front a)

  -- ---- bytes, one after another

  answered-more : (lines : List (List ℕ)) (typed : List ℕ) (old now new : Moment F) → AllAnswered saves gives lines old now
      → Answers saves gives (is_too_long typed) (unblanked typed) now false new → AllAnswered saves gives (lines ++ typed ∷ []) old new
  answered-more [] typed old now new e a = (new, subst (λ m. Answers saves gives (is_too_long typed) (unblanked typed) m false new) e a, refl)
  answered-more (line ∷ lines) typed old now new (mid, first, others) a = (mid, first, answered-more lines typed mid now new others a)

feeds-more : (lines : List (List ℕ)) (typed : List ℕ) → with_feeds (lines ++ typed ∷ []) ≡ with_feeds lines ++ (typed ++ 10 ∷ [])
unfolding with_feeds
feeds-more [] typed = refl
feeds-more (line ∷ lines) typed =
    ap (λ t. line ++ 10 ∷ t) (feeds-more lines typed) ∙ sym (append_assoc line (10 ∷ with_feeds lines) (typed ++ 10 ∷ []))

-- what follows bytes that were taken
typed-more : (front bytes feeds rest more all : List ℕ) → front ++ bytes ≡ feeds ++ rest → all ≡ bytes ++ more → front ++ all ≡ feeds ++ (rest ++ more)
typed-more front bytes feeds rest more all e is =
    ap (λ t. front ++ t) is ∙ sym (append_assoc front bytes more) ∙ ap (λ t. t ++ more) e ∙ append_assoc feeds rest more

module _ {F : Type 0} (saves : F → Option (List Save)) (gives : F → List ℕ → Given → Type 0) where
  pub goes_none : (front : List ℕ) (now : Moment F) → IsUnfed front → GoesOn saves gives front [] now now front
  unfolding with_feeds
  goes_none front now unfed = record { lines = []; whole = All-nil IsUnfed; unended = unfed; typed = append-nil front; answered = refl }

  -- a byte of a line
  pub goes_byte : (front bytes all rest : List ℕ) (byte : ℕ) (old now next : Moment F) → GoesOn saves gives front bytes old now rest → all ≡ bytes ++ byte ∷ []
      → IsUnfed (rest ++ byte ∷ []) → next ≡ now → GoesOn saves gives front all old next (rest ++ byte ∷ [])
  goes_byte front bytes all rest byte old now next g is unfed same = record {
    lines = g.lines;
    whole = g.whole;
    unended = unfed;
    typed = typed-more front bytes (with_feeds g.lines) rest (byte ∷ []) all g.typed is;
    answered = subst (AllAnswered saves gives g.lines old) (sym same) g.answered;
  }

  -- a line feed
  pub goes_line : (front bytes all rest : List ℕ) (byte : ℕ) (old now next : Moment F) → GoesOn saves gives front bytes old now rest → all ≡ bytes ++ byte ∷ []
      → byte ≡ 10 → Answers saves gives (is_too_long rest) (unblanked rest) now false next → GoesOn saves gives front all old next []
  goes_line front bytes all rest byte old now next g is feed a = record {
    lines = g.lines ++ rest ∷ [];
    whole = All-append IsUnfed g.lines (rest ∷ []) g.whole (All-cons IsUnfed rest [] g.unended (All-nil IsUnfed));
    unended = All-nil (λ byte. (byte == 10) ≡ false);
    typed =
        typed-more front bytes (with_feeds g.lines) rest (10 ∷ []) all g.typed (is ∙ ap (λ b. bytes ++ b ∷ []) feed)
        ∙ sym (feeds-more g.lines rest) ∙ sym (append-nil (with_feeds (g.lines ++ rest ∷ [])));
    answered = answered-more saves gives g.lines rest old now next g.answered a;
  }

  -- a line feed behind a line that quits
  pub quits_line : (front bytes after all rest : List ℕ) (byte : ℕ) (old now next : Moment F) → GoesOn saves gives front bytes old now rest → all ≡ bytes ++ byte ∷ after
      → byte ≡ 10 → Answers saves gives (is_too_long rest) (unblanked rest) now true next → Quits saves gives front all old next
  quits_line front bytes after all rest byte old now next g is feed a = record {
    lines = g.lines;
    whole = g.whole;
    last = rest;
    unended = g.unended;
    rest = after;
    typed = typed-more front bytes (with_feeds g.lines) rest (10 ∷ after) all g.typed (is ∙ ap (λ b. bytes ++ b ∷ after) feed);
    between = now;
    answered = g.answered;
    quit = a;
  }

  -- a line feed behind a line to which memory is refused
  pub starves_line : (front bytes after all rest : List ℕ) (byte : ℕ) (old now : Moment F) (files : F) → GoesOn saves gives front bytes old now rest
      → all ≡ bytes ++ byte ∷ after → byte ≡ 10 → HaltsLine saves (is_too_long rest) (unblanked rest) now files → Starves saves gives front all old files
  starves_line front bytes after all rest byte old now files g is feed h = record {
    lines = g.lines;
    whole = g.whole;
    rest = rest ++ 10 ∷ after;
    typed = typed-more front bytes (with_feeds g.lines) rest (10 ∷ after) all g.typed (is ∙ ap (λ b. bytes ++ b ∷ after) feed);
    between = now;
    answered = g.answered;
    halted = inr (rest, after, refl, g.unended, h);
  }

  -- memory is refused to a byte of a line
  pub starves_byte : (front bytes after all rest : List ℕ) (old now : Moment F) (files : F) → GoesOn saves gives front bytes old now rest
      → all ≡ bytes ++ after → files ≡ now.files → Starves saves gives front all old files
  starves_byte front bytes after all rest old now files g is same = record {
    lines = g.lines;
    whole = g.whole;
    rest = rest ++ after;
    typed = typed-more front bytes (with_feeds g.lines) rest after all g.typed is;
    between = now;
    answered = g.answered;
    halted = inl same;
  }

halts-by : {F : Type 0} (saves : F → Option (List Save)) (b : Bool) (xs kept : List ℕ) (old : Moment F) (files : F) → b ≡ nat_lt 200 (length xs) → kept ≡ take 200 xs
    → HaltsLine saves b kept old files → HaltsLine saves b xs old files
halts-by saves true xs kept old files long front h = h
halts-by saves false xs kept old files long front h = subst (λ l. HaltsLine saves false l old files) (whole xs kept front long) h

pub halts_kept : {F : Type 0} (saves : F → Option (List Save)) (typed kept : List ℕ) (is_long : Bool) (old : Moment F) (files : F) → IsKept typed kept is_long
    → HaltsLine saves is_long kept old files → HaltsLine saves (is_too_long typed) (unblanked typed) old files
halts_kept saves typed kept is_long old files is h =
    subst (λ b. HaltsLine saves b (unblanked typed) old files) is.long (halts-by saves is_long (unblanked typed) kept old files is.long is.front h)

-- ---- a line that ends

pub long_answers : {F E : Type 0} (saves : F → Option (List Save)) (gives : F → List ℕ → Given → Type 0) (is_long : Bool) (kept : List ℕ) (state : State) (unsaved : Unsaved) (files : F)
    (told told' : List ℕ) (result : Result Bool E) → is_long ≡ true → OnOk result (told' ≡ told ++ too_long) → IfOk result (λ quits. quits ≡ false)
    → IfOk result (λ quits. Answers saves gives is_long kept (moment state unsaved files told) quits (moment state unsaved files told'))
long_answers saves gives is_long kept state unsaved files told told' (Ok quits) long says stays =
    subst (λ b. Answers saves gives b kept (moment state unsaved files told) quits (moment state unsaved files told')) (sym long) (stays, ap (moment state unsaved files) says)
long_answers saves gives is_long kept state unsaved files told told' (Err e) long says stays = tt

pub long_halts : {F E : Type 0} (saves : F → Option (List Save)) (is_long : Bool) (kept : List ℕ) (state : State) (unsaved : Unsaved) (files : F) (told : List ℕ)
    (result : Result Bool E) → is_long ≡ true → OnErr result (HaltsLine saves is_long kept (moment state unsaved files told) files)
long_halts saves is_long kept state unsaved files told (Ok quits) long = tt
long_halts saves is_long kept state unsaved files told (Err e) long = subst (λ b. HaltsLine saves b kept (moment state unsaved files told) files) (sym long) refl

pub step_ends : {F E : Type 0} (saves : F → Option (List Save)) (gives : F → List ℕ → Given → Type 0) (front kept kept' : List ℕ) (is_long is_long' : Bool) (old new : Moment F)
    (result : Result Bool E) → IsKept front kept is_long → IfOk result (λ quits. Answers saves gives is_long kept old quits new)
    → OnOk result ((kept' ≡ []) × (is_long' ≡ false))
    → IfOk result (λ quits. Answers saves gives (is_too_long front) (unblanked front) old quits new × IsKept [] kept' is_long')
step_ends saves gives front kept kept' is_long is_long' old new (Ok quits) k a cleared =
    (answers_kept saves gives front kept is_long old new quits k a, kept_none kept' is_long' cleared.0 cleared.1)
step_ends saves gives front kept kept' is_long is_long' old new (Err e) k a cleared = tt

pub step_halts : {F E : Type 0} (saves : F → Option (List Save)) (front kept : List ℕ) (is_long : Bool) (old : Moment F) (files : F) (result : Result Bool E)
    → IsKept front kept is_long → OnErr result (HaltsLine saves is_long kept old files) → OnErr result (HaltsLine saves (is_too_long front) (unblanked front) old files)
step_halts saves front kept is_long old files (Ok quits) k h = tt
step_halts saves front kept is_long old files (Err e) k h = halts_kept saves front kept is_long old files k h

-- what the line says is obeyed
pub obeys_line : {F : Type 0} (saves : F → Option (List Save)) (gives : F → List ℕ → Given → Type 0) (typed kept : List ℕ) (old new : Moment F) (quits : Bool) → typed ≡ kept
    → ObeyedTyped (gives old.files) typed old.state (command_of typed) new.state old.told new.told → quits ≡ is_quit (command_of typed)
    → (is_save (command_of typed) ≡ true → SavesTyped old.state.standing typed (saves old.files) (saves new.files) old.told new.told)
    → (is_notes (command_of typed) ≡ true → SavesNotes old.state.standing old.state.notes typed (saves old.files) (saves new.files) old.told new.told)
    → (is_save (command_of typed) ≡ false → is_notes (command_of typed) ≡ false → new.files ≡ old.files)
    → new.unsaved ≡ unsaved_after old.unsaved (command_of kept) (drop (length old.told) new.told) (nat_lt (length new.state.notes) (length old.state.notes))
    → Obeys saves gives kept old quits new
obeys_line saves gives typed kept old new quits e obeyed quitting script notes others changed = subst (λ l. Obeys saves gives l old quits new) e (record {
  obeyed = obeyed;
  quitting = quitting;
  for_script = script;
  for_notes = notes;
  for_others = others;
  changed = changed ∙ ap (λ l. unsaved_after old.unsaved (command_of l) (drop (length old.told) new.told) (nat_lt (length new.state.notes) (length old.state.notes))) (sym e);
})

pub halts_line : {F : Type 0} (saves : F → Option (List Save)) (typed kept : List ℕ) (old : Moment F) (files : F) → typed ≡ kept
    → (is_save (command_of typed) ≡ true → HaltsScript old.state.standing typed (saves old.files) (saves files))
    → (is_notes (command_of typed) ≡ true → HaltsNotes old.state.standing old.state.notes typed (saves old.files) (saves files))
    → (is_save (command_of typed) ≡ false → is_notes (command_of typed) ≡ false → files ≡ old.files) → Halts saves kept old files
halts_line saves typed kept old files e script notes others =
    subst (λ l. Halts saves l old files) e (record { for_script = script; for_notes = notes; for_others = others })

-- ---- the bytes of a read

is-feed : (byte : ℕ) → (byte == 10) ≡ true → byte ≡ 10
is-feed byte e = grind (arith, nat_tests)

all-of : (bytes : List ℕ) (i : ℕ) → i < length bytes → bytes ≡ take i bytes ++ get_or bytes i 0 ∷ drop (i + 1) bytes
all-of bytes i below =
    sym (take-append-drop (i + 1) bytes) ∙ ap (λ t. t ++ drop (i + 1) bytes) (take_more bytes i 0 below)
    ∙ append_assoc (take i bytes) (get_or bytes i 0 ∷ []) (drop (i + 1) bytes)

-- from any front of a line that is kept so, these bytes lead here
abbrev pub FeedsUpTo : {F : Type 0} → (F → Option (List Save)) → (F → List ℕ → Given → Type 0) → List ℕ → Bool → List ℕ → Moment F → Moment F → List ℕ → Bool → Type 0
FeedsUpTo saves gives kept is_long bytes old now kept' is_long' =
    (front : List ℕ) → IsKept front kept is_long → (rest : List ℕ) × GoesOn saves gives front bytes old now rest × IsKept rest kept' is_long'

-- what a byte does: a line feed ends the line, and another byte is kept
abbrev pub EndsLine : {F : Type 0} → (F → Option (List Save)) → (F → List ℕ → Given → Type 0) → ℕ → List ℕ → Bool → Moment F → Bool → Moment F → List ℕ → Bool → Type 0
EndsLine saves gives byte kept is_long now quits next kept' is_long' =
    (front : List ℕ) → IsKept front kept is_long → (byte == 10) ≡ true → Answers saves gives (is_too_long front) (unblanked front) now quits next × IsKept [] kept' is_long'

abbrev pub GrowsLine : {F : Type 0} → ℕ → List ℕ → Bool → Moment F → Bool → Moment F → List ℕ → Bool → Type 0
GrowsLine byte kept is_long now quits next kept' is_long' =
    (front : List ℕ) → IsKept front kept is_long → (byte == 10) ≡ false → (quits ≡ false) × (next ≡ now) × IsKept (front ++ byte ∷ []) kept' is_long'

module _ {F : Type 0} (saves : F → Option (List Save)) (gives : F → List ℕ → Given → Type 0) where
  pub feeds_none : (kept : List ℕ) (is_long : Bool) (now : Moment F) → FeedsUpTo saves gives kept is_long [] now now kept is_long
  feeds_none kept is_long now = λ front k. (front, goes_none saves gives front now k.unended, k)

  feeds-byte : (byte : ℕ) (front bytes all rest kept kept' : List ℕ) (is_long is_long' quits : Bool) (old now next : Moment F) → ((byte == 10) ≡ true) ⊎ ((byte == 10) ≡ false)
      → GoesOn saves gives front bytes old now rest → IsKept rest kept is_long → all ≡ bytes ++ byte ∷ [] → quits ≡ false → EndsLine saves gives byte kept is_long now quits next kept' is_long'
      → GrowsLine byte kept is_long now quits next kept' is_long' → (after : List ℕ) × GoesOn saves gives front all old next after × IsKept after kept' is_long'
  feeds-byte byte front bytes all rest kept kept' is_long is_long' quits old now next (inl feed) g k is on ends grows =
      let e = ends rest k feed in
      ([], goes_line saves gives front bytes all rest byte old now next g is (is-feed byte feed) (subst (λ q. Answers saves gives (is_too_long rest) (unblanked rest) now q next) on e.0), e.1)
  feeds-byte byte front bytes all rest kept kept' is_long is_long' quits old now next (inr other) g k is on ends grows =
      let e = grows rest k other in
      (rest ++ byte ∷ [], goes_byte saves gives front bytes all rest byte old now next g is e.2.unended e.1, e.2)

  pub feeds_more : (bytes kept0 kept kept' : List ℕ) (i : ℕ) (is_long0 is_long is_long' quits : Bool) (old now next : Moment F) → i < length bytes
      → FeedsUpTo saves gives kept0 is_long0 (take i bytes) old now kept is_long → quits ≡ false → EndsLine saves gives (get_or bytes i 0) kept is_long now quits next kept' is_long'
      → GrowsLine (get_or bytes i 0) kept is_long now quits next kept' is_long' → FeedsUpTo saves gives kept0 is_long0 (take (i + 1) bytes) old next kept' is_long'
  feeds_more bytes kept0 kept kept' i is_long0 is_long is_long' quits old now next below inv on ends grows = λ front k.
      let before = inv front k in
      feeds-byte (get_or bytes i 0) front (take i bytes) (take (i + 1) bytes) before.0 kept kept' is_long is_long' quits old now next
      (cases_Bool (get_or bytes i 0 == 10)) before.1 before.2 (take_more bytes i 0 below) on ends grows

  quits-byte : (byte : ℕ) (front bytes after all rest kept kept' : List ℕ) (is_long is_long' quits : Bool) (old now next : Moment F) → ((byte == 10) ≡ true) ⊎ ((byte == 10) ≡ false)
      → GoesOn saves gives front bytes old now rest → IsKept rest kept is_long → all ≡ bytes ++ byte ∷ after → quits ≡ true → EndsLine saves gives byte kept is_long now quits next kept' is_long'
      → GrowsLine byte kept is_long now quits next kept' is_long' → Quits saves gives front all old next
  quits-byte byte front bytes after all rest kept kept' is_long is_long' quits old now next (inl feed) g k is off ends grows =
      quits_line saves gives front bytes after all rest byte old now next g is (is-feed byte feed)
      (subst (λ q. Answers saves gives (is_too_long rest) (unblanked rest) now q next) off (ends rest k feed).0)
  quits-byte byte front bytes after all rest kept kept' is_long is_long' quits old now next (inr other) g k is off ends grows =
      let on : quits ≡ false = (grows rest k other).0 in absurd (cc)

  pub feeds_quit : (bytes kept0 kept kept' : List ℕ) (i : ℕ) (is_long0 is_long is_long' quits : Bool) (old now next : Moment F) → i < length bytes
      → FeedsUpTo saves gives kept0 is_long0 (take i bytes) old now kept is_long → quits ≡ true → EndsLine saves gives (get_or bytes i 0) kept is_long now quits next kept' is_long'
      → GrowsLine (get_or bytes i 0) kept is_long now quits next kept' is_long' → (front : List ℕ) → IsKept front kept0 is_long0 → Quits saves gives front bytes old next
  feeds_quit bytes kept0 kept kept' i is_long0 is_long is_long' quits old now next below inv off ends grows front k =
      let before = inv front k in
      quits-byte (get_or bytes i 0) front (take i bytes) (drop (i + 1) bytes) bytes before.0 kept kept' is_long is_long' quits old now next
      (cases_Bool (get_or bytes i 0 == 10)) before.1 before.2 (all-of bytes i below) off ends grows

  starves-at : (byte : ℕ) (front bytes after all rest kept : List ℕ) (is_long : Bool) (old now : Moment F) (files : F) → ((byte == 10) ≡ true) ⊎ ((byte == 10) ≡ false)
      → GoesOn saves gives front bytes old now rest → IsKept rest kept is_long → all ≡ bytes ++ byte ∷ after
      → ((line : List ℕ) → IsKept line kept is_long → (byte == 10) ≡ true → HaltsLine saves (is_too_long line) (unblanked line) now files)
      → ((byte == 10) ≡ false → files ≡ now.files) → Starves saves gives front all old files
  starves-at byte front bytes after all rest kept is_long old now files (inl feed) g k is halts halted =
      starves_line saves gives front bytes after all rest byte old now files g is (is-feed byte feed) (halts rest k feed)
  starves-at byte front bytes after all rest kept is_long old now files (inr other) g k is halts halted =
      starves_byte saves gives front bytes (byte ∷ after) all rest old now files g is (halted other)

  pub feeds_starve : (bytes kept0 kept : List ℕ) (i : ℕ) (is_long0 is_long : Bool) (old now : Moment F) (files : F) → i < length bytes
      → FeedsUpTo saves gives kept0 is_long0 (take i bytes) old now kept is_long
      → ((line : List ℕ) → IsKept line kept is_long → (get_or bytes i 0 == 10) ≡ true → HaltsLine saves (is_too_long line) (unblanked line) now files)
      → ((get_or bytes i 0 == 10) ≡ false → files ≡ now.files) → (front : List ℕ) → IsKept front kept0 is_long0 → Starves saves gives front bytes old files
  feeds_starve bytes kept0 kept i is_long0 is_long old now files below inv halts halted front k =
      let before = inv front k in
      starves-at (get_or bytes i 0) front (take i bytes) (drop (i + 1) bytes) bytes before.0 kept is_long old now files
      (cases_Bool (get_or bytes i 0 == 10)) before.1 before.2 (all-of bytes i below) halts halted

  -- all bytes
  pub feeds_all : (bytes kept0 kept : List ℕ) (i : ℕ) (is_long0 is_long : Bool) (old now : Moment F) → length bytes ≤ i
      → FeedsUpTo saves gives kept0 is_long0 (take i bytes) old now kept is_long → FeedsUpTo saves gives kept0 is_long0 bytes old now kept is_long
  feeds_all bytes kept0 kept i is_long0 is_long old now end inv =
      subst (λ bs. FeedsUpTo saves gives kept0 is_long0 bs old now kept is_long) (take_all i bytes end) inv
