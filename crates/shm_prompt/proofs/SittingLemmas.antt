-- A dialog between two reads, and how it ends.
use Rattle.std.proofs.Common.{◌≡◌, ℕ, ◌+◌, ◌≤◌, ◌==◌, ◌&&◌, ◌||◌, codes, not, inl, inr, Bool, true, false, List, [], ◌∷◌, ◌++◌, length, length-take, take, Option, None, Some, Result, Ok, Err, refl, sym, ap, arith, subst, ◌∙◌, append_assoc, append-nil}
use Rattle.std.proofs.lemmas.Bool.Decides.{nat_tests}
use Rattle.std.specs.Prelude.{IfErr, IfOk, OnErr, OnOk}
use Rattle.std.proofs.KnownBytes.{Appends-nil, Appends-trans}
use Rattle.std.proofs.Math.Seq.{take-append-add}
use Rattle.std.proofs.lemmas.List.Elements.{All-nil}
use Rattle.std.specs.Io.KnownBytes.{Appends, Consumes, IsAtEnd, Keeps}
use Rattle.shm_prompt.specs.Given.{Given}
use Rattle.shm_prompt.specs.Saves.{Save}
use Rattle.shm_prompt.specs.Sitting.{AllRead, Ends, GivenLast, GivenOn, IsRead, NotShown, Reads, RunsOut, Sitting, Stays, all_saved, asked, end_text, greeting, is_unsaved, mark, nothing_typed, sitting, told_if, unsaved_here}
use Rattle.shm_prompt.specs.State.{State}
use Rattle.shm_prompt.specs.Typing.{GoesOn, IsKept, IsUnfed, Moment, Quits, Starves, moment, with_feeds}
use Rattle.shm_prompt.specs.declared.prompt_error.PromptFault.{PromptFault}
use Rattle.shm_prompt.specs.declared.prompt_error.PromptFault.TheVariants.{OutOfMemory, ReadFault, WriteFault}
use Rattle.shm_prompt.specs.declared.unsaved_changes.Unsaved.{Unsaved}
use Rattle.shm_prompt.proofs.TypingLemmas.{kept_none}

Keeps-same : (a : Option (List ℕ)) → Keeps a a
Keeps-same None = tt
Keeps-same (Some xs) = refl

none-taken : (chunk : List ℕ) (count : ℕ) → count ≤ length chunk → take count chunk ≡ [] → count ≡ 0
none-taken chunk count within none =
    let empty : length (take count chunk) ≡ 0 = ap length none in
    omega (arith, length-take count chunk, within, empty)

pub is_read : (chunk : List ℕ) (count : ℕ) (left after : Option (List ℕ)) → count ≤ length chunk → Consumes left after (take count chunk) → (count ≡ 0 → IsAtEnd after)
    → IsRead (take count chunk) left after
is_read chunk count left after within next end = record { next = next; end = λ none. end (none-taken chunk count within none) }

-- Between two reads: some of what was told is written, and the rest is pending. Memory that is refused would end it.
pub record Sits {F : Type 0} (saves : F → Option (List Save)) (gives : F → List ℕ → Given → Type 0) (is_terminal : Bool) (began : Sitting F) (old new : Option (List ℕ)) (pending : List ℕ) (left : Option (List ℕ)) (kept : List ℕ) (is_long : Bool) (state : State) (unsaved : Unsaved) (files : F) : Type 0 where
  pub written : List ℕ
  pub writes : Appends old new written
  pub reads : List (List ℕ)
  pub front : List ℕ
  pub kept_is : IsKept front kept is_long
  pub all : AllRead saves gives is_terminal reads began (sitting left (written ++ pending) front state unsaved files)
  pub short : Ends saves gives is_terminal began (Err OutOfMemory) left files written

-- the same where all is written, before a read
pub record Shown {F : Type 0} (saves : F → Option (List Save)) (gives : F → List ℕ → Given → Type 0) (is_terminal : Bool) (began : Sitting F) (old new : Option (List ℕ)) (left : Option (List ℕ)) (kept : List ℕ) (is_long : Bool) (state : State) (unsaved : Unsaved) (files : F) : Type 0 where
  pub told : List ℕ
  pub reads : List (List ℕ)
  pub front : List ℕ
  pub kept_is : IsKept front kept is_long
  pub writes : Appends old new (told ++ mark is_terminal front)
  pub all : AllRead saves gives is_terminal reads began (sitting left told front state unsaved files)

-- it ended, and this was written
pub record Ended {F : Type 0} (saves : F → Option (List Save)) (gives : F → List ℕ → Given → Type 0) (is_terminal : Bool) (began : Sitting F) (old new : Option (List ℕ)) (result : Result (Unit {0}) PromptFault) (left : Option (List ℕ)) (files : F) : Type 0 where
  pub text : List ℕ
  pub writes : Appends old new text
  pub ends : Ends saves gives is_terminal began result left files text

-- a front of something behind what is written
front-of : (written text : List ℕ) (n : ℕ) → written ++ take n text ≡ take (length written + n) (written ++ text)
front-of written text n = sym (take-append-add written text n)

module _ {F : Type 0} (saves : F → Option (List Save)) (gives : F → List ℕ → Given → Type 0) (is_terminal : Bool) where
  read-more : (reads : List (List ℕ)) (bytes : List ℕ) (old now new : Sitting F) → AllRead saves gives is_terminal reads old now → Reads saves gives is_terminal bytes now new
      → AllRead saves gives is_terminal (reads ++ bytes ∷ []) old new
  read-more [] bytes old now new e r = (new, subst (λ s. Reads saves gives is_terminal bytes s new) e r, refl)
  read-more (first ∷ reads) bytes old now new (mid, one, others) r = (mid, one, read-more reads bytes mid now new others r)

  -- what was answered needs no memory
  given-starves : (front bytes rest : List ℕ) (old new : Moment F) → GivenOn saves gives is_terminal front bytes old new rest → Starves saves gives front bytes old new.files
  unfolding with_feeds
  given-starves front [] rest old new (stays, same) = record {
    lines = [];
    whole = All-nil IsUnfed;
    rest = front;
    typed = append-nil front;
    between = old;
    answered = refl;
    halted = inl (ap (λ (m : Moment F). m.files) stays.becomes);
  }
  given-starves front (byte ∷ bytes) rest old new g = record {
    lines = g.lines;
    whole = g.whole;
    rest = rest;
    typed = g.typed;
    between = new;
    answered = g.answered;
    halted = inl refl;
  }

  pub ended : (began : Sitting F) (old new : Option (List ℕ)) (result : Result (Unit {0}) PromptFault) (left : Option (List ℕ)) (files : F)
      → Ended saves gives is_terminal began old new result left files → (text : List ℕ) × Appends old new text × Ends saves gives is_terminal began result left files text
  ended began old new result left files e = (e.text, e.writes, e.ends)

  pub nothing_done : (left : Option (List ℕ)) (files : F) (old : Option (List ℕ)) → Ended saves gives is_terminal (nothing_typed is_terminal left files) old old (Err OutOfMemory) left files
  nothing_done left files old = record { text = []; writes = Appends-nil old; ends = inr (refl, refl, refl, refl) }

  pub sits_first : (left : Option (List ℕ)) (files : F) (old : Option (List ℕ)) (pending kept : List ℕ) (is_long : Bool) (state : State) (unsaved : Unsaved)
      → pending ≡ greeting is_terminal → kept ≡ [] → is_long ≡ false → state ≡ record { standing = None; notes = [] } → unsaved ≡ all_saved
      → Sits saves gives is_terminal (nothing_typed is_terminal left files) old old pending left kept is_long state unsaved files
  sits_first left files old pending kept is_long state unsaved greets none short begins saved = record {
    written = [];
    writes = Appends-nil old;
    reads = [];
    front = [];
    kept_is = kept_none kept is_long none short;
    all =
        ap (λ t. sitting left t [] state unsaved files) greets ∙ ap (λ s. sitting left (greeting is_terminal) [] s unsaved files) begins
        ∙ ap (λ u. sitting left (greeting is_terminal) [] (record { standing = None; notes = [] }) u files) saved;
    short = inr (refl, refl, refl, refl);
  }

  -- ---- all is written

  pub shown : (began : Sitting F) (old now new : Option (List ℕ)) (pending : List ℕ) (left : Option (List ℕ)) (kept : List ℕ) (is_long : Bool) (state : State) (unsaved : Unsaved) (files : F)
      → Sits saves gives is_terminal began old now pending left kept is_long state unsaved files → ((front : List ℕ) → IsKept front kept is_long → Appends now new (pending ++ mark is_terminal front))
      → Shown saves gives is_terminal began old new left kept is_long state unsaved files
  shown began old now new pending left kept is_long state unsaved files s writes = record {
    told = s.written ++ pending;
    reads = s.reads;
    front = s.front;
    kept_is = s.kept_is;
    writes = subst (Appends old new) (sym (append_assoc s.written pending (mark is_terminal s.front)))
        (Appends-trans old now new s.written (pending ++ mark is_terminal s.front) s.writes (writes s.front s.kept_is));
    all = s.all;
  }

  pub not_shown : (began : Sitting F) (old now new : Option (List ℕ)) (pending : List ℕ) (left : Option (List ℕ)) (kept : List ℕ) (is_long : Bool) (state : State) (unsaved : Unsaved) (files : F) (fault : PromptFault)
      → Sits saves gives is_terminal began old now pending left kept is_long state unsaved files → ((front : List ℕ) → IsKept front kept is_long → NotShown now new (pending ++ mark is_terminal front) fault)
      → Ended saves gives is_terminal began old new (Err fault) left files
  not_shown began old now new pending left kept is_long state unsaved files OutOfMemory s fails =
      record { text = s.written; writes = subst (λ c. Appends old c s.written) (sym (fails s.front s.kept_is)) s.writes; ends = s.short }
  not_shown began old now new pending left kept is_long state unsaved files ReadFault s fails = absurd (fails s.front s.kept_is)
  not_shown began old now new pending left kept is_long state unsaved files WriteFault s fails =
      let some = fails s.front s.kept_is in
      record {
        text = s.written ++ take some.0 (pending ++ mark is_terminal s.front);
        writes = Appends-trans old now new s.written (take some.0 (pending ++ mark is_terminal s.front)) s.writes some.1;
        ends = inl (
          s.reads,
          sitting left (s.written ++ pending) s.front state unsaved files,
          s.all,
          (
            length s.written + some.0,
            asked is_terminal (sitting left (s.written ++ pending) s.front state unsaved files),
            front-of s.written (pending ++ mark is_terminal s.front) some.0 ∙ ap (λ t. take (length s.written + some.0) t) (sym (append_assoc s.written pending (mark is_terminal s.front))),
            inl (record { unread = Keeps-same left; kept = refl; told = refl }),
          ),
        );
      }

  -- ---- the next read

  pub read_failed : (began : Sitting F) (old new left after : Option (List ℕ)) (kept : List ℕ) (is_long : Bool) (state : State) (unsaved : Unsaved) (files : F)
      → Shown saves gives is_terminal began old new left kept is_long state unsaved files → Keeps left after → Ended saves gives is_terminal began old new (Err ReadFault) after files
  read_failed began old new left after kept is_long state unsaved files s keeps = record {
    text = s.told ++ mark is_terminal s.front;
    writes = s.writes;
    ends = inl (s.reads, sitting left s.told s.front state unsaved files, s.all, record { unread = keeps; kept = refl; told = refl });
  }

  pub never_read : (began : Sitting F) (old new left : Option (List ℕ)) (kept : List ℕ) (is_long : Bool) (state : State) (unsaved : Unsaved) (files : F)
      → Shown saves gives is_terminal began old new left kept is_long state unsaved files → Ended saves gives is_terminal began old new (Err ReadFault) left files
  never_read began old new left kept is_long state unsaved files s = read_failed began old new left left kept is_long state unsaved files s (Keeps-same left)

  pub starved : (began : Sitting F) (old new left after : Option (List ℕ)) (kept : List ℕ) (is_long : Bool) (state : State) (unsaved : Unsaved) (files files' : F) (bytes told : List ℕ)
      → Shown saves gives is_terminal began old new left kept is_long state unsaved files → told ≡ [] → Consumes left after bytes
      → ((front : List ℕ) → IsKept front kept is_long → Starves saves gives front bytes (moment state unsaved files told) files') → Ended saves gives is_terminal began old new (Err OutOfMemory) after files'
  starved began old new left after kept is_long state unsaved files files' bytes told s none read starves = record {
    text = s.told ++ mark is_terminal s.front;
    writes = s.writes;
    ends = inl (
      s.reads,
      sitting left s.told s.front state unsaved files,
      s.all,
      record {
        bytes = bytes;
        read = read;
        starves = subst (λ t. Starves saves gives s.front bytes (moment state unsaved files t) files') none (starves s.front s.kept_is);
        told = refl;
      },
    );
  }

  pub went_on : (began : Sitting F) (old new left after : Option (List ℕ)) (kept kept' : List ℕ) (is_long is_long' : Bool) (state state' : State) (unsaved unsaved' : Unsaved) (files files' : F) (bytes told answers : List ℕ)
      → Shown saves gives is_terminal began old new left kept is_long state unsaved files → told ≡ [] → IsRead bytes left after
      → ((front : List ℕ) → IsKept front kept is_long
      → (rest : List ℕ) × GivenOn saves gives is_terminal front bytes (moment state unsaved files told) (moment state' unsaved' files' answers) rest × IsKept rest kept' is_long')
      → Sits saves gives is_terminal began old new answers after kept' is_long' state' unsaved' files'
  went_on began old new left after kept kept' is_long is_long' state state' unsaved unsaved' files files' bytes told answers s none read given =
      let g = given s.front s.kept_is in
      let on : GivenOn saves gives is_terminal s.front bytes (moment state unsaved files []) (moment state' unsaved' files' answers) g.0 =
      subst (λ t. GivenOn saves gives is_terminal s.front bytes (moment state unsaved files t) (moment state' unsaved' files' answers) g.0) none g.1 in
      record {
        written = s.told ++ mark is_terminal s.front;
        writes = s.writes;
        reads = s.reads ++ bytes ∷ [];
        front = g.0;
        kept_is = g.2;
        all = read-more s.reads bytes began (sitting left s.told s.front state unsaved files)
            (sitting after ((s.told ++ mark is_terminal s.front) ++ answers) g.0 state' unsaved' files') s.all
            (record { read = read; answers = answers; told = refl; given = on });
        short = inl (
          s.reads,
          sitting left s.told s.front state unsaved files,
          s.all,
          record {
            bytes = bytes;
            read = read.next;
            starves = given-starves s.front bytes g.0 (moment state unsaved files []) (moment state' unsaved' files' answers) on;
            told = refl;
          },
        );
      }

  -- ---- the last read

  pub finished : (began : Sitting F) (old now new left after : Option (List ℕ)) (kept : List ℕ) (is_long : Bool) (state : State) (unsaved : Unsaved) (files files' : F) (bytes told answers : List ℕ) (last : Moment F)
      (result : Result (Unit {0}) PromptFault) → Shown saves gives is_terminal began old now left kept is_long state unsaved files → told ≡ [] → IsRead bytes left after
      → ((front : List ℕ) → IsKept front kept is_long → GivenLast saves gives is_terminal front bytes (moment state unsaved files told) last) → files' ≡ last.files → answers ≡ last.told
      → OnOk result (Appends now new answers) → IfErr result (NotShown now new answers) → IfErr result (λ fault. fault ≡ WriteFault) → Ended saves gives is_terminal began old new result after files'
  finished began old now new left after kept is_long state unsaved files files' bytes told answers last (Ok u) s none read given kept_files says writes fails memory = record {
    text = (s.told ++ mark is_terminal s.front) ++ answers;
    writes = Appends-trans old now new (s.told ++ mark is_terminal s.front) answers s.writes writes;
    ends = inl (
      s.reads,
      sitting left s.told s.front state unsaved files,
      s.all,
      record {
        bytes = bytes;
        read = read;
        last = last;
        given = subst (λ t. GivenLast saves gives is_terminal s.front bytes (moment state unsaved files t) last) none (given s.front s.kept_is);
        kept = kept_files;
        told = ap (λ t. (s.told ++ mark is_terminal s.front) ++ t) says;
      },
    );
  }
  finished began old now new left after kept is_long state unsaved files files' bytes told answers last (Err OutOfMemory) s none read given kept_files says writes fails memory =
      let other : OutOfMemory ≡ WriteFault = memory in absurd (cc)
  finished began old now new left after kept is_long state unsaved files files' bytes told answers last (Err ReadFault) s none read given kept_files says writes fails memory = absurd fails
  finished began old now new left after kept is_long state unsaved files files' bytes told answers last (Err WriteFault) s none read given kept_files says writes fails memory = record {
    text = (s.told ++ mark is_terminal s.front) ++ take fails.0 answers;
    writes = Appends-trans old now new (s.told ++ mark is_terminal s.front) (take fails.0 answers) s.writes fails.1;
    ends = inl (
      s.reads,
      sitting left s.told s.front state unsaved files,
      s.all,
      (
        length (s.told ++ mark is_terminal s.front) + fails.0,
        (s.told ++ mark is_terminal s.front) ++ answers,
        front-of (s.told ++ mark is_terminal s.front) answers fails.0,
        inr (record {
          bytes = bytes;
          read = read;
          last = last;
          given = subst (λ t. GivenLast saves gives is_terminal s.front bytes (moment state unsaved files t) last) none (given s.front s.kept_is);
          kept = kept_files;
          told = ap (λ t. (s.told ++ mark is_terminal s.front) ++ t) says;
        }),
      ),
    );
  }

-- ---- what a read gives

not-both : (t u : Bool) → false ≡ not (t && u) → (t ≡ true) × (u ≡ true)
not-both true true h = (refl, refl)
not-both true false h = absurd (cc)
not-both false u h = absurd (cc)

not-all : (t u : Bool) → true ≡ not (t && u) → t ≡ true → u ≡ false
not-all true true h there = absurd (cc)
not-all true false h there = refl
not-all false u h there = absurd (cc)

end-told : (t script notes : Bool) → (t ≡ true → (script || notes) ≡ false) → told_if t (end_text (record { script = script; notes = notes })) ≡ told_if t (codes "\n")
end-told false script notes clean = refl
end-told true true notes clean = let h = clean refl in absurd (cc)
end-told true false true clean = let h = clean refl in absurd (cc)
end-told true false false clean = refl

module _ {F : Type 0} (saves : F → Option (List Save)) (gives : F → List ℕ → Given → Type 0) where
  given-none : (is_terminal : Bool) (front bytes : List ℕ) (old new : Moment F) → (length bytes == 0) ≡ true → Stays is_terminal old new → GivenOn saves gives is_terminal front bytes old new front
  given-none is_terminal front [] old new none stays = (stays, refl)
  given-none is_terminal front (byte ∷ bytes) old new none stays = absurd (grind (arith, nat_tests))

  last-none : (is_terminal : Bool) (front bytes : List ℕ) (old new : Moment F) → (length bytes == 0) ≡ true → RunsOut is_terminal old new → GivenLast saves gives is_terminal front bytes old new
  last-none is_terminal front [] old new none out = out
  last-none is_terminal front (byte ∷ bytes) old new none out = absurd (grind (arith, nat_tests))

  starves-none : (front bytes : List ℕ) (old : Moment F) → (length bytes == 0) ≡ true → Starves saves gives front bytes old old.files
  unfolding with_feeds
  starves-none front [] old none = record { lines = []; whole = All-nil IsUnfed; rest = front; typed = append-nil front; between = old; answered = refl; halted = inl refl }
  starves-none front (byte ∷ bytes) old none = absurd (grind (arith, nat_tests))

  given-some : (is_terminal : Bool) (front bytes : List ℕ) (old new : Moment F) (rest : List ℕ) → (length bytes == 0) ≡ false → GoesOn saves gives front bytes old new rest
      → GivenOn saves gives is_terminal front bytes old new rest
  given-some is_terminal front [] old new rest some g = absurd (cc)
  given-some is_terminal front (byte ∷ bytes) old new rest some g = g

  last-some : (is_terminal : Bool) (front bytes : List ℕ) (old new : Moment F) → (length bytes == 0) ≡ false → Quits saves gives front bytes old new
      → GivenLast saves gives is_terminal front bytes old new
  last-some is_terminal front [] old new some q = absurd (cc)
  last-some is_terminal front (byte ∷ bytes) old new some q = q

module _ {F E : Type 0} (saves : F → Option (List Save)) (gives : F → List ℕ → Given → Type 0) (is_terminal : Bool) (front bytes kept : List ℕ) (is_long : Bool) where
  pub end_goes : (state state' : State) (unsaved unsaved' : Unsaved) (files : F) (told told' kept' : List ℕ) (is_long' : Bool) (result : Result Bool E) → IsKept front kept is_long
      → (length bytes == 0) ≡ true → IfOk result (λ ends. ends ≡ not (is_terminal && is_unsaved (unsaved_here unsaved state.notes)))
      → OnOk result (told' ≡ told ++ told_if is_terminal (end_text (unsaved_here unsaved state.notes))) → state' ≡ state → kept' ≡ kept → is_long' ≡ is_long
      → OnOk result (is_terminal ≡ true → unsaved' ≡ all_saved)
      → IfOk result (λ ends. ends ≡ false → (rest : List ℕ) × GivenOn saves gives is_terminal front bytes (moment state unsaved files told) (moment state' unsaved' files told') rest × IsKept rest kept' is_long')
  end_goes state state' unsaved unsaved' files told told' kept' is_long' (Err e) k none ends says same_state same_kept same_long saved = tt
  end_goes state state' unsaved unsaved' files told told' kept' is_long' (Ok b) k none ends says same_state same_kept same_long saved = λ on.
      let both = not-both is_terminal (is_unsaved (unsaved_here unsaved state.notes)) (sym on ∙ ends) in
      let stays : Stays is_terminal (moment state unsaved files told) (moment state' unsaved' files told') = record {
        person = both.0;
        some = both.1;
        becomes =
            ap (λ s. moment s unsaved' files told') same_state ∙ ap (λ u. moment state u files told') (saved both.0)
            ∙ ap (λ t. moment state all_saved files t) (says ∙ ap (λ t. told ++ told_if t (end_text (unsaved_here unsaved state.notes))) both.0);
      } in (
        front,
        given-none saves gives is_terminal front bytes (moment state unsaved files told) (moment state' unsaved' files told') none stays,
        subst (λ l. IsKept front l is_long') (sym same_kept) (subst (λ b. IsKept front kept b) (sym same_long) k),
      )

  pub end_last : (state state' : State) (unsaved unsaved' : Unsaved) (files : F) (told told' : List ℕ) (result : Result Bool E) → (length bytes == 0) ≡ true
      → IfOk result (λ ends. ends ≡ not (is_terminal && is_unsaved (unsaved_here unsaved state.notes)))
      → OnOk result (told' ≡ told ++ told_if is_terminal (end_text (unsaved_here unsaved state.notes)))
      → IfOk result (λ ends. ends ≡ true → GivenLast saves gives is_terminal front bytes (moment state unsaved files told) (moment state' unsaved' files told'))
  end_last state state' unsaved unsaved' files told told' (Err e) none ends says = tt
  end_last state state' unsaved unsaved' files told told' (Ok b) none ends says = λ off.
      let clean = not-all is_terminal (is_unsaved (unsaved_here unsaved state.notes)) (sym off ∙ ends) in
      last-none saves gives is_terminal front bytes (moment state unsaved files told) (moment state' unsaved' files told') none (record {
        clean = clean;
        kept = refl;
        told = says ∙ ap (λ t. told ++ t) (end-told is_terminal (unsaved_here unsaved state.notes).script (unsaved_here unsaved state.notes).notes clean);
      })

  pub end_starves : (state : State) (unsaved : Unsaved) (files : F) (told : List ℕ) (result : Result Bool E) → (length bytes == 0) ≡ true
      → OnErr result (Starves saves gives front bytes (moment state unsaved files told) files)
  end_starves state unsaved files told (Ok b) none = tt
  end_starves state unsaved files told (Err e) none = starves-none saves gives front bytes (moment state unsaved files told) none

  pub fed_goes : (old new : Moment F) (kept' : List ℕ) (is_long' : Bool) (result : Result Bool E) → (length bytes == 0) ≡ false
      → IfOk result (λ quits. quits ≡ false → (rest : List ℕ) × GoesOn saves gives front bytes old new rest × IsKept rest kept' is_long')
      → IfOk result (λ ends. ends ≡ false → (rest : List ℕ) × GivenOn saves gives is_terminal front bytes old new rest × IsKept rest kept' is_long')
  fed_goes old new kept' is_long' (Err e) some goes = tt
  fed_goes old new kept' is_long' (Ok b) some goes = λ on. let g = goes on in (g.0, given-some saves gives is_terminal front bytes old new g.0 some g.1, g.2)

  pub fed_last : (old new : Moment F) (result : Result Bool E) → (length bytes == 0) ≡ false → IfOk result (λ quits. quits ≡ true → Quits saves gives front bytes old new)
      → IfOk result (λ ends. ends ≡ true → GivenLast saves gives is_terminal front bytes old new)
  fed_last old new (Err e) some quits = tt
  fed_last old new (Ok b) some quits = λ off. last-some saves gives is_terminal front bytes old new some (quits off)
