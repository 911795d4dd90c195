-- What has been read, told and written while a script is replayed.
use Rattle.std.proofs.Common.{◌≡◌, ℕ, true, false, ◌+◌, ◌≤◌, List, [], ◌++◌, length, take, drop, take-append-drop, Option, None, Some, IfSome, Result, Ok, Err, refl, sym, ap, ap₂, zero-add, subst, ◌∙◌, arith, append_assoc, append-nil, length-append}
use Rattle.std.proofs.Math.Seq.{take-append_seam}
use Rattle.std.specs.Io.KnownBytes.{Appends, Consumes, Keeps, IsAtEnd}
use Rattle.std.proofs.KnownBytes.{Consumes-nil, Consumes-trans, Consumes-kept, Consumes-whole, Appends-kept, Appends-nil, Appends-trans}
use Rattle.shm_debug.specs.Limits.{max_bytes}
use Rattle.shm_debug.specs.Script.{Script, after, broken, whole, script_of}
use Rattle.shm_debug.specs.Output.{text_of, text_from}
use Rattle.shm_debug.specs.Said.{standing_after}
use Rattle.shm_debug.specs.Reading.{Moment, start, reach, rest_of, WritesLines, Stops, Plays, Fails, Ended}
use Rattle.shm_debug.specs.Replay.{summary_at, Ends, Pauses, Gathers, IsTextOfFirst, IsFrontOfText, IsFaultOf, is_write_fault, PausesAllRead, TellsAllRead}
use Rattle.shm_lines.specs.declared.script_line.Line.{Line}
use Rattle.shm_debug.specs.declared.script_summary_and_error.Summary.{Summary}
use Rattle.shm_debug.specs.declared.script_summary_and_error.DebugFault.{DebugFault}
use Rattle.shm_debug.specs.declared.script_summary_and_error.DebugFault.TheVariants.{OutOfMemory, BadLine, LineTooLong, TooManyLines, ReadFault, WriteFault}
use Rattle.shm_debug.proofs.ReadingLemmas.{Plays-trans, Plays-none, Fails-after, text_from-append}

-- so far: these bytes were taken, and this text was told
abbrev pub SoFar : Option (List ℕ) → Option (List ℕ) → Option (List ℕ) → Option (List ℕ) → List ℕ → Moment → Type 0
SoFar r0 r w0 w pending player =
    (taken : List ℕ) × (text : List ℕ) × Plays start taken player [] text × Consumes r0 r taken × Gathers w0 w pending text

pub SoFar-none : (r w : Option (List ℕ)) → SoFar r r w w [] start
SoFar-none r w = ([], [], Plays-none start [], Consumes-nil r, ([], Appends-nil w, refl))

-- the text before what is pending doesn't matter to what is told
Tells-behind : (m : Moment) (lines : List Line) (front old new : List ℕ) → WritesLines m lines old new → WritesLines m lines (front ++ old) (front ++ new)
Tells-behind m lines front old new t = ap (λ l. front ++ l) t ∙ sym (append_assoc front old (text_from (m.lines + 1) m.standing lines))

pub SoFar-played : (r0 r r1 w0 w : Option (List ℕ)) (old new : List ℕ) (player next : Moment) (bytes : List ℕ)
    → SoFar r0 r w0 w old player → Consumes r r1 bytes → Plays player bytes next old new → SoFar r0 r1 w0 w new next
SoFar-played r0 r r1 w0 w old new player next bytes s c p =
    let written = s.4.0 in
    let moved : Plays player bytes next s.1 (written ++ new) =
    (p.0, p.1, subst (λ t. WritesLines player p.0 t (written ++ new)) (sym s.4.2) (Tells-behind player p.0 written old new p.2)) in
    (s.0 ++ bytes, written ++ new, Plays-trans start player next s.0 bytes [] s.1 (written ++ new) s.2 moved, Consumes-trans r0 r r1 s.0 bytes s.3 c, (written, s.4.1, refl))

pub SoFar-written : (r0 r w0 w w1 : Option (List ℕ)) (pending : List ℕ) (player : Moment)
    → SoFar r0 r w0 w pending player → Appends w w1 pending → SoFar r0 r w0 w1 [] player
SoFar-written r0 r w0 w w1 pending player s a =
    (s.0, s.1, s.2, s.3, (s.4.0 ++ pending, Appends-trans w0 w w1 s.4.0 pending s.4.1 a, s.4.2 ∙ sym (append-nil (s.4.0 ++ pending))))

-- no more is read than may be
pub within : (r0 r r1 w0 w : Option (List ℕ)) (pending : List ℕ) (player : Moment) (bytes : List ℕ)
    → SoFar r0 r w0 w pending player → Consumes r r1 bytes → reach player + length bytes ≤ max_bytes
    → (taken : List ℕ) × Consumes r0 r1 taken × (length taken ≤ max_bytes)
within r0 r r1 w0 w pending player bytes s c room =
    let o = s.2.1 in
    (s.0 ++ bytes, Consumes-trans r0 r r1 s.0 bytes s.3 c, omega (arith, length-append s.0 bytes, o.reached, room))

known : (r0 r : Option (List ℕ)) (taken : List ℕ) (P : List ℕ → Type 0) → Consumes r0 r taken → ((more : List ℕ) → P (taken ++ more)) → IfSome r0 P
known None r taken P c h = tt
known (Some x) None taken P c h = absurd c
known (Some x) (Some y) taken P c h = subst P (sym c) (h y)

first-lines : (script rest : Script) (lines : List Line) (text : List ℕ) → script ≡ after lines rest → text ≡ text_of lines → IsTextOfFirst script text
first-lines script rest lines text e t =
    (length lines, t ∙ ap text_of (sym (ap (λ (s : Script). take (length lines) s.lines) e ∙ take-append_seam lines rest.lines)))

first-begun : (script : Script) (lines others : List Line) (text : List ℕ) → script.lines ≡ lines ++ others → text ≡ text_of lines → IsTextOfFirst script text
first-begun script lines others text e t =
    (length lines, t ∙ ap text_of (sym (ap (take (length lines)) e ∙ take-append_seam lines others)))

broken-there : (script : Script) (lines : List Line) (fault : DebugFault) (text : List ℕ) → script ≡ after lines (broken fault) → text ≡ text_of lines → IsFaultOf script fault text
broken-there script lines fault text e t =
    (ap (λ (s : Script). s.fault) e, t ∙ ap text_of (sym (ap (λ (s : Script). s.lines) e ∙ append-nil lines)))

-- the reader failed
pub read_failed : (r0 r w0 w : Option (List ℕ)) (pending : List ℕ) (player : Moment) → SoFar r0 r w0 w pending player
    → IfSome r0 (λ bytes. Pauses w0 w pending (script_of bytes) (Err ReadFault))
read_failed r0 r w0 w pending player s =
    known r0 r s.0 (λ bytes. Pauses w0 w pending (script_of bytes) (Err ReadFault)) s.3
    (λ more. (s.1, s.4, first-lines (script_of (s.0 ++ more)) (rest_of player more) s.2.0 s.1 (s.2.1.rest more) s.2.2))

-- memory was refused before anything was read
pub none_read : (r w : Option (List ℕ)) → IfSome r (λ bytes. Pauses w w [] (script_of bytes) (Err OutOfMemory))
none_read r w = known r r [] (λ bytes. Pauses w w [] (script_of bytes) (Err OutOfMemory)) (Consumes-nil r) (λ more. ([], ([], Appends-nil w, refl), (0, refl)))

-- the input's end
pub all_read : (r0 r w0 w : Option (List ℕ)) (pending : List ℕ) (player : Moment) (result : Result Summary DebugFault)
    → SoFar r0 r w0 w pending player → IsAtEnd r → Ended player result → IfSome r0 (λ bytes. Pauses w0 w pending (script_of bytes) result)
all_read r0 r w0 w pending player (Ok summary) s end e =
    let lines = s.2.0 in
    let o = s.2.1 in
    let script : script_of s.0 ≡ after lines whole = ap script_of (sym (append-nil s.0)) ∙ o.rest [] ∙ ap (after lines) e.0 in
    let kept : (script_of s.0).lines ≡ lines = ap (λ (t : Script). t.lines) script ∙ append-nil lines in
    Consumes-whole r0 r s.0 (λ bytes. Pauses w0 w pending (script_of bytes) (Ok summary)) s.3 end (
      s.1,
      s.4,
      (
        ap (λ (t : Script). t.fault) script,
        s.2.2 ∙ ap text_of (sym kept),
        e.1 ∙ ap₂ summary_at (o.count ∙ zero-add (length lines) ∙ ap length (sym kept)) (o.stands ∙ ap (standing_after None) (sym kept)),
      ),
    )
all_read r0 r w0 w pending player (Err fault) s end e =
    let lines = s.2.0 in
    let script : script_of s.0 ≡ after lines (broken fault) = ap script_of (sym (append-nil s.0)) ∙ s.2.1.rest [] ∙ ap (after lines) e.0 in
    Consumes-whole r0 r s.0 (λ bytes. Pauses w0 w pending (script_of bytes) (Err fault)) s.3 end
    (subst (λ f. Pauses w0 w pending (script_of s.0) (Err f)) (sym e.1)
    (s.1, s.4, broken-there (script_of s.0) lines (BadLine (player.lines + 1)) s.1 (script ∙ ap (λ f. after lines (broken f)) e.1) s.2.2))

-- what is written is a front of the text, where it is a front of what was told
front : (script : Script) (lines others : List Line) (text written pending : List ℕ) → script.lines ≡ lines ++ others → text ≡ text_of lines → text ≡ written ++ pending
    → IsFrontOfText script written
front script lines others text written pending e t g = (
  pending ++ text_from (length lines + 1) (standing_after None lines) others,
  ap text_of e ∙ text_from-append 1 (length lines + 1) None lines others (omega arith)
      ∙ ap (λ l. l ++ text_from (length lines + 1) (standing_after None lines) others) (sym t ∙ g)
      ∙ append_assoc written pending (text_from (length lines + 1) (standing_after None lines) others),
)

stopped : (w0 w : Option (List ℕ)) (taken text pending more : List ℕ) (lines : List Line) (fault : DebugFault) → Gathers w0 w pending text → Stops start taken lines fault → text ≡ text_of lines
    → Pauses w0 w pending (script_of (taken ++ more)) (Err fault)
stopped w0 w taken text pending more lines OutOfMemory g h t = let r = h more in (text, g, first-begun (script_of (taken ++ more)) lines r.0 text r.1 t)
stopped w0 w taken text pending more lines ReadFault g h t = absurd h
stopped w0 w taken text pending more lines WriteFault g h t = absurd h
stopped w0 w taken text pending more lines (BadLine n) g h t = (text, g, broken-there (script_of (taken ++ more)) lines (BadLine n) text (h more) t)
stopped w0 w taken text pending more lines (LineTooLong n) g h t = (text, g, broken-there (script_of (taken ++ more)) lines (LineTooLong n) text (h more) t)
stopped w0 w taken text pending more lines TooManyLines g h t = (text, g, broken-there (script_of (taken ++ more)) lines TooManyLines text (h more) t)

-- a fault came while bytes were read on
pub stopped_there : (r0 r r1 w0 w : Option (List ℕ)) (old new : List ℕ) (player : Moment) (bytes : List ℕ) (fault : DebugFault)
    → SoFar r0 r w0 w old player → Consumes r r1 bytes → Fails player bytes fault old new → IfSome r0 (λ all. Pauses w0 w new (script_of all) (Err fault))
stopped_there r0 r r1 w0 w old new player bytes fault s c f =
    let written = s.4.0 in
    let moved : Fails player bytes fault s.1 (written ++ new) =
    (f.0, f.1, subst (λ t. WritesLines player f.0 t (written ++ new)) (sym s.4.2) (Tells-behind player f.0 written old new f.2)) in
    let joined = Fails-after start player s.0 bytes [] s.1 (written ++ new) fault s.2 moved in
    known r0 r1 (s.0 ++ bytes) (λ all. Pauses w0 w new (script_of all) (Err fault)) (Consumes-trans r0 r r1 s.0 bytes s.3 c)
    (λ more. stopped w0 w (s.0 ++ bytes) (written ++ new) new more joined.0 fault (written, s.4.1, refl) joined.1 joined.2)

-- the writer took only a front of what was pending
pub write_failed : (r0 r w0 w w1 : Option (List ℕ)) (pending : List ℕ) (player : Moment) (n : ℕ)
    → SoFar r0 r w0 w pending player → Appends w w1 (take n pending) → IfSome r0 (λ bytes. (text : List ℕ) × Appends w0 w1 text × IsFrontOfText (script_of bytes) text)
write_failed r0 r w0 w w1 pending player n s a =
    known r0 r s.0 (λ bytes. (text : List ℕ) × Appends w0 w1 text × IsFrontOfText (script_of bytes) text) s.3
    (λ more. (
      s.4.0 ++ take n pending,
      Appends-trans w0 w w1 s.4.0 (take n pending) s.4.1 a,
      front (script_of (s.0 ++ more)) s.2.0 (rest_of player more).lines s.1 (s.4.0 ++ take n pending) (drop n pending)
          (ap (λ (t : Script). t.lines) (s.2.1.rest more)) s.2.2
          (s.4.2 ∙ ap (λ l. s.4.0 ++ l) (sym (take-append-drop n pending)) ∙ sym (append_assoc s.4.0 (take n pending) (drop n pending))),
    ))

-- nothing more was there to be read
pub SoFar-end : (r0 r r1 w0 w : Option (List ℕ)) (pending : List ℕ) (player : Moment) → SoFar r0 r w0 w pending player → Consumes r r1 [] → SoFar r0 r1 w0 w pending player
SoFar-end r0 r r1 w0 w pending player s c =
    (s.0, s.1, s.2, subst (Consumes r0 r1) (append-nil s.0) (Consumes-trans r0 r r1 s.0 [] s.3 c), s.4)

-- ---- what is pending is written

gathered : (old new last : Option (List ℕ)) (pending text : List ℕ) → Gathers old new pending text → Appends new last pending → Appends old last text
gathered old new last pending text g a = subst (Appends old last) (sym g.2) (Appends-trans old new last g.0 pending g.1 a)

pub all_written : (old new last : Option (List ℕ)) (pending : List ℕ) (script : Script) (result : Result Summary DebugFault)
    → Pauses old new pending script result → is_write_fault result ≡ false → Appends new last pending → (text : List ℕ) × Appends old last text × Ends script result text
all_written old new last pending script (Ok summary) p e a = (p.0, gathered old new last pending p.0 p.1 a, p.2)
all_written old new last pending script (Err OutOfMemory) p e a = (p.0, gathered old new last pending p.0 p.1 a, p.2)
all_written old new last pending script (Err ReadFault) p e a = (p.0, gathered old new last pending p.0 p.1 a, p.2)
all_written old new last pending script (Err WriteFault) p e a = absurd (cc)
all_written old new last pending script (Err (BadLine n)) p e a = (p.0, gathered old new last pending p.0 p.1 a, p.2)
all_written old new last pending script (Err (LineTooLong n)) p e a = (p.0, gathered old new last pending p.0 p.1 a, p.2)
all_written old new last pending script (Err TooManyLines) p e a = (p.0, gathered old new last pending p.0 p.1 a, p.2)

pub none_written : (old new : Option (List ℕ)) (pending : List ℕ) (script : Script) (result : Result Summary DebugFault)
    → Pauses old new pending script result → is_write_fault result ≡ true → (text : List ℕ) × Appends old new text × Ends script result text
none_written old new pending script (Ok summary) p e = absurd (cc)
none_written old new pending script (Err OutOfMemory) p e = absurd (cc)
none_written old new pending script (Err ReadFault) p e = absurd (cc)
none_written old new pending script (Err WriteFault) p e = p
none_written old new pending script (Err (BadLine n)) p e = absurd (cc)
none_written old new pending script (Err (LineTooLong n)) p e = absurd (cc)
none_written old new pending script (Err TooManyLines) p e = absurd (cc)

-- a front of the text of some first lines is a front of the text
front-first : (script : Script) (text written pending : List ℕ) → IsTextOfFirst script text → text ≡ written ++ pending → IsFrontOfText script written
front-first script text written pending t g =
    front script (take t.0 script.lines) (drop t.0 script.lines) text written pending (sym (take-append-drop t.0 script.lines)) t.1 g

front-whole : (script : Script) (text written pending : List ℕ) → text ≡ text_of script.lines → text ≡ written ++ pending → IsFrontOfText script written
front-whole script text written pending t g = (pending, sym t ∙ g)

torn : (old new last : Option (List ℕ)) (pending text : List ℕ) (n : ℕ) (script : Script) → Gathers old new pending text → Appends new last (take n pending)
    → ((written : List ℕ) (rest : List ℕ) → text ≡ written ++ rest → IsFrontOfText script written) → (text : List ℕ) × Appends old last text × IsFrontOfText script text
torn old new last pending text n script g a f = (
  g.0 ++ take n pending,
  Appends-trans old new last g.0 (take n pending) g.1 a,
  f (g.0 ++ take n pending) (drop n pending)
      (g.2 ∙ ap (λ l. g.0 ++ l) (sym (take-append-drop n pending)) ∙ sym (append_assoc g.0 (take n pending) (drop n pending))),
)

-- the writer failed at last
pub some_written : (old new last : Option (List ℕ)) (pending : List ℕ) (n : ℕ) (script : Script) (result : Result Summary DebugFault)
    → Pauses old new pending script result → is_write_fault result ≡ false → Appends new last (take n pending)
    → (text : List ℕ) × Appends old last text × IsFrontOfText script text
some_written old new last pending n script (Ok summary) p e a = torn old new last pending p.0 n script p.1 a (λ w r g. front-whole script p.0 w r p.2.1 g)
some_written old new last pending n script (Err OutOfMemory) p e a = torn old new last pending p.0 n script p.1 a (λ w r g. front-first script p.0 w r p.2 g)
some_written old new last pending n script (Err ReadFault) p e a = torn old new last pending p.0 n script p.1 a (λ w r g. front-first script p.0 w r p.2 g)
some_written old new last pending n script (Err WriteFault) p e a = absurd (cc)
some_written old new last pending n script (Err (BadLine m)) p e a = torn old new last pending p.0 n script p.1 a (λ w r g. front-whole script p.0 w r p.2.1 g)
some_written old new last pending n script (Err (LineTooLong m)) p e a = torn old new last pending p.0 n script p.1 a (λ w r g. front-whole script p.0 w r p.2.1 g)
some_written old new last pending n script (Err TooManyLines) p e a = torn old new last pending p.0 n script p.1 a (λ w r g. front-whole script p.0 w r p.2.1 g)

pub IfSome-map : (o : Option (List ℕ)) (P Q : List ℕ → Type 0) → IfSome o P → ((x : List ℕ) → P x → Q x) → IfSome o Q
IfSome-map None P Q p f = tt
IfSome-map (Some x) P Q p f = f x p

-- ---- no whole line that was read is missing

pub all_told : (r0 r r1 w0 w : Option (List ℕ)) (pending : List ℕ) (player : Moment) → SoFar r0 r w0 w pending player → pending ≡ []
    → (rest_of player []).lines ≡ [] → Keeps r r1 → PausesAllRead r0 r1 w0 w pending (Err ReadFault)
all_told r0 r r1 w0 w pending player s none none_yet kept =
    let lines = s.2.0 in
    let read : (script_of s.0).lines ≡ lines =
    ap (λ (t : Script). t.lines) (ap script_of (sym (append-nil s.0)) ∙ s.2.1.rest []) ∙ ap (λ l. lines ++ l) none_yet ∙ append-nil lines in
    let whole : s.4.0 ≡ text_of (script_of s.0).lines = sym (append-nil s.4.0) ∙ ap (λ l. s.4.0 ++ l) (sym none) ∙ sym s.4.2 ∙ s.2.2 ∙ ap text_of (sym read) in
    (none, (s.0, Consumes-kept r0 r r1 s.0 s.3 kept, subst (Appends w0 w) whole s.4.1))

-- neither a line's fault nor the end is a failure of the reader
pub ended_read : (r0 r w0 w : Option (List ℕ)) (pending : List ℕ) (player : Moment) (result : Result Summary DebugFault) → Ended player result → PausesAllRead r0 r w0 w pending result
ended_read r0 r w0 w pending player (Ok summary) e = tt
ended_read r0 r w0 w pending player (Err fault) e = subst (λ f. PausesAllRead r0 r w0 w pending (Err f)) (sym e.1) tt

pub stopped_read : (r0 r w0 w : Option (List ℕ)) (pending : List ℕ) (player : Moment) (bytes old new : List ℕ) (fault : DebugFault) → Fails player bytes fault old new
    → PausesAllRead r0 r w0 w pending (Err fault)
stopped_read r0 r w0 w pending player bytes old new OutOfMemory f = tt
stopped_read r0 r w0 w pending player bytes old new ReadFault f = absurd f.1
stopped_read r0 r w0 w pending player bytes old new WriteFault f = tt
stopped_read r0 r w0 w pending player bytes old new (BadLine n) f = tt
stopped_read r0 r w0 w pending player bytes old new (LineTooLong n) f = tt
stopped_read r0 r w0 w pending player bytes old new TooManyLines f = tt

-- nor does it change to the end
pub told_read : (r0 r w0 w1 w2 w3 : Option (List ℕ)) (pending : List ℕ) (played ended result : Result Summary DebugFault) → PausesAllRead r0 r w0 w1 pending played
    → (is_write_fault ended ≡ false → ended ≡ played) → (is_write_fault ended ≡ false → Appends w1 w2 pending) → Keeps w2 w3
    → (is_write_fault result ≡ false → result ≡ ended) → TellsAllRead r0 r w0 w3 result
told_read r0 r w0 w1 w2 w3 pending played ended (Err ReadFault) p as_played written kept as_ended =
    let same : Err ReadFault ≡ ended = as_ended refl in
    let fine : is_write_fault ended ≡ false = ap is_write_fault (sym same) in
    let read : PausesAllRead r0 r w0 w1 pending (Err ReadFault) = subst (PausesAllRead r0 r w0 w1 pending) (sym (same ∙ as_played fine)) p in
    let text = text_of (script_of read.1.0).lines in
    let none : Appends w1 w2 [] = subst (Appends w1 w2) read.0 (written fine) in
    let all : Appends w0 w2 text = subst (Appends w0 w2) (append-nil text) (Appends-trans w0 w1 w2 text [] read.1.2 none) in
    (read.1.0, read.1.1, Appends-kept w0 w2 w3 text all kept)
told_read r0 r w0 w1 w2 w3 pending played ended (Ok summary) p as_played written kept as_ended = tt
told_read r0 r w0 w1 w2 w3 pending played ended (Err OutOfMemory) p as_played written kept as_ended = tt
told_read r0 r w0 w1 w2 w3 pending played ended (Err WriteFault) p as_played written kept as_ended = tt
told_read r0 r w0 w1 w2 w3 pending played ended (Err (BadLine n)) p as_played written kept as_ended = tt
told_read r0 r w0 w1 w2 w3 pending played ended (Err (LineTooLong n)) p as_played written kept as_ended = tt
told_read r0 r w0 w1 w2 w3 pending played ended (Err TooManyLines) p as_played written kept as_ended = tt
