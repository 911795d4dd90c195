-- What has been read of a script, and what stands at its end.
use Rattle.std.proofs.Common.{◌≡◌, ◌∙◌, ℕ, List, [], ◌++◌, length, take, drop, take-append-drop, Option, None, Some, IfSome, Ok, Err, refl, sym, ap, subst, append-nil}
use Rattle.std.proofs.Math.Seq.{take-append_seam}
use Rattle.std.specs.Io.KnownBytes.{Appends, Consumes, IsAtEnd, Keeps}
use Rattle.std.proofs.KnownBytes.{Appends-kept, Consumes-whole}
use Rattle.shm_lines.specs.Line.{line_of}
use Rattle.shm_lines.specs.Spelling.{IsLine}
use Rattle.shm_lines.specs.declared.script_line.Line.{Line}
use Rattle.shm_debug.specs.Script.{Script, after, whole, script_of}
use Rattle.shm_debug.specs.Said.{standing_after}
use Rattle.shm_debug.specs.Standing.{Standing}
use Rattle.shm_debug.specs.Reading.{Moment, Ended, Fails, rest_of}
use Rattle.shm_debug.specs.Replay.{Pauses}
use Rattle.shm_debug.specs.declared.script_summary_and_error.Summary.{Summary}
use Rattle.shm_debug.specs.declared.script_summary_and_error.DebugFault.{DebugFault}
use Rattle.shm_debug.specs.declared.script_summary_and_error.DebugFault.TheVariants.{OutOfMemory, BadLine, LineTooLong, TooManyLines, ReadFault, WriteFault}
use Rattle.shm_debug.proofs.PromiseLemmas.{Begins, begins-always}
use Rattle.shm_debug.proofs.ReplayLemmas.{IfSome-map, SoFar, all_read, stopped_there}
use Rattle.shm_draw.specs.Drawn.{BeganRight, LeadsTo, Stopped, Writes}

-- ---- the lines that were read, and what stands after them

lines_of : (r0 r w0 w : Option (List ℕ)) (pending : List ℕ) (player : Moment) (s : SoFar r0 r w0 w pending player)
    → (script_of s.0).lines ≡ s.2.0 ++ (rest_of player []).lines
lines_of r0 r w0 w pending player s = ap (λ (t : Script). t.lines) (ap script_of (sym (append-nil s.0)) ∙ s.2.1.rest [])

began-right : (s : Option Standing) → Begins s → BeganRight s
began-right None h = tt
began-right (Some s) h = h

pub began : ((bytes : List ℕ) (line : Line) → line_of bytes ≡ Some line → IsLine line) → (r0 r w0 w : Option (List ℕ)) (pending : List ℕ) (player : Moment)
    → SoFar r0 r w0 w pending player → BeganRight player.standing
began spelled r0 r w0 w pending player s =
    let lines = s.2.0 in
    let taken : take (length lines) (script_of s.0).lines ≡ lines =
    ap (take (length lines)) (lines_of r0 r w0 w pending player s) ∙ take-append_seam lines (rest_of player []).lines in
    let same : standing_after None (take (length lines) (script_of s.0).lines) ≡ player.standing = ap (standing_after None) taken ∙ sym s.2.1.stands in
    began-right player.standing (subst Begins same (begins-always spelled s.0 (length lines)))

-- ---- the end of the input

pub stands_there : (r0 r w0 w : Option (List ℕ)) (pending : List ℕ) (player : Moment) (summary : Summary)
    → SoFar r0 r w0 w pending player → IsAtEnd r → Ended player (Ok summary) → IfSome r0 (λ bytes. LeadsTo (script_of bytes) player.standing)
stands_there r0 r w0 w pending player summary s end e =
    let lines = s.2.0 in
    let script : script_of s.0 ≡ after lines whole = ap script_of (sym (append-nil s.0)) ∙ s.2.1.rest [] ∙ ap (after lines) e.0 in
    let kept : (script_of s.0).lines ≡ lines = ap (λ (t : Script). t.lines) script ∙ append-nil lines in
    Consumes-whole r0 r s.0 (λ bytes. LeadsTo (script_of bytes) player.standing) s.3 end
    (record { whole = ap (λ (t : Script). t.fault) script; stands = s.2.1.stands ∙ ap (standing_after None) (sym kept) })

-- a fault that isn't the writer's
abbrev Unwritten : DebugFault → Type 0
Unwritten OutOfMemory = Unit {0}
Unwritten ReadFault = Unit {0}
Unwritten WriteFault = ⊥
Unwritten (BadLine number) = Unit {0}
Unwritten (LineTooLong number) = Unit {0}
Unwritten TooManyLines = Unit {0}

fails-unwritten : (player : Moment) (bytes old new : List ℕ) (fault : DebugFault) → Fails player bytes fault old new → Unwritten fault
fails-unwritten player bytes old new OutOfMemory f = tt
fails-unwritten player bytes old new ReadFault f = tt
fails-unwritten player bytes old new WriteFault f = f.1
fails-unwritten player bytes old new (BadLine n) f = tt
fails-unwritten player bytes old new (LineTooLong n) f = tt
fails-unwritten player bytes old new TooManyLines f = tt

stopped-pauses : (w0 w : Option (List ℕ)) (pending : List ℕ) (script : Script) (fault : DebugFault) → Unwritten fault → Pauses w0 w pending script (Err fault)
    → Stopped script fault
stopped-pauses w0 w pending script OutOfMemory u p = tt
stopped-pauses w0 w pending script ReadFault u p = tt
stopped-pauses w0 w pending script WriteFault u p = u
stopped-pauses w0 w pending script (BadLine n) u p = p.2.0
stopped-pauses w0 w pending script (LineTooLong n) u p = p.2.0
stopped-pauses w0 w pending script TooManyLines u p = p.2.0

stopped-some : (r0 w0 w : Option (List ℕ)) (pending : List ℕ) (fault : DebugFault) → Unwritten fault
    → IfSome r0 (λ bytes. Pauses w0 w pending (script_of bytes) (Err fault)) → IfSome r0 (λ bytes. Stopped (script_of bytes) fault)
stopped-some r0 w0 w pending fault u p =
    IfSome-map r0 (λ bytes. Pauses w0 w pending (script_of bytes) (Err fault)) (λ bytes. Stopped (script_of bytes) fault) p
    (λ bytes q. stopped-pauses w0 w pending (script_of bytes) fault u q)

-- a fault came while bytes were read on
pub stopped_on : (r0 r r1 w0 w : Option (List ℕ)) (old new : List ℕ) (player : Moment) (bytes : List ℕ) (fault : DebugFault)
    → SoFar r0 r w0 w old player → Consumes r r1 bytes → Fails player bytes fault old new → IfSome r0 (λ all. Stopped (script_of all) fault)
stopped_on r0 r r1 w0 w old new player bytes fault s c f =
    stopped-some r0 w0 w new fault (fails-unwritten player bytes old new fault f) (stopped_there r0 r r1 w0 w old new player bytes fault s c f)

-- a reader whose bytes aren't known
some-always : (o : Option (List ℕ)) (P : List ℕ → Type 0) → ((bytes : List ℕ) → P bytes) → IfSome o P
some-always None P h = tt
some-always (Some x) P h = h x

-- what the input's end says, by what was answered
pub ended_there : (r0 r w0 w : Option (List ℕ)) (pending : List ℕ) (player : Moment) (fault : DebugFault)
    → SoFar r0 r w0 w pending player → IsAtEnd r → Ended player (Err fault) → IfSome r0 (λ bytes. Stopped (script_of bytes) fault)
ended_there r0 r w0 w pending player fault s end e =
    stopped-some r0 w0 w pending fault (subst Unwritten (sym e.1) tt) (all_read r0 r w0 w pending player (Err fault) s end e)

-- ---- what was written by the end; `draw` is what is drawn of what stands

-- what is drawn of a whole script
abbrev drawn_of : (Option Standing → List ℕ) → Script → List ℕ
drawn_of draw script = draw (standing_after None script.lines)

pub draws-stopped : (drawn : List ℕ) (script : Script) (fault : DebugFault) → Stopped script fault → Writes drawn script (Err fault) []
draws-stopped drawn script OutOfMemory s = refl
draws-stopped drawn script ReadFault s = refl
draws-stopped drawn script WriteFault s = absurd s
draws-stopped drawn script (BadLine n) s = (s, refl)
draws-stopped drawn script (LineTooLong n) s = (s, refl)
draws-stopped drawn script TooManyLines s = (s, refl)

is-drawing : (draw : Option Standing → List ℕ) (script : Script) (standing : Option Standing) (picture : List ℕ) → LeadsTo script standing → picture ≡ draw standing
    → picture ≡ drawn_of draw script
is-drawing draw script standing picture s e = e ∙ ap draw s.stands

draws-front : (draw : Option Standing → List ℕ) (script : Script) (standing : Option Standing) (picture : List ℕ) (n : ℕ) → LeadsTo script standing → picture ≡ draw standing
    → Writes (drawn_of draw script) script (Err WriteFault) (take n picture)
draws-front draw script standing picture n s e =
    (s.whole, (drop n picture, sym (is-drawing draw script standing picture s e) ∙ sym (take-append-drop n picture)))

draws-unflushed : (draw : Option Standing → List ℕ) (script : Script) (standing : Option Standing) (picture : List ℕ) → LeadsTo script standing → picture ≡ draw standing
    → Writes (drawn_of draw script) script (Err WriteFault) picture
draws-unflushed draw script standing picture s e = (s.whole, ([], sym (is-drawing draw script standing picture s e) ∙ sym (append-nil picture)))

-- ---- it is written

pub drawn_whole : (r : Option (List ℕ)) (draw : Option Standing → List ℕ) (standing : Option Standing) (picture : List ℕ) (w0 w1 w2 : Option (List ℕ)) (done : Unit {0})
    → IfSome r (λ bytes. LeadsTo (script_of bytes) standing) → picture ≡ draw standing → Appends w0 w1 picture → Keeps w1 w2
    → IfSome r (λ bytes. (text : List ℕ) × Appends w0 w2 text × Writes (draw (standing_after None (script_of bytes).lines)) (script_of bytes) (Ok done) text)
drawn_whole r draw standing picture w0 w1 w2 done stands is wrote kept =
    IfSome-map r (λ bytes. LeadsTo (script_of bytes) standing)
    (λ bytes. (text : List ℕ) × Appends w0 w2 text × Writes (draw (standing_after None (script_of bytes).lines)) (script_of bytes) (Ok done) text) stands
    (λ bytes s. (picture, Appends-kept w0 w1 w2 picture wrote kept, (s.whole, is-drawing draw (script_of bytes) standing picture s is)))

pub drawn_unflushed : (r : Option (List ℕ)) (draw : Option Standing → List ℕ) (standing : Option Standing) (picture : List ℕ) (w0 w1 w2 : Option (List ℕ))
    → IfSome r (λ bytes. LeadsTo (script_of bytes) standing) → picture ≡ draw standing → Appends w0 w1 picture → Keeps w1 w2
    → IfSome r (λ bytes. (text : List ℕ) × Appends w0 w2 text × Writes (draw (standing_after None (script_of bytes).lines)) (script_of bytes) (Err WriteFault) text)
drawn_unflushed r draw standing picture w0 w1 w2 stands is wrote kept =
    IfSome-map r (λ bytes. LeadsTo (script_of bytes) standing)
    (λ bytes. (text : List ℕ) × Appends w0 w2 text × Writes (draw (standing_after None (script_of bytes).lines)) (script_of bytes) (Err WriteFault) text) stands
    (λ bytes s. (picture, Appends-kept w0 w1 w2 picture wrote kept, draws-unflushed draw (script_of bytes) standing picture s is))

pub drawn_in_front : (r : Option (List ℕ)) (draw : Option Standing → List ℕ) (standing : Option Standing) (picture : List ℕ) (w0 w1 : Option (List ℕ)) (n : ℕ)
    → IfSome r (λ bytes. LeadsTo (script_of bytes) standing) → picture ≡ draw standing → Appends w0 w1 (take n picture)
    → IfSome r (λ bytes. (text : List ℕ) × Appends w0 w1 text × Writes (draw (standing_after None (script_of bytes).lines)) (script_of bytes) (Err WriteFault) text)
drawn_in_front r draw standing picture w0 w1 n stands is wrote =
    IfSome-map r (λ bytes. LeadsTo (script_of bytes) standing)
    (λ bytes. (text : List ℕ) × Appends w0 w1 text × Writes (draw (standing_after None (script_of bytes).lines)) (script_of bytes) (Err WriteFault) text) stands
    (λ bytes s. (take n picture, wrote, draws-front draw (script_of bytes) standing picture n s is))
