-- The lines of a script are lines, and what they lead to begins as a world may.
use Rattle.std.proofs.Common.{◌≡◌, ℕ, Bool, true, false, List, [], ◌∷◌, ◌&&◌, ◌==◌, ◌+◌, length, nat_lt, nat_le, take, All, Option, None, Some, Result, Ok, Err, cond, refl}
use Rattle.std.proofs.lemmas.List.Elements.{All-cons, All-nil, All-head, All-tail, All-take}
use Rattle.shm_model.specs.declared.event.Event.{Event}
use Rattle.shm_model.specs.Opening.{opening_with}
use Rattle.shm_model.specs.World.{IsOpening, Opening}
use Rattle.shm_lines.specs.Line.{line_of, may_stand, sites_line}
use Rattle.shm_lines.specs.Spelling.{IsLine}
use Rattle.shm_lines.specs.declared.script_line.Line.{Line}
use Rattle.shm_lines.specs.declared.script_line.Line.TheVariants.{Sites, Event as EventLine, Show, Back}
use Rattle.shm_debug.specs.Standing.{Standing, without_last}
use Rattle.shm_model.specs.Promise.{Promised}
use Rattle.shm_debug.specs.Said.{next, standing_after}
use Rattle.shm_debug.specs.Promise.{KeepsPromise}
use Rattle.shm_debug.specs.Script.{Script, begun, parts_of, placed, read_line, read_on, script_of, unended, whole}
use Rattle.shm_debug.specs.declared.script_summary_and_error.DebugFault.{DebugFault}
use Rattle.shm_debug.specs.declared.script_summary_and_error.DebugFault.TheVariants.{BadLine, LineTooLong, TooManyLines}

-- what stands began as a world may
abbrev pub Begins : Option Standing → Type 0
Begins None = Unit {0}
Begins (Some s) = IsOpening s.opening

opens : (count : ℕ) (preset frames : Option ℕ) → IsLine (sites_line count preset frames) → IsOpening (opening_with count preset frames)
opens count None None h = h.0
opens count None (Some frames) h = absurd h.1
opens count (Some size) None h = (h.0.0, h.0.1, h.1.0, h.1.1)
opens count (Some size) (Some frames) h = (h.0.0, h.0.1, h.1.0.0, h.1.0.1, h.1.1.0, h.1.1.1)

either : (b : Bool) (s t : Standing) → IsOpening s.opening → IsOpening t.opening → IsOpening (cond b s t).opening
either true s t h k = h
either false s t h k = k

begins-next : (s : Option Standing) (line : Line) → IsLine line → Begins s → Begins (next s line)
begins-next s (Sites opening) is b = opens opening.sites opening.preset opening.frames is
begins-next None (EventLine e) is b = tt
begins-next None (Show page) is b = tt
begins-next None (Back n) is b = tt
begins-next (Some s) (EventLine e) is b = b
begins-next (Some s) (Show page) is b = b
begins-next (Some s) (Back n) is b = either (nat_le n (length s.events)) (without_last s n) s b b

begins-after : (s : Option Standing) (lines : List Line) → All IsLine lines → Begins s → Begins (standing_after s lines)
begins-after s [] is b = b
begins-after s (x ∷ xs) is b = begins-after (next s x) xs (All-tail IsLine x xs is) (begins-next s x (All-head IsLine x xs is) b)

-- ---- what is read of a script are lines

ok-through : (a b : Bool) (x y : DebugFault) (r : Result Line DebugFault) (line : Line) → cond a (Err x) (cond b (Err y) r) ≡ Ok line → r ≡ Ok line
ok-through true b x y r line e = absurd (cc)
ok-through false true x y r line e = absurd (cc)
ok-through false false x y r line e = e

ok-there : (b : Bool) (l line : Line) (fault : DebugFault) → cond b (Ok l) (Err fault) ≡ Ok line → Some l ≡ Some line
ok-there true l line fault e = cc
ok-there false l line fault e = absurd (cc)

placed-ok : (number : ℕ) (o : Option Line) (line : Line) → placed number o ≡ Ok line → o ≡ Some line
placed-ok number None line e = absurd (cc)
placed-ok number (Some l) line e = ok-there (may_stand number l) l line (BadLine number) e

module _ (spelled : (bytes : List ℕ) (line : Line) → line_of bytes ≡ Some line → IsLine line) where
  reads-line : (number : ℕ) (bytes : List ℕ) (line : Line) → read_line number bytes ≡ Ok line → IsLine line
  reads-line number bytes line e =
      spelled bytes line (placed-ok number (line_of bytes) line
      (ok-through (nat_lt 100000 number) (nat_lt 200 (length bytes)) TooManyLines (LineTooLong number) (placed number (line_of bytes)) line e))

  unended-lines : (number : ℕ) (r : Result Line DebugFault) → All IsLine (unended number r).lines
  unended-lines number (Ok line) = All-nil IsLine
  unended-lines number (Err fault) = All-nil IsLine

  last-lines : (b : Bool) (number : ℕ) (r : Result Line DebugFault) → All IsLine (cond b whole (unended number r)).lines
  last-lines true number r = All-nil IsLine
  last-lines false number r = unended-lines number r

  begun-lines : (r : Result Line DebugFault) (script : Script) → ((line : Line) → r ≡ Ok line → IsLine line) → All IsLine script.lines → All IsLine (begun r script).lines
  begun-lines (Ok line) script h is = All-cons IsLine line script.lines (h line refl) is
  begun-lines (Err fault) script h is = All-nil IsLine

  read-lines : (number : ℕ) (parts : List (List ℕ)) → All IsLine (read_on number parts).lines
  read-lines number [] = All-nil IsLine
  read-lines number (rest ∷ []) = last-lines ((length rest == 0) && nat_lt 1 number) number (read_line number rest)
  read-lines number (bytes ∷ following ∷ others) =
      begun-lines (read_line number bytes) (read_on (number + 1) (following ∷ others)) (reads-line number bytes) (read-lines (number + 1) (following ∷ others))

  script-lines : (bytes : List ℕ) → All IsLine (script_of bytes).lines
  script-lines bytes = read-lines 1 (parts_of bytes)

  pub begins-always : (bytes : List ℕ) (n : ℕ) → Begins (standing_after None (take n (script_of bytes).lines))
  begins-always bytes n = begins-after None (take n (script_of bytes).lines) (All-take IsLine n (script_of bytes).lines (script-lines bytes)) tt

  -- the promise holds of all that begins as a world may
  module _ (promised : (o : Opening) (events : List Event) → IsOpening o → Promised o events) where
    kept : (s : Option Standing) → Begins s → KeepsPromise s
    kept None b = tt
    kept (Some s) b = promised s.opening s.events b

    pub always-kept : (bytes : List ℕ) (n : ℕ) → KeepsPromise (standing_after None (take n (script_of bytes).lines))
    always-kept bytes n = kept (standing_after None (take n (script_of bytes).lines)) (begins-always bytes n)
