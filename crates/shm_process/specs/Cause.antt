-- What makes a step: a line, which may have waited since it came, or a restart; and its text, as the step is recorded.
use Rattle.std.specs.Prelude.{⊤, ℕ, List, codes}
use Rattle.shm_wire.specs.Line.{Line, IsLine, line_text}

pub data Cause : Type 0 where
  OfLine : Line → Cause
  OfRestart : Cause

-- those that have a text
abbrev pub IsCause : Cause → Type 0
IsCause (OfLine line) = IsLine line
IsCause OfRestart = ⊤

abbrev pub cause_text : Cause → List ℕ
cause_text (OfLine line) = line_text line
cause_text OfRestart = codes "restart"
