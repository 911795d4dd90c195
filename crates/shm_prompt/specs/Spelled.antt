-- Lines as they stand in a script that is saved.
use Rattle.std.specs.Prelude.{⊤, ◌≡◌, ℕ, ◌<◌, ◌≤◌, ◌==◌, true, not, All, List, [], ◌∷◌, ◌++◌, codes, length}
use Rattle.std.specs.List.{list_all}
use Rattle.shm_debug.specs.Limits.{max_lines}
use Rattle.shm_lines.specs.Spelling.{IsLine, spelling}
use Rattle.shm_lines.specs.declared.script_line.Line.{Line}
use Rattle.shm_prompt.specs.declared.save_refusal.SaveRefusal.{SaveRefusal}
use Rattle.shm_prompt.specs.declared.save_refusal.SaveRefusal.TheVariants as refusal

-- the most bytes of a line of a script
abbrev pub max_line_bytes : ℕ
max_line_bytes = 200

-- a line that a replay reads as itself: it has a spelling, which is short, and has no line feed
pub record IsSpelled (line : Line) : Type 0 where
  pub is : IsLine line
  pub short : length (spelling line) ≤ max_line_bytes
  pub unended : list_all (λ byte. not (byte == 10)) (spelling line) ≡ true

abbrev pub line_bytes : Line → List ℕ
line_bytes line = spelling line ++ 10 ∷ []

-- Why these lines aren't saved: they are more than a script may have; or they aren't, but not each is one that a replay reads as itself. Memory
-- that is refused says nothing of them.
abbrev pub AreRefused : List Line → SaveRefusal → Type 0
AreRefused lines refusal.OutOfMemory = ⊤
AreRefused lines refusal.TooManyLines = max_lines < length lines
AreRefused lines refusal.NoLine = (length lines ≤ max_lines) × (¬ All IsSpelled lines)

abbrev pub refusal_words : SaveRefusal → List ℕ
refusal_words refusal.OutOfMemory = codes "out of memory"
refusal_words refusal.TooManyLines = codes "more lines than a script may have"
refusal_words refusal.NoLine = codes "an event that no line of a script spells"
