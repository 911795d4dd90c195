-- Lines, one after another.
use Rattle.std.proofs.Common.{◌≡◌, ℕ, ◌==◌, false, List, [], ◌∷◌, ◌++◌, cond, ap, sym, ◌∙◌, append_assoc, append-nil}
use Rattle.std.proofs.lemmas.List.Elements.{All-head, All-tail}
use Rattle.shm_journal.proofs.Leading.{line_is_torn}
use Rattle.shm_journal.specs.Found.{Lines, lines_behind, lines_of, with_line}
use Rattle.shm_journal.specs.LinesOf.{Unended}

abbrev pub IsNoFeed : ℕ → Type 0
IsNoFeed byte = (byte == 10) ≡ false

-- a line that begins with this front
pub line-behind : (front line rest : List ℕ) → Unended line → lines_behind front (line ++ 10 ∷ rest) ≡ with_line (front ++ line) (lines_behind [] rest)
unfolding lines_behind
line-behind front [] rest h = ap (λ l. with_line l (lines_behind [] rest)) (sym (append-nil front))
line-behind front (byte ∷ line) rest h =
    ap (λ b. cond b (with_line front (lines_behind [] (line ++ 10 ∷ rest))) (lines_behind (front ++ byte ∷ []) (line ++ 10 ∷ rest))) (All-head IsNoFeed byte line h)
    ∙ line-behind (front ++ byte ∷ []) line rest (All-tail IsNoFeed byte line h)
    ∙ ap (λ l. with_line l (lines_behind [] rest)) (append_assoc front (byte ∷ []) line)

pub line-first : (line rest : List ℕ) → Unended line → lines_of (line ++ 10 ∷ rest) ≡ with_line line (lines_of rest)
line-first line rest h = line-behind [] line rest h

pub none-ends : (line : List ℕ) → Unended line → (lines_of line).whole ≡ []
none-ends line h = ap (λ (l : Lines). l.whole) (line_is_torn line h)
