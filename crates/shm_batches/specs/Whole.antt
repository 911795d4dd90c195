-- What is whole of a journal's file: the batches up to the first that isn't the next one with its mark. What stands behind them is whatever a crash
-- left, or damage.
use Rattle.std.specs.Prelude.{ℕ, ◌||◌, Bool, false, List, [], ◌∷◌, ◌++◌, drop, if◌then◌else◌, length}
use Rattle.std.specs.List.{concat}
use Rattle.std.specs.Str.{bytes_eq}
use Rattle.shm_batches.specs.Chain.{Chain, begins_as_mark, chain_after, file_text, is_marked, mark_line, unmarked, with_batch}
use Rattle.shm_journal.specs.Found.{lines_of}

-- The lines of each whole batch, with their line feeds; of these lines, behind what was read of the first batch. They end where a line begins as a
-- mark and isn't the next one.
unfoldable pub whole_in : Chain → List ℕ → List (List ℕ) → List (List ℕ)
whole_in chain text [] = []
whole_in chain text (line ∷ lines) =
    if begins_as_mark line then
    (if bytes_eq line (mark_line chain text) then text ∷ whole_in (with_batch chain text) [] lines else [])
    else whole_in chain (text ++ (line ++ 10 ∷ [])) lines

-- those of these bytes, behind this chain and these lines
abbrev pub whole_on : Chain → List ℕ → List ℕ → List (List ℕ)
whole_on chain text bytes = whole_in chain text (lines_of bytes).whole

abbrev pub whole_batches : List ℕ → List (List ℕ)
whole_batches file = whole_on unmarked [] file

-- the lines of all of them: the journal
abbrev pub whole_text : List ℕ → List ℕ
whole_text file = concat (whole_batches file)

-- how many bytes of the file they take, with their marks
abbrev pub whole_bytes : List ℕ → ℕ
whole_bytes file = length (file_text unmarked (whole_batches file))

abbrev pub whole_chain : List ℕ → Chain
whole_chain file = chain_after unmarked (whole_batches file)

-- ---- what is behind them

-- A mark among these lines has the digest of what stands between it and the mark before it, or of these lines behind what was read: a batch that
-- is whole by itself.
unfoldable pub marked_in : List ℕ → List (List ℕ) → Bool
marked_in text [] = false
marked_in text (line ∷ lines) =
    if begins_as_mark line then is_marked text line || marked_in [] lines else marked_in (text ++ (line ++ 10 ∷ [])) lines

-- Behind what is broken stands a batch that is whole by itself. Each batch is durable before the next is written: so a crash leaves none there,
-- unless the disk had one there before.
abbrev pub is_damaged : List ℕ → Bool
is_damaged file = marked_in [] (lines_of (drop (whole_bytes file) file)).whole

-- ---- lines without marks

unfoldable pub unmarked_in : List (List ℕ) → List ℕ
unmarked_in [] = []
unmarked_in (line ∷ lines) = if begins_as_mark line then unmarked_in lines else (line ++ 10 ∷ []) ++ unmarked_in lines

-- the whole lines that don't begin as a mark, with their line feeds
abbrev pub unmarked_text : List ℕ → List ℕ
unmarked_text bytes = unmarked_in (lines_of bytes).whole
