-- What is left of an unmap whose bytes are stored one after another: its runs, of the first of which some bytes were stored.
use Rattle.std.specs.Prelude.{ℕ, ◌+◌, List, [], ◌∷◌, ◌++◌, drop, length}
use Rattle.shm_wire.specs.Line as stream
use Rattle.shm_wire.specs.Unmaps.{Run, UnmapAsk}
use Rattle.shm_process.specs.Cause.{Cause, OfLine}
use Rattle.shm_process.specs.Causes.{bare, brought_run, brought_runs}

-- how many bytes the first of these runs has
abbrev pub first_size : List Run → ℕ
first_size [] = 0
first_size (run ∷ runs) = length run.bytes

-- the stores of these runs, but for the first ones of the first run
abbrev pub runs_left : UnmapAsk → ℕ → List Run → List Cause
runs_left ask made [] = []
runs_left ask made (run ∷ runs) = brought_run ask (run.offset + made) (drop made run.bytes) ++ brought_runs ask runs

-- and then the unmap's own step
abbrev pub unmap_rest : UnmapAsk → ℕ → List Run → List Cause
unmap_rest ask made runs = runs_left ask made runs ++ OfLine (stream.Unmap (bare ask)) ∷ []
