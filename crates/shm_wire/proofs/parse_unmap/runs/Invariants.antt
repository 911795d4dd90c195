use Rattle.std.proofs.Common.{◌≡◌, ◌++◌, true, length, map}
use Rattle.std.specs.Prelude.{is_some, option_map}
use Rattle.shm_wire.specs.Brought.{run_brings}
use Rattle.shm_wire.specs.UnmapOf.{run_in}
use Rattle.shm_wire.specs.Unmaps.{runs_of}
use Rattle.shm_wire.proofs.parse_unmap.runs.Given as goal

-- the runs so far stand before those of the words that are left; and where one is left, there was a first one
abbrev pub invariant-runs : goal.invariant-runs
invariant-runs g l = record {
  read : runs_of l.initial.words ≡ option_map (λ others. map run_in l.runs.items ++ others) (runs_of l.words);
  brings : is_some (run_brings l.words) ≡ true → is_some (run_brings l.initial.words) ≡ true;
}

abbrev pub decreases-runs : goal.decreases-runs
decreases-runs g l = length l.words
