-- What becomes of an envelope between two sites' threads, by the number that was drawn for it.
use Rattle.std.specs.Prelude.{ℕ, ◌%◌, ◌==◌, if◌then◌else◌}
use Rattle.shm_sites.specs.declared.cluster.envelope_fate.Fate.{Fate}
use Rattle.shm_sites.specs.declared.cluster.envelope_fate.Fate.TheVariants as fate

-- of 16 envelopes one is lost, and one comes twice
abbrev pub fate_of : ℕ → Fate
fate_of drawn =
    if drawn % 16 == 0 then fate.Lost
    else (if drawn % 16 == 1 then fate.Twice else fate.Once)
