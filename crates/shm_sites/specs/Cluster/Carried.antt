-- What a network that loses and repeats makes of envelopes: for each of them a number is drawn.
use Rattle.std.specs.Prelude.{ℕ, List, [], ◌∷◌, ◌++◌}
use Rattle.rand_pcg.specs.Lcg.{Lcg, increment_of, started}
use Rattle.rand_pcg.specs.Pcg.{multiplier_64, pcg32}
use Rattle.shm_sites.specs.Cluster.Fate.{fate_of}
use Rattle.shm_sites.specs.Cluster.Sent.{Sent}
use Rattle.shm_sites.specs.declared.cluster.envelope_fate.Fate.{Fate}
use Rattle.shm_sites.specs.declared.cluster.envelope_fate.Fate.TheVariants as fate

-- of this seed, with the site's number for its stream
abbrev pub generator_of : ℕ → ℕ → Lcg
generator_of seed site = started 64 multiplier_64 seed (increment_of 64 site)

-- what goes on of an envelope
abbrev pub by_fate : Fate → Sent → List Sent
by_fate fate.Lost e = []
by_fate fate.Once e = e ∷ []
by_fate fate.Twice e = e ∷ e ∷ []

-- the generator after a number was drawn for each of these
abbrev pub drawn_for : List Sent → Lcg → Lcg
drawn_for [] draws = draws
drawn_for (e ∷ es) draws = drawn_for es (pcg32 draws).1

-- what goes on of these, in their order
abbrev pub carried : List Sent → Lcg → List Sent
carried [] draws = []
carried (e ∷ es) draws = by_fate (fate_of (pcg32 draws).0) e ++ carried es (pcg32 draws).1
