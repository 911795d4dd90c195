use Rattle.std.proofs.Common.{◌≡◌, ◌++◌, drop}
use Rattle.std.specs.Prelude.{string_bytes}
use Rattle.shm_simulate.specs.Texts.{outcomes_text}
use Rattle.shm_simulate.proofs.tally_text.push_outcomes.Given as goal

-- what is told, and what is still to be, is all
abbrev pub invariant-outcomes : goal.invariant-outcomes
invariant-outcomes l = string_bytes l.out ++ outcomes_text l.seed l.number (drop l.outcome-index l.outcomes) ≡ string_bytes l.fn.out ++ outcomes_text l.seed 1 l.outcomes
