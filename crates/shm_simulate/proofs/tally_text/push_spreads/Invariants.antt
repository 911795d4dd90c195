use Rattle.std.proofs.Common.{◌≡◌, ◌++◌, drop}
use Rattle.std.specs.Prelude.{string_bytes}
use Rattle.shm_simulate.specs.Texts.{spreads_text}
use Rattle.shm_simulate.proofs.tally_text.push_spreads.Given as goal

abbrev pub invariant-spreads : goal.invariant-spreads
invariant-spreads l = string_bytes l.out ++ spreads_text l.runs (drop l.spread-index l.spreads) ≡ string_bytes l.fn.out ++ spreads_text l.runs l.spreads
