use Rattle.std.proofs.Common.{◌≡◌, ◌++◌, drop}
use Rattle.std.specs.Prelude.{string_bytes}
use Rattle.shm_simulate.specs.Texts.{given_text}
use Rattle.shm_simulate.proofs.tally_text.push_given.Given as goal

abbrev pub invariant-lines : goal.invariant-lines
invariant-lines l = string_bytes l.out ++ given_text l.line (drop l.gave-index l.given) ≡ string_bytes l.fn.out ++ given_text 2 l.given
