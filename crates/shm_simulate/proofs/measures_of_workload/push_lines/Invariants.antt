use Rattle.std.proofs.Common.{◌≡◌, ◌++◌, drop}
use Rattle.shm_simulate.specs.Measures.{line_measures}
use Rattle.shm_simulate.proofs.measures_of_workload.push_lines.Given as goal

-- what is pushed, and what is still to be, is all
abbrev pub invariant-accesses : goal.invariant-accesses
invariant-accesses l = l.all.items ++ line_measures l.line (drop l._access-index l.accesses) ≡ l.fn.all.items ++ line_measures 2 l.accesses
