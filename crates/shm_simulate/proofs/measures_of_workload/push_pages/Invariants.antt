use Rattle.std.proofs.Common.{◌≡◌, ◌++◌}
use Rattle.shm_simulate.specs.Measures.{page_measures}
use Rattle.shm_simulate.proofs.measures_of_workload.push_pages.Given as goal

abbrev pub invariant-pages : goal.invariant-pages
invariant-pages l = l.all.items ≡ l.fn.all.items ++ page_measures l.page
