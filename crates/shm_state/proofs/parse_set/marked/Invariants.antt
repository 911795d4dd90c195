use Rattle.std.proofs.Common.{◌≡◌, length, map, take}
use Rattle.shm_state.specs.SetWord.{is_one}
use Rattle.shm_state.proofs.parse_set.marked.Given as goal

abbrev pub invariant-sites : goal.invariant-sites
invariant-sites l = (length l.members ≡ 16) × (take l.site l.members ≡ map is_one (take l.site l.word))
