use Rattle.shm_kept.proofs.Desks.{bytes-keep, happenings-keep, new-keeps}
use Rattle.shm_kept.proofs.laws.what_a_site_maps_is_kept.Goals as goal

pub returns-clause-new : goal.returns-clause-new
returns-clause-new c = new-keeps

pub returns-clause-steps : goal.returns-clause-steps
returns-clause-steps c = bytes-keep

pub returns-clause-always : goal.returns-clause-always
returns-clause-always c = λ desk happenings k. happenings-keep happenings desk k
