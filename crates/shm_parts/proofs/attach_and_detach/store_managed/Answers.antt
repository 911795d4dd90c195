use Rattle.std.proofs.Common.{refl}
use Rattle.shm_model.specs.Site.{untouched}
use Rattle.shm_parts.proofs.attach_and_detach.store_managed.Goals as goal

pub returns-in-Ok-clause-same : goal.returns-in-Ok-clause-same
returns-in-Ok-clause-same g c = c.ensure.ensures.same (untouched c.args.sites c.args.me) refl

pub returns-in-Err-clause-same : goal.returns-in-Err-clause-same
returns-in-Err-clause-same g c = c.ensure.ensures.same (untouched c.args.sites c.args.me) refl
