use Rattle.shm_site.specs.Step.{input_of}
use Rattle.shm_process.proofs.OwnAccess.{own_access}
use Rattle.shm_process.proofs.node_retries.step_access.Goals as goal

pub step_spending-requires : goal.step_spending-requires
step_spending-requires g c = own_access c.args.site.now.sites c.args.site.now.me (input_of c.args.input) c.requires
