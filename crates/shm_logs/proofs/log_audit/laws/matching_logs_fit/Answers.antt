use Rattle.shm_logs.proofs.Audits.Fits.{logs-fit}
use Rattle.shm_logs.proofs.log_audit.laws.matching_logs_fit.Goals as goal

pub returns : goal.returns
returns g c = logs-fit c.args.sites c.args.pages c.args.logs.now c.requires
