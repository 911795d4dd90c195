use Rattle.std.proofs.Common.{None}
use Rattle.shm_number.proofs.Tables.{all_one}
use Rattle.shm_number.proofs.kept_reply.KeptReply.new.Goals as goal

pub returns : goal.returns
returns g c = all_one 16 None
