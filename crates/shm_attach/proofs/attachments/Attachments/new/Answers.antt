use Rattle.std.proofs.Common.{None}
use Rattle.shm_attach.proofs.Slots.{all_one}
use Rattle.shm_attach.proofs.attachments.Attachments.new.Goals as goal

pub returns : goal.returns
returns c = all_one 64 None
