use Rattle.std.proofs.Common.{◌∙◌}
use Rattle.shm_keys.proofs.Bits.{owner_read, group_read, others_read}
use Rattle.shm_keys.proofs.permission.Class.may_read.Goals as goal

pub returns-in-Owner : goal.returns-in-Owner
returns-in-Owner c = rw c.in-Owner.is (c.contains.ensures ∙ owner_read c.args.mode)

pub returns-in-Group : goal.returns-in-Group
returns-in-Group c = rw c.in-Group.is (c.contains-in-Group.ensures ∙ group_read c.args.mode)

pub returns-in-Others : goal.returns-in-Others
returns-in-Others c = rw c.in-Others.is (c.contains-in-Others.ensures ∙ others_read c.args.mode)
