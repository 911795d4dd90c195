-- The definitions compute each reply.
use Rattle.std.proofs.Common.{refl}
use Rattle.shm_laws.specs.Rows.Table

pub full_table : Table.RepliedSo Table.full_table Table.full_table_replies
unfolding Table.RepliedSo
full_table = refl
