use Rattle.std.proofs.Common.{◌≡◌, ◌++◌, ap₂, length, replicate}
use Rattle.std.proofs.lemmas.List.{drop-replicate}
use Rattle.shm_seal.specs.Hmac.{key_of_block}
use Rattle.shm_seal.proofs.key.filled.Goals as goal

pub returns : goal.returns
unfolding key_of_block
returns c = ap₂ (λ x y. x ++ y) c.copy_from_slice.ensures.after (drop-replicate (length c.args.bytes.now) 64 0)
