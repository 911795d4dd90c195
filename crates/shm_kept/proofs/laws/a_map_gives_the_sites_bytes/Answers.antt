use Rattle.shm_kept.proofs.Bytes.{gives-bytes}
use Rattle.shm_kept.proofs.laws.a_map_gives_the_sites_bytes.Goals as goal

pub returns : goal.returns
returns c = gives-bytes
