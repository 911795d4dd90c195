use Rattle.std.proofs.Common.{map, ap, ◌∙◌}
use Rattle.shm_parts.specs.Pendings.{pending_of}
use Rattle.shm_parts.proofs.PendingLemmas.{pending_filtered}
use Rattle.shm_parts.proofs.pending_requests.Pendings.remove_segment.Goals as goal

pub returns : goal.returns
returns g c = ap (map pending_of) c.remove_segment.ensures ∙ pending_filtered c.args.id c.args.self.now.pages
