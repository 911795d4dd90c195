use Rattle.std.proofs.Common.{map, ap, ◌∙◌}
use Rattle.shm_parts.specs.Pendings.{pending_of}
use Rattle.shm_parts.proofs.PendingLemmas.{pending_put}
use Rattle.shm_parts.proofs.pending_requests.Pendings.put.Goals as goal

pub returns-clause-put : goal.returns-clause-put
returns-clause-put g c =
    ap (map pending_of) c.in_ok-put.ensures.put ∙ pending_put c.args.page (c.args.request, c.args.kind) c.args.self.now.pages
