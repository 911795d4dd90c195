use Rattle.std.proofs.Common.{true, false, map, ap, sym, ◌∙◌}
use Rattle.shm_parts.specs.Pendings.{pending_of, pendings_of}
use Rattle.shm_parts.proofs.PendingLemmas.{pending_kept, pending_settled}
use Rattle.shm_parts.proofs.pending_requests.Pendings.settle_read.Goals as goal

pub returns-then-asks_to_read : goal.returns-then-asks_to_read
returns-then-asks_to_read g c =
    ap (map pending_of) c.remove.ensures.first
    ∙ pending_settled true false c.args.page c.args.self.now.pages (sym c.asks_to_read.ensures ∙ c.if-asks_to_read.true)

pub returns-else-asks_to_read : goal.returns-else-asks_to_read
returns-else-asks_to_read g c =
    pending_kept true false c.args.page (pendings_of c.args.self.now) (sym c.asks_to_read.ensures ∙ c.if-asks_to_read.false)
