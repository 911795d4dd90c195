use Rattle.std.proofs.Common.{ap, not, sym, true, false, ◌∙◌}
use Rattle.shm_parts.proofs.PendingLemmas.{none_settles, pending_settles}
use Rattle.shm_parts.proofs.pending_requests.Pendings.asks_to_read.Goals as goal

pub returns-in-Some : goal.returns-in-Some
returns-in-Some g c =
    ap not c.is_write.ensures ∙ sym (pending_settles true false c.args.page c.in-Some.pending.now c.args.self.now.pages (sym c.in-Some.ensures))

pub returns-in-None : goal.returns-in-None
returns-in-None g c = sym (none_settles true false c.args.page c.args.self.now.pages (sym c.in-None.ensures))
