use Rattle.std.proofs.Common.{false, map, ap, sym, ◌∙◌}
use Rattle.shm_model.specs.Transfer.{settle}
use Rattle.shm_parts.specs.Pendings.{pending_of, pendings_of}
use Rattle.shm_parts.proofs.PendingLemmas.{nothing_settles, pending_dropped, pending_kept}
use Rattle.shm_parts.proofs.pending_requests.Pendings.settle.Goals as goal

pub returns-then-writes : goal.returns-then-writes
returns-then-writes g c =
    ap (map pending_of) c.remove.ensures.first
    ∙ pending_dropped c.args.reads c.args.page c.args.self.now.pages
    ∙ ap (λ b. settle c.args.reads b c.args.page (pendings_of c.args.self.now)) (sym c.if-writes.true)

pub returns-then-reads : goal.returns-then-reads
returns-then-reads g c =
    c.settle_read.ensures
    ∙ (λ i. settle (sym c.if-reads.true i) (sym c.if-writes.false i) c.args.page (pendings_of c.args.self.now))

pub returns-else-reads : goal.returns-else-reads
returns-else-reads g c =
    pending_kept false false c.args.page (pendings_of c.args.self.now) (nothing_settles c.args.page (pendings_of c.args.self.now))
    ∙ (λ i. settle (sym c.if-reads.false i) (sym c.if-writes.false i) c.args.page (pendings_of c.args.self.now))
