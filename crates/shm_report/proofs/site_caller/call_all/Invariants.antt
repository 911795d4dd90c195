-- There is a receipt for each of the site's lines so far.
use Rattle.std.proofs.Common.{take}
use Rattle.shm_report.specs.Callers.{ServesAll}
use Rattle.shm_report.proofs.site_caller.call_all.Given as goal

abbrev pub invariant-accesses : goal.invariant-accesses
invariant-accesses g l = ServesAll l.client.post.now.number (take l.place l.accesses) l.receipts.items
