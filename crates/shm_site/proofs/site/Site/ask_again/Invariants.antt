use Rattle.std.proofs.Common.{map}
use Rattle.shm_model.specs.Step.{ask_again}
use Rattle.shm_parts.specs.Pendings.{pending_of, pendings_of}
use Rattle.shm_parts.specs.Message.{envelope_of}
use Rattle.shm_site.proofs.Ticks.{IsSent}
use Rattle.shm_site.proofs.site.Site.ask_again.Given as goal

abbrev pub invariant-requests : goal.invariant-requests
invariant-requests g l =
    let ask = ask_again l.self.sites l.self.me in
    IsSent (map envelope_of l.fn.list.items) (map envelope_of l.list.items) (map ask (map pending_of l.page-iterator)) (map ask (pendings_of l.self.pending))
