use Rattle.std.proofs.Common.{ap, map}
use Rattle.shm_model.specs.Step.{ask_again}
use Rattle.shm_parts.specs.Message.{envelope_of}
use Rattle.shm_parts.specs.Pendings.{pending_of, pendings_of}
use Rattle.shm_site.proofs.Ticks.{is_sent_push}
use Rattle.shm_site.proofs.site.Site.ask_again.Goals as goal

pub requests-preserved : goal.requests-preserved
requests-preserved g c =
    let self = c.args.self.now in
    let ask = ask_again self.sites self.me in
    is_sent_push envelope_of (map envelope_of c.args.list.now.items) c.requests.list.items c.push.new.self.items c.ask_envelope.result _
    (map ask (map pending_of c.requests.page-iterator)) (map ask (map pending_of c.next.new.self)) (map ask (pendings_of self.pending))
    c.requests.invariant (ap (λ l. map ask (map pending_of l)) c.in-Some.ensures.steps) c.in_ok-push.ensures.items c.ask_envelope.ensures
