use Rattle.std.proofs.Common.{◌≡◌, OnOk, ap, subst, sym}
use Rattle.shm_process.specs.NodeOf.{node_of}
use Rattle.shm_process.specs.Waiting.{after}
use Rattle.shm_wire.specs.Line as stream
use Rattle.shm_wire.specs.LineOf.{line_of}
use Rattle.shm_process.proofs.node.Node.take.Goals as goal

pub returns-in-Ask-clause-after : goal.returns-in-Ask-clause-after
returns-in-Ask-clause-after g c =
    subst (λ (line : stream.Line). OnOk c.take_ask.result (node_of c.take_ask.new.self ≡ after (node_of c.args.self.now) line))
    (sym (ap line_of c.in-Ask.is)) c.take_ask.ensures.after
