use Rattle.std.proofs.Common.{◌≡◌, ◌∙◌, Some, ap, sym}
use Rattle.std.specs.Prelude.{option_map}
use Rattle.shm_wire.specs.Line as stream
use Rattle.shm_wire.specs.UnmapOf.{unmap_in}
use Rattle.shm_process.specs.Cause.{Cause, OfLine}
use Rattle.shm_process.specs.Node.{heard, says}
use Rattle.shm_process.specs.NodeOf.{heard_of, node_of}
use Rattle.shm_process.specs.Waiting.{joins}
use Rattle.shm_process.proofs.node.Node.take_unmap.Goals as goal

pub returns-in_ok-said-in-Some-clause-said : goal.returns-in_ok-said-in-Some-clause-said
returns-in_ok-said-in-Some-clause-said g c =
    let node = node_of c.args.self.now in
    let line = stream.Unmap (unmap_in c.args.unmap.now) in
    let cause : Cause = OfLine line in
    let hears : Some (heard_of c.in-Some.heard) ≡ heard node line = sym (ap (option_map heard_of) c.in-Some.is) ∙ c.in_ok-heard.ensures.heard in
    ap Some (c.in_ok-said-in-Some.ensures.said cause) ∙ ap (option_map (λ h. says node cause h (joins node h))) hears
