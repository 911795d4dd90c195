use Rattle.std.proofs.Common.{◌≡◌, ◌∙◌, Some, ap}
use Rattle.std.proofs.lemmas.Result.{IfOk-weaker}
use Rattle.shm_process.specs.Desk.{untagged, with_step}
use Rattle.shm_process.specs.DeskOf.{desk_of}
use Rattle.shm_process.specs.NodeOf.{said_of}
use Rattle.shm_process.proofs.desk.Desk.push_quietly.Goals as goal

pub returns : goal.returns
returns g c = λ cause text from.
    let desk = desk_of c.args.self.now in
    let next = desk_of c.push_step.new.self in
    IfOk-weaker c.push_step.result (λ _. next ≡ with_step desk (Some (said_of cause c.untagged-said.result))) (λ _. next ≡ with_step desk (Some (untagged (said_of cause c.args.said))))
    (λ _ e. e ∙ ap (λ s. with_step desk (Some s)) (c.untagged-said.ensures cause)) (c.push_step.ensures cause text from)
