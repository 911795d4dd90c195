use Rattle.std.proofs.Common.{rules, ◌≡◌, ◌∙◌, Some, ap, map, refl}
use Rattle.std.proofs.lemmas.Result.{IfOk-weaker}
use Rattle.shm_process.specs.Cause.{OfRestart, cause_text}
use Rattle.shm_process.specs.Desk.{restarted, with_step}
use Rattle.shm_process.specs.DeskOf.{desk_of, kept_of}
use Rattle.shm_process.specs.NodeOf.{node_of, said_of}
use Rattle.shm_process.proofs.Pushed.{restarted_so}
use Rattle.shm_process.proofs.desk.Desk.restart.Goals as goal

pub returns : goal.returns
returns g c =
    let desk = desk_of c.args.self.now in
    let node = node_of c.restart.new.self in
    let said = said_of OfRestart c.in_ok-said.said in
    let text : cause_text OfRestart ≡ c.as_slice.result.now = search rules in
    let next = desk_of c.push_step.new.self in
    let kept = c.clear.new.self.items in
    IfOk-weaker c.push_step.result (λ _. next ≡ with_step (record desk { node = node; kept = map kept_of kept }) (Some said)) (λ _. next ≡ restarted desk)
    (λ _ e. restarted_so desk next node said c.in_ok-said.ensures.after c.in_ok-said.ensures.said
    (e ∙ ap (λ k. with_step (record desk { node = node; kept = map kept_of k }) (Some said)) c.clear.ensures.items))
    (c.push_step.ensures OfRestart text refl)
