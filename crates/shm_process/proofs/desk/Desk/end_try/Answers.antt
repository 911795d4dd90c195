use Rattle.std.proofs.Common.{◌≡◌, Some, true, false}
use Rattle.std.specs.Prelude.{None, option_map}
use Rattle.std.proofs.lemmas.Result.{IfOk-weaker}
use Rattle.shm_wire.specs.TagOf.{tag_text}
use Rattle.shm_process.specs.Access.{is_open}
use Rattle.shm_process.specs.Desk.{keep, tried_so, with_step}
use Rattle.shm_process.specs.DeskOf.{desk_of}
use Rattle.shm_process.specs.NodeOf.{said_of}
use Rattle.shm_process.proofs.MetLines.{tried_closed, tried_open}
use Rattle.shm_process.proofs.desk.Desk.end_try.Goals as goal

pub returns-then-not-is_open : goal.returns-then-not-is_open
returns-then-not-is_open g c = λ cause text from.
    let desk = desk_of c.args.self.now in
    let line = c.args.line.now in
    let tag = option_map tag_text c.args.tag in
    let says = said_of cause c.args.said in
    let next = desk_of c.push_step.new.self in
    let closed : is_open says.answer ≡ false = cc in
    IfOk-weaker c.push_step.result (λ _. next ≡ with_step desk (Some says)) (λ _. next ≡ tried_so desk line tag says)
    (λ _ e. tried_closed desk next line tag says closed e) (c.push_step.ensures cause text from)

pub returns : goal.returns
returns g c = λ cause text from.
    let desk = desk_of c.args.self.now in
    let line = c.args.line.now in
    let tag = option_map tag_text c.args.tag in
    let says = said_of cause c.args.said in
    let quiet = desk_of c.push_quietly.new.self in
    let next = desk_of c.keep_back.new.self in
    let opens : is_open says.answer ≡ true = cc in
    IfOk-weaker c.keep_back.result (λ _. next ≡ keep quiet None line tag) (λ _. next ≡ tried_so desk line tag says)
    (λ _ e. tried_open desk quiet next line tag says opens (c.in_ok-push_quietly.ensures cause text from) e) c.keep_back.ensures
