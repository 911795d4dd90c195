use Rattle.std.proofs.Common.{◌≡◌, ◌∙◌, Option, None, Some, ap, sym}
use Rattle.std.specs.Prelude.{option_map}
use Rattle.std.proofs.lemmas.Result.{IfOk-weaker}
use Rattle.shm_wire.specs.LineOf.{line_of}
use Rattle.shm_process.specs.Cause.{Cause, OfLine}
use Rattle.shm_process.specs.Desk.{Desk, taken, with_step}
use Rattle.shm_process.specs.DeskOf.{desk_of}
use Rattle.shm_process.specs.Node.{Node, Said}
use Rattle.shm_process.specs.NodeOf.{node_of, said_of}
use Rattle.shm_process.specs.Waiting.{after, said}
use Rattle.shm_process.proofs.Pushed.{nothing_pushed, taken_so}
use Rattle.shm_process.proofs.desk.Desk.take_read.Goals as goal

pub returns-in-Some : goal.returns-in-Some
returns-in-Some g c =
    let desk = desk_of c.args.self.now in
    let line = line_of c.args.read in
    let cause : Cause = OfLine line in
    let shown = desk_of c.show.new.self in
    let same : shown.node ≡ desk.node = ap (λ (d : Desk). d.node) c.in_ok-show.ensures in
    let node = node_of c.take.new.self in
    let says = said_of cause c.in-Some.said in
    let next = desk_of c.push_step.new.self in
    let says_so : Some says ≡ said desk.node line =
    sym (ap (option_map (said_of cause)) c.in-Some.is) ∙ c.in_ok-said.ensures.said ∙ ap (λ (n : Node). said n line) same in
    IfOk-weaker c.push_step.result (λ _. next ≡ with_step (record shown { node = node }) (Some says)) (λ _. next ≡ taken desk (Some line))
    (λ _ e. taken_so desk next shown (Some line) node (Some says) c.in_ok-show.ensures (c.in_ok-said.ensures.after ∙ ap (λ (n : Node). after n line) same) says_so e)
    (c.push_step.ensures cause (sym c.requires.spelled) (sym c.is_envelope-received.ensures))

pub returns-in-None : goal.returns-in-None
returns-in-None g c =
    let desk = desk_of c.args.self.now in
    let line = line_of c.args.read in
    let cause : Cause = OfLine line in
    let shown = desk_of c.show.new.self in
    let same : shown.node ≡ desk.node = ap (λ (d : Desk). d.node) c.in_ok-show.ensures in
    let node = node_of c.take.new.self in
    let none : Option Said = None in
    let says_so : none ≡ said desk.node line =
    sym (ap (option_map (said_of cause)) c.in-None.is) ∙ c.in_ok-said.ensures.said ∙ ap (λ (n : Node). said n line) same in
    taken_so desk (record shown { node = node }) shown (Some line) node none c.in_ok-show.ensures
    (c.in_ok-said.ensures.after ∙ ap (λ (n : Node). after n line) same) says_so (nothing_pushed (record shown { node = node }))
