use Rattle.std.proofs.Common.{◌≡◌, ◌∙◌, Option, None, Some, ap, refl, sym}
use Rattle.std.specs.Prelude.{option_map}
use Rattle.std.proofs.lemmas.Result.{IfOk-weaker}
use Rattle.shm_wire.specs.LineOf.{line_of}
use Rattle.shm_process.specs.Cause.{Cause, OfLine}
use Rattle.shm_process.specs.Desk.{quietly, untagged, with_step}
use Rattle.shm_process.specs.DeskOf.{desk_of}
use Rattle.shm_process.specs.Node.{Said}
use Rattle.shm_process.specs.NodeOf.{node_of, said_of}
use Rattle.shm_process.specs.Waiting.{said}
use Rattle.shm_process.proofs.Pushed.{nothing_pushed, quietly_so}
use Rattle.shm_process.proofs.desk.Desk.make_quietly.Goals as goal

pub returns-in-Some : goal.returns-in-Some
returns-in-Some g c =
    let desk = desk_of c.args.self.now in
    let line = line_of c.args.read in
    let cause : Cause = OfLine line in
    let node = node_of c.take.new.self in
    let says = said_of cause c.in-Some.said in
    let next = desk_of c.push_quietly.new.self in
    let says_so : Some says ≡ said desk.node line = sym (ap (option_map (said_of cause)) c.in-Some.is) ∙ c.in_ok-said.ensures.said in
    IfOk-weaker c.push_quietly.result (λ _. next ≡ with_step (record desk { node = node }) (Some (untagged says))) (λ _. next ≡ quietly desk line)
    (λ _ e. quietly_so desk next line node (Some says) (Some (untagged says)) c.in_ok-said.ensures.after says_so refl e)
    (c.push_quietly.ensures cause (sym c.requires.spelled) (sym c.is_envelope-received.ensures))

pub returns-in-None : goal.returns-in-None
returns-in-None g c =
    let desk = desk_of c.args.self.now in
    let line = line_of c.args.read in
    let cause : Cause = OfLine line in
    let node = node_of c.take.new.self in
    let none : Option Said = None in
    let says_so : none ≡ said desk.node line = sym (ap (option_map (said_of cause)) c.in-None.is) ∙ c.in_ok-said.ensures.said in
    quietly_so desk (record desk { node = node }) line node none none c.in_ok-said.ensures.after says_so refl (nothing_pushed (record desk { node = node }))
