use Rattle.std.proofs.Common.{◌≡◌, ◌∙◌, Option, None, Some, ap, sym}
use Rattle.std.specs.Prelude.{option_map}
use Rattle.std.proofs.lemmas.Result.{IfOk-weaker}
use Rattle.shm_wire.specs.LineOf.{line_of}
use Rattle.shm_process.specs.Cause.{Cause, OfLine}
use Rattle.shm_process.specs.Desk.{unrecorded, with_told}
use Rattle.shm_process.specs.DeskOf.{desk_of}
use Rattle.shm_process.specs.Node.{Said}
use Rattle.shm_process.specs.NodeOf.{node_of, said_of}
use Rattle.shm_process.specs.Waiting.{said}
use Rattle.shm_process.proofs.Pushed.{unrecorded_none, unrecorded_so}
use Rattle.shm_process.proofs.desk.Desk.make_unrecorded.Goals as goal

pub returns-in-Some : goal.returns-in-Some
returns-in-Some g c =
    let desk = desk_of c.args.self.now in
    let line = line_of c.args.read in
    let cause : Cause = OfLine line in
    let node = node_of c.take.new.self in
    let says = said_of cause c.in-Some.said in
    let now = said_of cause c.untagged.result in
    let next = desk_of c.push_told.new.self in
    let says_so : Some says ≡ said desk.node line = sym (ap (option_map (said_of cause)) c.in-Some.is) ∙ c.in_ok-said.ensures.said in
    IfOk-weaker c.push_told.result (λ _. next ≡ with_told (record desk { node = node }) now) (λ _. next ≡ unrecorded desk line)
    (λ _ e. unrecorded_so desk next line node says now c.in_ok-said.ensures.after says_so (c.untagged.ensures cause) e)
    (c.push_told.ensures cause c.requires.asked)

pub returns-in-None : goal.returns-in-None
returns-in-None g c =
    let desk = desk_of c.args.self.now in
    let line = line_of c.args.read in
    let none : Option Said = None in
    let says_so : none ≡ said desk.node line = sym (ap (option_map (said_of (OfLine line))) c.in-None.is) ∙ c.in_ok-said.ensures.said in
    unrecorded_none desk line (node_of c.take.new.self) c.in_ok-said.ensures.after says_so
