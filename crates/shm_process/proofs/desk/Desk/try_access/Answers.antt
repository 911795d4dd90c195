use Rattle.std.proofs.Common.{rules, ◌≡◌, ◌∙◌, Option, None, Some, ap, sym}
use Rattle.std.specs.Prelude.{option_map}
use Rattle.std.proofs.lemmas.Result.{IfOk-weaker}
use Rattle.shm_wire.specs.LineOf.{line_of}
use Rattle.shm_wire.specs.TagOf.{tag_text}
use Rattle.shm_process.specs.Cause.{Cause, OfLine, cause_text}
use Rattle.shm_process.specs.Desk.{tried, tried_so}
use Rattle.shm_process.specs.DeskOf.{desk_of}
use Rattle.shm_process.specs.Node.{Said}
use Rattle.shm_process.specs.NodeOf.{node_of, said_of}
use Rattle.shm_process.specs.Waiting.{said}
use Rattle.shm_process.proofs.Pushed.{tried_made, tried_none}
use Rattle.shm_process.proofs.desk.Desk.try_access.Goals as goal

pub returns-in-Some : goal.returns-in-Some
returns-in-Some g c = λ read asked step.
    let desk = desk_of c.args.self.now in
    let line = line_of c.args.step in
    let cause : Cause = OfLine line in
    let node = node_of c.take.new.self in
    let says = said_of cause c.in-Some.said in
    let next = desk_of c.end_try.new.self in
    let says_so : Some says ≡ said desk.node line = sym (ap (option_map (said_of cause)) c.in-Some.is) ∙ c.in_ok-said.ensures.said in
    let text : cause_text cause ≡ c.as_bytes.result.now = search rules in
    IfOk-weaker c.end_try.result (λ _. next ≡ tried_so (record desk { node = node }) c.args.line.now (option_map tag_text c.tag_in-tag.result) says)
    (λ _. next ≡ tried desk c.args.line.now read asked)
    (λ _ e. tried_made desk next c.args.line.now read asked line node says (option_map tag_text c.tag_in-tag.result) step c.in_ok-said.ensures.after says_so c.tag_in-tag.ensures e)
    (c.end_try.ensures cause text (sym c.is_envelope-received.ensures))

pub returns : goal.returns
returns g c = λ read asked step.
    let desk = desk_of c.args.self.now in
    let line = line_of c.args.step in
    let cause : Cause = OfLine line in
    let none : Option Said = None in
    let says_so : none ≡ said desk.node line = sym (ap (option_map (said_of cause)) c.in-None.is) ∙ c.in_ok-said.ensures.said in
    tried_none desk c.args.line.now read asked line (node_of c.take.new.self) step c.in_ok-said.ensures.after says_so
