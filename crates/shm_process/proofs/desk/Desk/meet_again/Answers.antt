use Rattle.std.proofs.Common.{◌≡◌, ◌∙◌, None, Some, ap, sym}
use Rattle.std.specs.Prelude.{option_map}
use Rattle.std.proofs.lemmas.Result.{IfOk-weaker}
use Rattle.shm_wire.specs.Line.{read_line}
use Rattle.shm_wire.specs.LineOf.{line_of}
use Rattle.shm_process.specs.Desk.{by_meeting, met, met_read}
use Rattle.shm_process.specs.DeskOf.{desk_of}
use Rattle.shm_process.specs.Meetings.{meeting}
use Rattle.shm_process.proofs.desk.Desk.meet_again.Goals as goal

pub returns-in-Some : goal.returns-in-Some
returns-in-Some g c =
    let desk = desk_of c.args.self.now in
    let line = c.args.line.now in
    let line_read = line_of c.in-Some.read in
    let next = desk_of c.meet_read.new.self in
    let read : Some line_read ≡ read_line line = sym (ap (option_map line_of) c.in-Some.is) ∙ c.in_ok-read.ensures.read in
    IfOk-weaker c.meet_read.result (λ _. next ≡ by_meeting c.args.fresh desk line line_read (meeting desk.node line_read)) (λ _. next ≡ met c.args.fresh desk line)
    (λ _ e. e ∙ ap (met_read c.args.fresh desk line) read) c.meet_read.ensures

pub returns-in-None : goal.returns-in-None
returns-in-None g c =
    let desk = desk_of c.args.self.now in
    let line = c.args.line.now in
    let read : None ≡ read_line line = sym (ap (option_map line_of) c.in-None.is) ∙ c.in_ok-read.ensures.read in
    ap (λ n. record desk { node = n }) c.pass_over.ensures ∙ ap (met_read c.args.fresh desk line) read
