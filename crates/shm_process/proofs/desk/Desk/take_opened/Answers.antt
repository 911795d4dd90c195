use Rattle.std.proofs.Common.{◌≡◌, ◌∙◌, None, Some, ap, sym}
use Rattle.std.specs.Prelude.{Ok, option_map}
use Rattle.std.proofs.lemmas.Result.{IfOk-weaker}
use Rattle.shm_wire.specs.Line.{read_line}
use Rattle.shm_wire.specs.LineOf.{line_of}
use Rattle.shm_process.specs.Desk.{after_opened, after_read_line, passed, settled}
use Rattle.shm_process.specs.DeskOf.{desk_of}
use Rattle.shm_process.specs.Waiting.{most_steps}
use Rattle.shm_process.proofs.Greeting.{nothing_noted}
use Rattle.shm_process.proofs.Pushed.{line_met, line_passed}
use Rattle.shm_process.proofs.desk.Desk.take_opened.Goals as goal

pub returns-in-Some : goal.returns-in-Some
returns-in-Some g c =
    let desk = desk_of c.args.self.now in
    let line = c.args.line.now in
    let line_read = line_of c.in-Some.read in
    let next = desk_of c.take_parsed.new.self in
    let read : Some line_read ≡ read_line line = sym (ap (option_map line_of) c.in-Some.is) ∙ c.in_ok-read.ensures.read in
    let met = desk_of c.note_later.new.self in
    IfOk-weaker c.take_parsed.result (λ _. next ≡ after_read_line met line (Some line_read)) (λ _. next ≡ after_opened desk (Ok line))
    (λ _ e. line_met desk met next line line_read read (nothing_noted desk line line_read read) c.note_later.ensures e) c.take_parsed.ensures

pub returns-in_ok-hear-in-None : goal.returns-in_ok-hear-in-None
returns-in_ok-hear-in-None g c =
    let desk = desk_of c.args.self.now in
    let line = c.args.line.now in
    let heard = desk_of c.hear.new.self in
    let next = desk_of c.pass_line.new.self in
    let read : None ≡ read_line line = sym (ap (option_map line_of) c.in-None.is) ∙ c.in_ok-read.ensures.read in
    IfOk-weaker c.pass_line.result (λ _. next ≡ settled most_steps (passed heard)) (λ _. next ≡ after_opened desk (Ok line))
    (λ _ e. line_passed desk heard next line read c.in_ok-hear-in-None.ensures e) c.pass_line.ensures
