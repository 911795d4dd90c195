use Rattle.std.proofs.Common.{◌≡◌}
use Rattle.std.specs.Prelude.{Ok, Err}
use Rattle.std.proofs.lemmas.Result.{IfOk-weaker}
use Rattle.shm_process.specs.Desk.{after_line, after_opened}
use Rattle.shm_process.specs.DeskOf.{desk_of}
use Rattle.shm_process.proofs.Pushed.{line_opened}
use Rattle.shm_process.proofs.desk.Desk.take_line.Goals as goal

pub returns-in-Ok : goal.returns-in-Ok
returns-in-Ok g c =
    let desk = desk_of c.args.self.now in
    let line = c.args.line.now in
    let inner = c.in-Ok.inner.now in
    let next = desk_of c.take_opened.new.self in
    IfOk-weaker c.take_opened.result (λ _. next ≡ after_opened desk (Ok inner)) (λ _. next ≡ after_line desk line)
    (λ _ e. line_opened desk next line (Ok inner) c.if-line-gt-MAX_LINE_BYTES.false c.in-Ok.ensures e) c.take_opened.ensures

pub returns-in-Err : goal.returns-in-Err
returns-in-Err g c =
    let desk = desk_of c.args.self.now in
    let line = c.args.line.now in
    let why = c.in-Err.why in
    let next = desk_of c.leave_sealed.new.self in
    IfOk-weaker c.leave_sealed.result (λ _. next ≡ after_opened desk (Err why)) (λ _. next ≡ after_line desk line)
    (λ _ e. line_opened desk next line (Err why) c.if-line-gt-MAX_LINE_BYTES.false c.in-Err.ensures e) c.leave_sealed.ensures
