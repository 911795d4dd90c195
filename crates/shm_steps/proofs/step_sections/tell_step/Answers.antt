use Rattle.std.proofs.Common.{string_bytes}
use Rattle.shm_model.specs.World as model
use Rattle.shm_steps.proofs.Stepping.{step_told}
use Rattle.shm_steps.proofs.step_sections.tell_step.Goals as goal

pub returns : goal.returns
returns g c = λ w stands.
    let went = c.in_ok-answer.ensures.next w stands in
    let after = (model.next w c.args.event.now).world in
    step_told c.tell_world.result c.args.pages.now w c.args.number c.args.event.now
    (string_bytes c.args.out.now) (string_bytes c.tell_line.new.out) (string_bytes c.write_answer.new.out) (string_bytes c.push_str.new.self) (string_bytes c.tell_world.new.out)
    c.step.new.self c.in_ok-answer.answer c.sent-sent.result
    went.stands went.answered (c.sent-sent.ensures w stands)
    c.in_ok-tell_line.ensures (c.in_ok-write_answer.ensures after went.stands) c.in_ok-push_str.ensures.bytes (c.tell_world.ensures after went.stands)
