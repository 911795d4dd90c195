use Rattle.std.proofs.Common.{arith}
use Rattle.shm_prompt.proofs.SavedLemmas.{all_read, one-more, refused-event, refused-first}
use Rattle.shm_prompt.proofs.saved_script_text.text_of.Goals as goal

pub events-preserved : goal.events-preserved
events-preserved g c =
    one-more c.args.first c.args.events.now c.events.event-index c.event-item.result c.events.text.items c.push_line-in-events.new.text.items
    c.events-test.true c.event-item.is c.events.invariant c.in-Ok-push_line.ensures.text c.in-Ok-push_line.ensures.spelled

pub returns-clause-replays : goal.returns-clause-replays
returns-clause-replays g c = λ s opening same early.
    all_read c.lines_have_one_spelling.ensures.spelled s c.args.first c.args.events.now c.events.event-index c.events.text.items
    (omega (arith, c.events-test.false)) c.events.invariant opening same early

pub returns-in-Err-clause-refused : goal.returns-in-Err-clause-refused
returns-in-Err-clause-refused g c = λ s opening same early. refused-first s c.args.first c.in-Err.refusal early opening c.in-Err.ensures.refused

pub returns-in-Err-push_line-clause-refused : goal.returns-in-Err-push_line-clause-refused
returns-in-Err-push_line-clause-refused g c = λ s opening same early.
    refused-event s c.args.events.now c.events.event-index c.event-item.result c.in-Err-push_line.refusal early same c.events-test.true c.event-item.is c.in-Err-push_line.ensures.refused
