-- What was received is marked, and the marks are counted.
use Rattle.std.proofs.Common.{◌∙◌, ap, arith}
use Rattle.std.specs.List.{count_by}
use Rattle.shm_report.proofs.Counted.{all_marked, none_marked, one_marked}
use Rattle.shm_report.proofs.count_run.count_received.Goals as goal

pub events-init : goal.events-init
events-init c = none_marked c.args.envelopes c.args.events.now _ (c.in_ok-marks.ensures.items_if_clones_equal (λ y h. h))

pub events-preserved : goal.events-preserved
events-preserved c =
    one_marked
    c.args.envelopes c.args.events.now c.events.event-index c.event-item.result c.events.marks.items c.mark.new.marks.items
    c.events-test.true c.event-item.is c.events.invariant c.mark.ensures.length c.mark.ensures.marked

pub returns : goal.returns
returns c =
    let marks = c.events.marks.items in
    c.count_marks.ensures
    ∙ ap (count_by (λ m. m)) c.as_slice.ensures.value
    ∙ all_marked c.args.envelopes c.args.events.now c.events.event-index marks (omega arith) c.events.invariant
